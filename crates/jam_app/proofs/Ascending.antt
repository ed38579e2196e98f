-- What ascends by numbers: requires, what they lead to, and links.
use Rattle.std.proofs.Common.{◌≡◌, ℕ, ◌+◌, ◌<◌, ◌⊎◌, inl, inr, List, [], ◌∷◌, ◌++◌, length, take, get_or, refl, ap, sym, subst, ◌∙◌, arith, Option, Some, None}
use Rattle.std.specs.Prelude.{All, Contains, slice_get, IfSome}
use Rattle.std.specs.List.{AllByRecursion}
use Rattle.std.specs.Option.{option_to_list}
use Rattle.std.specs.declared.cmp.Ordering.{Ordering}
use Rattle.std.specs.declared.cmp.Ordering.TheVariants.{Less, Equal, Greater}
use Rattle.std.specs.List.Sorted.{IsStrictlySortedBy}
use Rattle.std.specs.Ordering.{MatchOrdering, nat_cmp, on, ordering_then}
use Rattle.std.proofs.lemmas.Cmp.{ranked}
use Rattle.std.proofs.lemmas.List.{append-nil, get_or-take, get_or_default, length-take-le, take_more}
use Rattle.std.proofs.lemmas.List.Elements.{All-get_or, All-nil, All-head, All-push, All-tail, Contains-append_left, Contains-push}
use Rattle.std.proofs.lemmas.Map.Keys.{Less-from_sorted}
use Rattle.flow_rules.specs.Constraints.{ModuleConstraints}
use Rattle.flow_rules.specs.Flows.{require_order}
use Rattle.flow_rules.specs.declared.module.Require.{Require}
use Rattle.composer.specs.declared.application.Link.{Link}
use Rattle.composer.specs.Parts.{AreLinks, IsNamed, link_order}
use Rattle.jam_app.specs.declared.loading.loaded.Led.{Led}
use Rattle.jam_app.specs.Links.{AreUpTo, IsUpTo, MayAdd}
use Rattle.jam_app.specs.Links.MayAdd.{none, one}
use Rattle.jam_app.specs.Loading.{AreLed, led_order}

-- the order of numbers, and back
less_is : (x y : ℕ) → x < y → nat_cmp x y ≡ Less
less_is x y lt = by (nat_cmp x y) (ranked x y (nat_cmp x y) refl)
  where
    by : (o : Ordering) → MatchOrdering o (x < y) (x ≡ y) (y < x) → o ≡ Less
    by Less h = refl
    by Equal h = absurd (omega (arith, lt, h))
    by Greater h = absurd (omega (arith, lt, h))

equal_is : (x y : ℕ) → x ≡ y → nat_cmp x y ≡ Equal
equal_is x y e = by (nat_cmp x y) (ranked x y (nat_cmp x y) refl)
  where
    by : (o : Ordering) → MatchOrdering o (x < y) (x ≡ y) (y < x) → o ≡ Equal
    by Less h = absurd (omega (arith, e, h))
    by Equal h = refl
    by Greater h = absurd (omega (arith, e, h))

is_less : (x y : ℕ) → nat_cmp x y ≡ Less → x < y
is_less x y e = subst (λ o. MatchOrdering o (x < y) (x ≡ y) (y < x)) e (ranked x y (nat_cmp x y) refl)

-- an item behind all that come before it in an order
all_push : {X : Type 0} (P : X → Type 0) (xs : List X) (y : X) → AllByRecursion P xs → P y → AllByRecursion P (xs ++ y ∷ [])
all_push P [] y h p = (p, tt)
all_push P (x ∷ xs) y h p = (h.0, all_push P xs y h.1 p)

pub sorted_push : {X : Type 0} (R : X → X → Ordering) (xs : List X) (y : X) → IsStrictlySortedBy R xs → All (λ x. R x y ≡ Less) xs → IsStrictlySortedBy R (xs ++ y ∷ [])
unfolding IsStrictlySortedBy
sorted_push R [] y s h = (tt, tt)
sorted_push R (x ∷ xs) y s h = (all_push (λ z. R x z ≡ Less) xs y s.0 (All-head (λ z. R z y ≡ Less) x xs h), sorted_push R xs y s.1 (All-tail (λ z. R z y ≡ Less) x xs h))

-- what stands before an item has a smaller key
smaller : {X : Type 0} (key : X → ℕ) (xs : List X) (i : ℕ) (x y : X) → IsStrictlySortedBy (on key nat_cmp) xs → i < length xs → get_or xs i x ≡ x → Contains (take i xs) y → key y < key x
smaller key xs i x y sorted lt at (j, within, is) =
    let before : j < i = omega (arith, within, length-take-le i xs (omega (arith, lt))) in
    let first : get_or xs j y ≡ y = sym (get_or-take i xs j y before) ∙ is in
    let last : get_or xs i y ≡ x = get_or_default xs i y x lt ∙ at in
    is_less (key y) (key x) (sym (λ k. nat_cmp (key (first k)) (key (last k))) ∙ Less-from_sorted (on key nat_cmp) xs j i y sorted before lt)

-- requires that lead nowhere
pub led_none : (rs : List Require) → AreLed rs []
unfolding IsStrictlySortedBy
led_none rs = record { ascend = tt; named = All-nil (λ (t : Led). (s : Require) × Contains rs s × (s.offset ≡ t.offset)) }

-- one require more, and where it leads
pub led_on : (rs : List Require) (i : ℕ) (r : Require) (ts new : List Led) (led : Option Led) → IsStrictlySortedBy require_order rs → i < length rs → r ≡ get_or rs i r → IfSome led (λ l. l.offset ≡ r.offset) → new ≡ ts ++ option_to_list led → AreLed (take i rs) ts → AreLed (take (i + 1) rs) new
led_on rs i r ts new None sorted lt at offset is h =
    subst (AreLed (take (i + 1) rs)) (sym (is ∙ append-nil ts)) (record { ascend = h.ascend; named = λ k d l. let p = h.named k d l in (p.0, later p.0 p.1, p.2) })
  where
    later : (s : Require) → Contains (take i rs) s → Contains (take (i + 1) rs) s
    later s c = subst (λ ss. Contains ss s) (sym (take_more rs i r lt)) (Contains-append_left (take i rs) (get_or rs i r ∷ []) s c)
led_on rs i r ts new (Some led) sorted lt at offset is h = subst (AreLed (take (i + 1) rs)) (sym is) (record {
  ascend = sorted_push led_order ts led h.ascend (λ k d l.
      let p = h.named k d l in
      less_is (get_or ts k d).offset led.offset (omega (arith, p.2, offset, smaller (λ (s : Require). s.offset) rs i r p.0 sorted lt (sym at) p.1)));
  named = All-push (λ (t : Led). (s : Require) × Contains (take (i + 1) rs) s × (s.offset ≡ t.offset)) ts led (λ k d l. let p = h.named k d l in (p.0, later p.0 p.1, p.2)) (r, this, sym offset);
})
  where
    longer : take (i + 1) rs ≡ take i rs ++ r ∷ []
    longer = take_more rs i r lt ∙ (λ k. take i rs ++ sym at k ∷ [])

    later : (s : Require) → Contains (take i rs) s → Contains (take (i + 1) rs) s
    later s c = subst (λ ss. Contains ss s) (sym longer) (Contains-append_left (take i rs) (r ∷ []) s c)

    this : Contains (take (i + 1) rs) r
    this = subst (λ ss. Contains ss r) (sym longer) (Contains-push (take i rs) r)

-- no links
pub up_to_none : (modules : List ModuleConstraints) (m : ℕ) (targets : List Led) → AreUpTo modules m targets []
unfolding IsStrictlySortedBy
up_to_none modules m targets = record { are = record { sorted = tt; named = All-nil (IsNamed modules) }; up_to = All-nil (IsUpTo m targets) }

-- the link of one require more of module m
module _ (modules : List ModuleConstraints) (m : ℕ) (c : ModuleConstraints) (targets : List Led) (at : slice_get modules m ≡ Some c) (led_is : AreLed c.requires_ targets) where
  before_one : (i : ℕ) (led : Led) (target : ℕ) (x : Link) → i < length targets → get_or targets i led ≡ led → IsUpTo m (take i targets) x → link_order x (record { «module» = m; offset = led.offset; target = target }) ≡ Less
  before_one i led target x lt is (inl h) = ap (λ o. ordering_then o (nat_cmp x.offset led.offset)) (less_is x.module m h)
  before_one i led target x lt is (inr (e, t, ct, o)) =
      ap (λ o. ordering_then o (nat_cmp x.offset led.offset)) (equal_is x.module m e)
      ∙ less_is x.offset led.offset (omega (arith, o, smaller (λ (s : Led). s.offset) targets i led t led_is.ascend lt is ct))

  pub up_to_more : (i : ℕ) (led : Led) (links new : List Link) (n : ℕ) → i < length targets → get_or targets i led ≡ led → length modules ≡ n → AreUpTo modules m (take i targets) links → MayAdd n m led.offset links new → AreUpTo modules m (take (i + 1) targets) new
  up_to_more i led links new n lt is count h none = record { are = h.are; up_to = λ k d l. wider (get_or links k d) (h.up_to k d l) }
    where
      wider : (x : Link) → IsUpTo m (take i targets) x → IsUpTo m (take (i + 1) targets) x
      wider x (inl g) = inl g
      wider x (inr (e, t, ct, o)) = inr (e, t, subst (λ ts. Contains ts t) (sym (take_more targets i led lt)) (Contains-append_left (take i targets) (get_or targets i led ∷ []) t ct), o)
  up_to_more i led links new n lt is count h (one target below) =
      let link : Link = record { «module» = m; offset = led.offset; target = target } in
      let named = subst (λ (t : Led). (r : Require) × Contains c.requires_ r × (r.offset ≡ t.offset)) is (All-get_or (λ (t : Led). (r : Require) × Contains c.requires_ r × (r.offset ≡ t.offset)) targets i led lt led_is.named) in
      record {
        are = record {
          sorted = sorted_push link_order links link h.are.sorted (λ k d l. before_one i led target (get_or links k d) lt is (h.up_to k d l));
          named = All-push (IsNamed modules) links link h.are.named (record { constraints = c; here = at; require = named.0; stands = named.1; offset = named.2; target = omega (arith, below, count) });
        };
        up_to = All-push (IsUpTo m (take (i + 1) targets)) links link (λ k d l. wider (get_or links k d) (h.up_to k d l)) (inr (refl, led, this, refl));
      }
    where
      longer : take (i + 1) targets ≡ take i targets ++ led ∷ []
      longer = take_more targets i led lt ∙ (λ k. take i targets ++ is k ∷ [])

      wider : (x : Link) → IsUpTo m (take i targets) x → IsUpTo m (take (i + 1) targets) x
      wider x (inl g) = inl g
      wider x (inr (e, t, ct, o)) = inr (e, t, subst (λ ts. Contains ts t) (sym longer) (Contains-append_left (take i targets) (led ∷ []) t ct), o)

      this : Contains (take (i + 1) targets) led
      this = subst (λ ts. Contains ts led) (sym longer) (Contains-push (take i targets) led)

-- and the next module
pub up_to_next : (modules : List ModuleConstraints) (m : ℕ) (targets : List Led) (links : List Link) → AreUpTo modules m targets links → AreUpTo modules (m + 1) [] links
up_to_next modules m targets links h = record { are = h.are; up_to = λ k d l. next (get_or links k d) (h.up_to k d l) }
  where
    next : (x : Link) → IsUpTo m targets x → IsUpTo (m + 1) [] x
    next x (inl g) = inl (omega (arith, g))
    next x (inr (e, t, ct, o)) = inl (omega (arith, e))
