-- Links between loaded modules.
use Rattle.std.proofs.Common.{◌≡◌, ◌↔◌, ℕ, zero, suc, ◌+◌, ◌<◌, ◌≤◌, ◌⊎◌, inl, inr, false, List, [], ◌∷◌, ◌++◌, map, length, take, get_or, Option, Some, None, refl, sym, ap, subst, ◌∙◌, arith}
use Rattle.std.specs.Prelude.{Contains, slice_get}
use Rattle.std.specs.List.{HoldsAt}
use Rattle.std.specs.List.Sorted.{IsSortedBy, IsPartitionPoint, IsNonDecreasingBy}
use Rattle.std.specs.Cmp.Lexicographic.{slice_cmp, nat_list_cmp_total}
use Rattle.std.specs.Ordering.{nat_cmp, ordering_index, ordering_reverse, is_lt}
use Rattle.std.specs.Option.{option_map}
use Rattle.std.specs.declared.cmp.Ordering.{Ordering}
use Rattle.std.specs.declared.cmp.Ordering.TheVariants.{Less, Equal, Greater}
use Rattle.std.proofs.lemmas.Cmp.{tied_itself}
use Rattle.std.proofs.lemmas.Option.{slice_get-map, slice_get_read, slice_get_within, slice_get_cases, get_or_from_slice_get, same_Some, none-some}
use Rattle.std.proofs.lemmas.List.{take_more, length-map, get_or-map}
use Rattle.std.proofs.lemmas.List.Elements.{Contains-append_cases, Contains-append_left, Contains-append_right}
use Rattle.std.proofs.lemmas.List.Sorted.{searchable_from_sorted}
use Rattle.std.proofs.lemmas.Map.Keys.{Less-from_sorted}
use Rattle.std.proofs.lemmas.Map.Lookups.{exact_bytes}
use Rattle.composer.proofs.Members.{from_map}
use Rattle.composer.specs.declared.application.Link.{Link}
use Rattle.jam_app.specs.declared.loading.loaded.Led.{Led}
use Rattle.jam_app.specs.declared.loading.loaded.Loaded.{Loaded}
use Rattle.jam_app.specs.Rounds.{Ascend}
use Rattle.jam_app.specs.Links.{Adds, LinksAmong, LinksBelow, LinksOf, StandsAt}

abbrev order : List ℕ → List ℕ → Ordering
order = slice_cmp nat_cmp

abbrev paths : List Loaded → List (List ℕ)
paths loaded = map (λ (l : Loaded). l.path) loaded

-- the path at a place
path_at : (loaded : List Loaded) (i : ℕ) (a : Loaded) (d : List ℕ) → slice_get loaded i ≡ Some a → get_or (paths loaded) i d ≡ a.path
path_at loaded i a d e = get_or_from_slice_get (paths loaded) i a.path d (slice_get-map (λ (l : Loaded). l.path) loaded i ∙ ap (option_map (λ (l : Loaded). l.path)) e)

no_less : Less ≡ Equal → ⊥
no_less e = cc

no_greater : Greater ≡ Equal → ⊥
no_greater e = cc

-- of paths that ascend, none stands before its equal
not_before : (loaded : List Loaded) (i j : ℕ) (a b : Loaded) → Ascend (paths loaded) → slice_get loaded i ≡ Some a → slice_get loaded j ≡ Some b → a.path ≡ b.path → i < j → ⊥
not_before loaded i j a b sorted at there same lt =
    let within : j < length (paths loaded) = subst (λ n. j < n) (sym (length-map loaded (λ (l : Loaded). l.path))) (slice_get_within loaded j b there) in
    let less : order a.path b.path ≡ Less =
    sym (λ k. order (path_at loaded i a [] at k) (path_at loaded j b [] there k)) ∙ Less-from_sorted order (paths loaded) i j [] sorted lt within in
    no_less (sym less ∙ ap (λ p. order p b.path) same ∙ tied_itself nat_list_cmp_total b.path)

-- so a path stands at one place
pub one_place : (loaded : List Loaded) (i j : ℕ) (a b : Loaded) → Ascend (paths loaded) → slice_get loaded i ≡ Some a → slice_get loaded j ≡ Some b → a.path ≡ b.path → i ≡ j
one_place loaded i j a b sorted at there same =
    three (λ lt. not_before loaded i j a b sorted at there same lt) (λ lt. not_before loaded j i b a sorted there at (sym same) lt)
  where
    three : (i < j → ⊥) → (j < i → ⊥) → i ≡ j
    three p q = grind (arith, p, q)

-- a search by path that finds a place finds the one
pub found_place : (loaded : List Loaded) (path : List ℕ) (i : ℕ) → Ascend (paths loaded) → i < length loaded → HoldsAt (λ (y : Loaded). order y.path path ≡ Equal) loaded i
    → (place : ℕ) → (Some i ≡ Some place) ↔ StandsAt loaded place path
found_place loaded path i sorted within holds place = elim (slice_get_cases loaded i).1 [
  | inl (x, lt, e, g) ↦ (
      let here : StandsAt loaded i path = record { one = x; here = e; path_is = exact_bytes x.path path (subst (λ (y : Loaded). order y.path path ≡ Equal) g (holds x)) } in (
        λ eq. subst (λ p. StandsAt loaded p path) (same_Some i place eq) here,
        λ (s : StandsAt loaded place path). ap Some (one_place loaded i place x s.one sorted e s.here (here.path_is ∙ sym s.path_is)),
      )
      )
  | inr (past, e) ↦ absurd (omega (arith, past, within))
]

-- a search by path that finds none leaves none
pub no_place : (loaded : List Loaded) (path : List ℕ) (i : ℕ) → Ascend (paths loaded) → IsPartitionPoint (λ (y : Loaded). order y.path path ≡ Less) (λ (y : Loaded). order y.path path ≡ Greater) loaded i
    → (place : ℕ) → (None ≡ Some place) ↔ StandsAt loaded place path
no_place loaded path i sorted point place = (
  λ e. absurd (none-some place e),
  λ (s : StandsAt loaded place path). absurd (
      let at : get_or loaded place s.one ≡ s.one = get_or_from_slice_get loaded place s.one s.one s.here in
      let within : place < length loaded = slice_get_within loaded place s.one s.here in
      let equal : order s.one.path path ≡ Equal = ap (λ p. order p path) s.path_is ∙ tied_itself nat_list_cmp_total path in
      elim (less_or_not place i) [
        | inl lt ↦ no_less (sym (subst (λ (y : Loaded). order y.path path ≡ Less) at (point.0 place s.one (omega arith) lt)) ∙ equal)
        | inr le ↦ no_greater (sym (subst (λ (y : Loaded). order y.path path ≡ Greater) at (point.1 place s.one le within)) ∙ equal)
      ]
      ),
)
  where
    less_or_not : (k i : ℕ) → (k < i) ⊎ (i ≤ k)
    less_or_not k i = grind arith

not_less : (a b : Ordering) → a ≡ ordering_reverse b → b ≡ Less → is_lt a ≡ false
not_less a b e h = ap is_lt (e ∙ ap ordering_reverse h)

weakly : (loaded : List Loaded) → Ascend (paths loaded) → IsSortedBy (λ (a b : Loaded). is_lt (order a.path b.path)) loaded
weakly loaded sorted k d low lt =
    let path = λ (l : Loaded). l.path in
    let a : get_or (paths loaded) k d.path ≡ (get_or loaded k d).path = get_or-map path loaded k d d.path (omega (arith, lt)) in
    let b : get_or (paths loaded) (k + 1) d.path ≡ (get_or loaded (k + 1) d).path = get_or-map path loaded (k + 1) d d.path lt in
    let within : k + 1 < length (paths loaded) = subst (λ n. k + 1 < n) (sym (length-map loaded path)) lt in
    let less : order (get_or loaded k d).path (get_or loaded (k + 1) d).path ≡ Less =
    sym (λ i. order (a i) (b i)) ∙ Less-from_sorted order (paths loaded) k (k + 1) d.path sorted (omega arith) within in
    not_less _ _ (nat_list_cmp_total.antisymm (get_or loaded (k + 1) d).path (get_or loaded k d).path) less

pub is_searchable : (loaded : List Loaded) (path : List ℕ) → Ascend (paths loaded) → IsNonDecreasingBy (λ (y : Loaded). ordering_index (order y.path path)) loaded
is_searchable loaded path sorted i j d le lt =
    searchable_from_sorted nat_list_cmp_total (λ (y : Loaded). y.path) loaded path (weakly loaded sorted) i j d le lt

module _ {X : Type 0} where
  pub Adds-nothing : (P : X → Type 0) (xs : List X) → ((x : X) → P x → ⊥) → Adds P xs xs
  Adds-nothing P xs empty = record { found = λ x h. inl h; kept = λ x h. h; all = λ x p. absurd (empty x p) }

  pub Adds-one : (P : X → Type 0) (xs : List X) (y : X) → P y → ((x : X) → P x → x ≡ y) → Adds P xs (xs ++ y ∷ [])
  Adds-one P xs y p one = record {
    found = λ x h. elim (Contains-append_cases xs (y ∷ []) x h) [ inl g ↦ inl g | inr g ↦ inr (subst P (only x g) p) ];
    kept = λ x h. Contains-append_left xs (y ∷ []) x h;
    all = λ x q. subst (Contains (xs ++ y ∷ [])) (sym (one x q)) (Contains-append_right xs (y ∷ []) y (0, omega arith, refl));
  }
    where
      only : (x : X) → Contains (y ∷ []) x → y ≡ x
      only x (zero, lt, e) = e
      only x (suc k, lt, e) = absurd (omega (arith, lt))

  pub Adds-then : (P Q R : X → Type 0) (xs ys zs : List X) → Adds P xs ys → Adds Q ys zs → ((x : X) → P x → R x) → ((x : X) → Q x → R x) → ((x : X) → R x → P x ⊎ Q x) → Adds R xs zs
  Adds-then P Q R xs ys zs a b p q r = record {
    found = λ x h. elim (b.found x h) [ inl g ↦ elim (a.found x g) [ inl f ↦ inl f | inr f ↦ inr (p x f) ] | inr g ↦ inr (q x g) ];
    kept = λ x h. b.kept x (a.kept x h);
    all = λ x h. elim (r x h) [ inl f ↦ b.kept x (a.all x f) | inr f ↦ b.all x f ];
  }

-- the one link of a require
pub one_link : (loaded : List Loaded) (m offset target : ℕ) (led : Led) (links : List Link) → offset ≡ led.offset → ((place : ℕ) → (Some target ≡ Some place) ↔ StandsAt loaded place led.path)
    → Adds (LinksOf loaded m led) links (links ++ record { «module» = m; offset = offset; target = target } ∷ [])
one_link loaded m offset target led links same place = Adds-one (LinksOf loaded m led) links (record { «module» = m; offset = offset; target = target })
    (record { from = refl; offset = same; to = (place target).0 refl })
    (λ (x : Link) (l : LinksOf loaded m led x). λ i. record { «module» = l.from i; offset = (l.offset ∙ sym same) i; target = (same_Some x.target target (sym ((place x.target).1 l.to))) i })

-- no link of a require that leads to no loaded module
pub no_link : (loaded : List Loaded) (m : ℕ) (led : Led) (links : List Link) (found : Option ℕ) → found ≡ None → ((place : ℕ) → (found ≡ Some place) ↔ StandsAt loaded place led.path)
    → Adds (LinksOf loaded m led) links links
no_link loaded m led links found none place = Adds-nothing (LinksOf loaded m led) links (λ (x : Link) (l : LinksOf loaded m led x). none-some x.target (sym none ∙ (place x.target).1 l.to))

-- links of one more require
pub among_more : (loaded : List Loaded) (m : ℕ) (targets : List Led) (i : ℕ) (led : Led) (xs ys zs : List Link) → i < length targets → get_or targets i led ≡ led
    → Adds (LinksAmong loaded m (take i targets)) xs ys → Adds (LinksOf loaded m led) ys zs → Adds (LinksAmong loaded m (take (i + 1) targets)) xs zs
among_more loaded m targets i led xs ys zs lt at a b =
    let more : take (i + 1) targets ≡ take i targets ++ led ∷ [] = take_more targets i led lt ∙ ap (λ x. take i targets ++ x ∷ []) at in
    subst (λ ts. Adds (LinksAmong loaded m ts) xs zs) (sym more)
    (Adds-then (LinksAmong loaded m (take i targets)) (LinksOf loaded m led) (LinksAmong loaded m (take i targets ++ led ∷ [])) xs ys zs a b
    (λ x (l : LinksAmong loaded m (take i targets) x). record { led = l.led; here = Contains-append_left (take i targets) (led ∷ []) l.led l.here; links = l.links })
    (λ x l. record { led = led; here = Contains-append_right (take i targets) (led ∷ []) led (0, omega arith, refl); links = l })
    split)
  where
    only : (y x : Led) → Contains (y ∷ []) x → y ≡ x
    only y x (zero, lt, e) = e
    only y x (suc k, lt, e) = absurd (omega (arith, lt))

    split : (x : Link) → LinksAmong loaded m (take i targets ++ led ∷ []) x → LinksAmong loaded m (take i targets) x ⊎ LinksOf loaded m led x
    split x l = elim (Contains-append_cases (take i targets) (led ∷ []) l.led l.here) [
      | inl g ↦ inl (record { led = l.led; here = g; links = l.links })
      | inr g ↦ inr (subst (λ d. LinksOf loaded m d x) (sym (only led l.led g)) l.links)
    ]

-- links of one more module
pub below_more : (loaded : List Loaded) (m : ℕ) (one : Loaded) (xs ys zs : List Link) → slice_get loaded m ≡ Some one
    → Adds (LinksBelow loaded m) xs ys → Adds (LinksAmong loaded m one.targets.items) ys zs → Adds (LinksBelow loaded (m + 1)) xs zs
below_more loaded m one xs ys zs at a b =
    Adds-then (LinksBelow loaded m) (LinksAmong loaded m one.targets.items) (LinksBelow loaded (m + 1)) xs ys zs a b
    (λ x (l : LinksBelow loaded m x). record { below = omega (arith, l.below); from = l.from; here = l.here; links = l.links })
    (λ x (l : LinksAmong loaded m one.targets.items x). record {
      below = omega (arith, l.links.from);
      from = one;
      here = ap (slice_get loaded) l.links.from ∙ at;
      links = subst (λ k. LinksAmong loaded k one.targets.items x) (sym l.links.from) l;
    })
    split
  where
    last : (x : Link) (l : LinksBelow loaded (m + 1) x) → x.module ≡ m → LinksAmong loaded m one.targets.items x
    last x l e = subst (λ k. LinksAmong loaded k one.targets.items x) e
        (subst (λ (f : Loaded). LinksAmong loaded x.module f.targets.items x) (same_Some l.from one (sym l.here ∙ ap (slice_get loaded) e ∙ at)) l.links)

    less_or_last : (k : ℕ) → k < m + 1 → (k < m) ⊎ (k ≡ m)
    less_or_last k lt = grind (arith, lt)

    split : (x : Link) → LinksBelow loaded (m + 1) x → LinksBelow loaded m x ⊎ LinksAmong loaded m one.targets.items x
    split x l = elim (less_or_last x.module l.below) [
      | inl lt ↦ inl (record { below = lt; from = l.from; here = l.here; links = l.links })
      | inr e ↦ inr (last x l e)
    ]

-- a path that a module has stands somewhere
pub stands_somewhere : (loaded : List Loaded) (path : List ℕ) → Contains (paths loaded) path → (place : ℕ) × StandsAt loaded place path
stands_somewhere loaded path h =
    let l = from_map (λ (x : Loaded). x.path) loaded path h in
    let at = l.1 in
    (at.0, record { one = l.0; here = slice_get_read loaded (length loaded) at.0 l.0 refl at.1 (sym at.2); path_is = l.2 })
