-- Where the requires of a module lead.
use Rattle.std.proofs.Common.{◌≡◌, ℕ, ◌+◌, ◌<◌, List, [], ◌∷◌, ◌++◌, length, get_or, take, refl, ap, sym, subst, ◌∙◌, inl, inr, Option, Some, None}
use Rattle.std.specs.Prelude.{Contains}
use Rattle.std.specs.List.{cons_option, filter_map}
use Rattle.std.specs.Option.{IfSome, option_to_list}
use Rattle.std.proofs.lemmas.List.{take_more, append-nil}
use Rattle.std.proofs.lemmas.List.Elements.{filter_map-append}
use Rattle.std.proofs.lemmas.Option.{none-some, same_Some}
use Rattle.jam_base.specs.Files.{Files}
use Rattle.flow_rules.specs.Constraints.{ModuleConstraints}
use Rattle.flow_rules.specs.Flows.{requires_of}
use Rattle.flow_rules.specs.declared.module.Require.{Require}
use Rattle.node_resolve.specs.declared.target.Target.{Target}
use Rattle.node_resolve.specs.declared.target.Target.TheVariants as target
use Rattle.node_resolve.specs.Targets.{target_of}
use Rattle.composer.proofs.Members.{none, here, there, cons_cases}
use Rattle.jam_app.specs.declared.loading.loaded.Led.{Led}
use Rattle.jam_app.specs.declared.loading.loaded.Loaded.{Loaded}
use Rattle.jam_app.specs.Entries.{module_path}
use Rattle.jam_app.specs.Loading.{IsSummaryOf, Leads, missing_by}
use Rattle.jam_app.specs.Reading.{IsResolved, led_by, led_to}

cons_is : {X : Type 0} (o : Option X) (xs : List X) → cons_option o xs ≡ option_to_list o ++ xs
cons_is None xs = refl
cons_is (Some x) xs = refl

-- one more item
pub filter_map_more : {X Y : Type 0} (f : X → Option Y) (xs : List X) (i : ℕ) (x : X) → i < length xs → x ≡ get_or xs i x → filter_map f (take (i + 1) xs) ≡ filter_map f (take i xs) ++ option_to_list (f x)
filter_map_more f xs i x within is =
    ap (filter_map f) (take_more xs i x within) ∙ filter_map-append f (take i xs) (get_or xs i x ∷ [])
    ∙ ap (λ y. filter_map f (take i xs) ++ filter_map f (y ∷ [])) (sym is)
    ∙ ap (λ ys. filter_map f (take i xs) ++ ys) (cons_is (f x) [] ∙ append-nil (option_to_list (f x)))

pub led_more : {Y : Type 0} (f : Require → Option Y) (xs : List Require) (i : ℕ) (x : Require) (old new : List Y) (led : Option Y) → new ≡ old ++ option_to_list led → old ≡ filter_map f (take i xs) → led ≡ f x
    → i < length xs → x ≡ get_or xs i x → new ≡ filter_map f (take (i + 1) xs)
led_more f xs i x old new led pushed were is within item = pushed ∙ (λ k. were k ++ option_to_list (is k)) ∙ sym (filter_map_more f xs i x within item)

in_cons : {X : Type 0} (o : Option X) (xs : List X) (x : X) → Contains xs x → Contains (cons_option o xs) x
in_cons None xs x h = h
in_cons (Some y) xs x h = there y xs x h

pub into_filter_map : {X Y : Type 0} (f : X → Option Y) (xs : List X) (x : X) (y : Y) → Contains xs x → f x ≡ Some y → Contains (filter_map f xs) y
into_filter_map f [] x y h e = absurd (none x h)
into_filter_map f (z ∷ xs) x y h e = elim (cons_cases z xs x h) [
  | inl is ↦ subst (λ o. Contains (cons_option o (filter_map f xs)) y) (sym (ap f is ∙ e)) (here y (filter_map f xs))
  | inr later ↦ in_cons (f z) (filter_map f xs) y (into_filter_map f xs x y later e)
]

in_first : {X Y : Type 0} (f : X → Option Y) (z : X) (xs : List X) (y : Y) (o : Option Y) → f z ≡ o → (Contains (filter_map f xs) y → (x : X) × Contains xs x × (f x ≡ Some y))
    → Contains (cons_option o (filter_map f xs)) y → (x : X) × Contains (z ∷ xs) x × (f x ≡ Some y)
in_first f z xs y None e later g = let p = later g in (p.0, there z xs p.0 p.1, p.2)
in_first f z xs y (Some w) e later g = elim (cons_cases w (filter_map f xs) y g) [ inl is ↦ (z, here z xs, e ∙ ap Some is) | inr h ↦ (let p = later h in (p.0, there z xs p.0 p.1, p.2)) ]

pub from_filter_map : {X Y : Type 0} (f : X → Option Y) (xs : List X) (y : Y) → Contains (filter_map f xs) y → (x : X) × Contains xs x × (f x ≡ Some y)
from_filter_map f [] y h = absurd (none y h)
from_filter_map f (z ∷ xs) y h = in_first f z xs y (f z) refl (from_filter_map f xs y) h

-- what leads somewhere has its require's offset
pub led_offset : (offset : ℕ) (path : Option (List ℕ)) → IfSome (led_to offset path) (λ l. l.offset ≡ offset)
led_offset offset None = tt
led_offset offset (Some path) = refl

from_led : (offset : ℕ) (t : Target) (led : Led) → led_to offset (module_path t) ≡ Some led → (offset ≡ led.offset) × (t ≡ target.Module led.path)
from_led offset (target.Module path) led e = let is = same_Some _ _ e in (ap (λ (l : Led). l.offset) is, ap (λ (l : Led). target.Module l.path) is)
from_led offset (target.NotCode path) led e = absurd (none-some led e)
from_led offset target.Core led e = absurd (none-some led e)
from_led offset target.Missing led e = absurd (none-some led e)

into_led : (offset : ℕ) (t : Target) (led : Led) → offset ≡ led.offset → t ≡ target.Module led.path → led_to offset (module_path t) ≡ Some led
into_led offset t led o is = ap (λ t. led_to offset (module_path t)) is ∙ (λ i. Some (record { offset = o i; path = led.path }))

-- what is kept of a module beside its tree is all right
pub is_resolved : (m : Files) (l : Loaded) → IsSummaryOf l.tree l.summary → l.targets.items ≡ filter_map (led_by m l.path) l.summary.lists.requires_
    → l.missing.items ≡ filter_map (missing_by m l.path) l.summary.lists.requires_ → IsResolved m l
is_resolved m l summary targets missing =
    let f = led_by m l.path in
    let requires_ : l.summary.lists.requires_ ≡ requires_of l.tree = ap (λ (c : ModuleConstraints). c.requires_) summary.whole in
    let all : l.targets.items ≡ filter_map f (requires_of l.tree) = targets ∙ ap (filter_map f) requires_ in
    record {
      summary = summary;
      targets = λ led. (
        λ h. leads led (from_filter_map f (requires_of l.tree) led (subst (λ ts. Contains ts led) all h)),
        λ leads. subst (λ ts. Contains ts led) (sym all) (into_filter_map f (requires_of l.tree) leads.require led leads.here (into_led leads.require.offset (target_of m l.path leads.require.spec) led leads.offset leads.target_is)),
      );
      missing = missing ∙ ap (filter_map (missing_by m l.path)) requires_;
    }
  where
    leads : (led : Led) → (require : Require) × Contains (requires_of l.tree) require × (led_by m l.path require ≡ Some led) → Leads m l led
    leads led (require, here, is) =
        let parts = from_led require.offset (target_of m l.path require.spec) led is in
        record { require = require; here = here; offset = parts.0; target_is = parts.1 }
