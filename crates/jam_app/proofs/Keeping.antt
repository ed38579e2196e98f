-- Modules that are kept under their paths.
use Rattle.std.proofs.Common.{◌≡◌, ◌⊎◌, ℕ, ◌∷◌, [], ◌++◌, Bool, true, false, List, map, cond, refl, ap, sym, subst, ◌∙◌, inl, inr, ⊎_elim, true≢false, Option, Some}
use Rattle.std.specs.Prelude.{◌↔◌, Contains, IsSome}
use Rattle.std.specs.BTreeMap.{BTreeMap, Updates}
use Rattle.std.specs.Cmp.{eq_by_cmp_equiv}
use Rattle.std.specs.Cmp.Lexicographic.{slice_cmp, nat_list_cmp_total}
use Rattle.std.specs.Ordering.{eq_by_cmp, nat_cmp}
use Rattle.std.proofs.lemmas.List.{map-append}
use Rattle.std.proofs.lemmas.List.Elements.{Contains-append_left, Contains-push, Contains-push_cases}
use Rattle.std.proofs.lemmas.Map.Lookups.{exact_bytes}
use Rattle.std.proofs.lemmas.Map.Views.{tells_apart}
use Rattle.std.proofs.lemmas.Option.{same_Some}
use Rattle.composer.proofs.Members.{none}
use Rattle.jam_app.specs.declared.loading.loaded.Loaded.{Loaded}
use Rattle.jam_app.specs.BetweenRounds.{found_at}

-- the path of a module
abbrev pub path_of : Loaded → List ℕ
path_of l = l.path

-- what is found after modules were kept
pub record Kept (old new : List ℕ → Option Loaded) (modules : List Loaded) : Type 0 where
  pub here : (path : List ℕ) → IsSome (new path) ↔ (IsSome (old path) ⊎ Contains (map path_of modules) path)
  pub which : (path : List ℕ) (l : Loaded) → new path ≡ Some l → (old path ≡ Some l) ⊎ ((l.path ≡ path) × Contains modules l)

pub kept_none : (old : List ℕ → Option Loaded) → Kept old old []
kept_none old = record {
  here = λ path. (λ h. inl h, λ h. ⊎_elim (λ g. g) (λ g. absurd (none path g)) h);
  which = λ path l is. inl is;
}

same_path : (x y : List ℕ) → eq_by_cmp (slice_cmp nat_cmp) x y ≡ true → x ≡ y
same_path = tells_apart (exact_bytes)

same_test : (x y : List ℕ) → x ≡ y → eq_by_cmp (slice_cmp nat_cmp) x y ≡ true
same_test x y e = subst (λ z. eq_by_cmp (slice_cmp nat_cmp) x z ≡ true) e ((eq_by_cmp_equiv nat_list_cmp_total).refl x)

module _ (old : List ℕ → Option Loaded) (modules : List Loaded) (path : List ℕ) (l : Loaded) (at : path ≡ l.path) where
  more_here : (b : Bool) (q : List ℕ) (was new : Option Loaded) → (b ≡ true → path ≡ q) → (path ≡ q → b ≡ true) → new ≡ cond b (Some l) was → IsSome was ↔ (IsSome (old q) ⊎ Contains (map path_of modules) q)
      → IsSome new ↔ (IsSome (old q) ⊎ Contains (map path_of (modules ++ l ∷ [])) q)
  more_here true q was new same test is here =
      let paths : map path_of (modules ++ l ∷ []) ≡ map path_of modules ++ l.path ∷ [] = map-append path_of modules (l ∷ []) in
      let last : Contains (map path_of (modules ++ l ∷ [])) q = subst (λ (ps : List (List ℕ)). Contains ps q) (sym paths) (subst (λ p. Contains (map path_of modules ++ l.path ∷ []) p) (sym at ∙ same refl) (Contains-push (map path_of modules) l.path)) in
      (λ h. inr last, λ h. subst (λ (o : Option Loaded). IsSome o) (sym is) refl)
  more_here false q was new same test is here =
      let paths : map path_of (modules ++ l ∷ []) ≡ map path_of modules ++ l.path ∷ [] = map-append path_of modules (l ∷ []) in (
        λ h. ⊎_elim (λ g. inl g) (λ g. inr (subst (λ (ps : List (List ℕ)). Contains ps q) (sym paths) (Contains-append_left (map path_of modules) (l.path ∷ []) q g))) (here.0 (subst (λ (o : Option Loaded). IsSome o) is h)),
        λ h. subst (λ (o : Option Loaded). IsSome o) (sym is) (⊎_elim (λ g. here.1 (inl g))
            (λ g. ⊎_elim (λ k. here.1 (inr k)) (λ k. absurd (true≢false (sym (test (at ∙ k))))) (Contains-push_cases (map path_of modules) l.path q (subst (λ (ps : List (List ℕ)). Contains ps q) paths g))) h),
      )

  more_which : (b : Bool) (q : List ℕ) (was new : Option Loaded) (x : Loaded) → (b ≡ true → path ≡ q) → new ≡ cond b (Some l) was → (was ≡ Some x → (old q ≡ Some x) ⊎ ((x.path ≡ q) × Contains modules x))
      → new ≡ Some x → (old q ≡ Some x) ⊎ ((x.path ≡ q) × Contains (modules ++ l ∷ []) x)
  more_which true q was new x same is which found =
      let one : l ≡ x = same_Some l x (sym is ∙ found) in
      inr (ap path_of (sym one) ∙ sym at ∙ same refl, subst (Contains (modules ++ l ∷ [])) one (Contains-push modules l))
  more_which false q was new x same is which found = ⊎_elim (λ g. inl g) (λ g. inr (g.0, Contains-append_left modules (l ∷ []) x g.1)) (which (sym is ∙ found))

  -- one more module
  pub kept_more : (m n : BTreeMap (List ℕ) Loaded) → Updates (slice_cmp nat_cmp) m n path (Some l) → Kept old (found_at m) modules → Kept old (found_at n) (modules ++ l ∷ [])
  kept_more m n updates kept = record {
    here = λ q. more_here (eq_by_cmp (slice_cmp nat_cmp) path q) q (found_at m q) (found_at n q) (same_path path q) (same_test path q) (updates.0 q) (kept.here q);
    which = λ q x. more_which (eq_by_cmp (slice_cmp nat_cmp) path q) q (found_at m q) (found_at n q) x (same_path path q) (updates.0 q) (kept.which q x);
  }
