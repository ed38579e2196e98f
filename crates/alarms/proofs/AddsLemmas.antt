-- What is added to a list.
use Rattle.std.proofs.Common.{◌≡◌, zero, suc, ◌⊎◌, inl, inr, List, [], ◌∷◌, ◌++◌, refl, sym, subst, arith}
use Rattle.std.specs.Prelude.{Contains}
use Rattle.std.proofs.lemmas.List.Elements.{Contains-append_cases, Contains-append_left, Contains-append_right}
use Rattle.alarms.specs.Searching.{Adds}

module _ {X : Type 0} where
  pub Adds-nothing : (P : X → Type 0) (xs : List X) → ((x : X) → P x → ⊥) → Adds P xs xs
  Adds-nothing P xs empty = record { found = λ x h. inl h; kept = λ x h. h; all = λ x p. absurd (empty x p) }

  pub Adds-one : (P : X → Type 0) (xs : List X) (y : X) → P y → ((x : X) → P x → x ≡ y) → Adds P xs (xs ++ y ∷ [])
  Adds-one P xs y p one = record {
    found = λ x h. elim (Contains-append_cases xs (y ∷ []) x h) [ inl g ↦ inl g | inr g ↦ inr (subst P (only x g) p) ];
    kept = λ x h. Contains-append_left xs (y ∷ []) x h;
    all = λ x q. subst (Contains (xs ++ y ∷ [])) (sym (one x q)) (Contains-append_right xs (y ∷ []) y (0, omega arith, refl));
  }
    where
      only : (x : X) → Contains (y ∷ []) x → y ≡ x
      only x (zero, lt, e) = e
      only x (suc k, lt, e) = absurd (omega (arith, lt))

  pub Adds-then : (P Q R : X → Type 0) (xs ys zs : List X) → Adds P xs ys → Adds Q ys zs → ((x : X) → P x → R x) → ((x : X) → Q x → R x) → ((x : X) → R x → P x ⊎ Q x) → Adds R xs zs
  Adds-then P Q R xs ys zs a b p q r = record {
    found = λ x h. elim (b.found x h) [ inl g ↦ elim (a.found x g) [ inl f ↦ inl f | inr f ↦ inr (p x f) ] | inr g ↦ inr (q x g) ];
    kept = λ x h. b.kept x (a.kept x h);
    all = λ x h. elim (r x h) [ inl f ↦ b.kept x (a.all x f) | inr f ↦ b.all x f ];
  }

  pub Adds-same : (P Q : X → Type 0) (xs ys : List X) → Adds P xs ys → ((x : X) → P x → Q x) → ((x : X) → Q x → P x) → Adds Q xs ys
  Adds-same P Q xs ys a to from = record {
    found = λ x h. elim (a.found x h) [ inl g ↦ inl g | inr g ↦ inr (to x g) ];
    kept = a.kept;
    all = λ x q. a.all x (from x q);
  }
