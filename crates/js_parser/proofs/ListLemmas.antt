-- How a list is read, item by item.
use Rattle.std.proofs.Common.{◌≡◌, ℕ, max, List, [], ◌∷◌, ◌++◌, refl, sym, ap, ◌∙◌, subst, arith, append-nil, append_assoc, Err}
use Rattle.js_tree.specs.Lexing.{Place}
use Rattle.js_tree.specs.Pieces.{Piece, Onto}
use Rattle.js_tree.specs.Spelling.{tallest_of}
use Rattle.js_tree.specs.Spelling.Rows.{each_of}
use Rattle.js_tokens.proofs.PieceLemmas.{handed_on}
use Rattle.js_tokens.specs.Pieces.{Reads, Read, Gives, Passes}
use Rattle.js_tokens.specs.declared.fault.TokenFault.{TokenFault}
use Rattle.js_parser.proofs.PlaceLemmas.{passes_on}

pub tallest-push : {X : Type 0} (height : X → ℕ) (xs : List X) (x : X) → tallest_of height (xs ++ x ∷ []) ≡ max (tallest_of height xs) (height x)
tallest-push height [] x = omega arith
tallest-push height (y ∷ ys) x = let e = tallest-push height ys x in omega arith

-- each item is as it must be
unfoldable pub AllOf : {X : Type 0} → (X → Type 0) → List X → Type 0
AllOf P [] = Unit {0}
AllOf P (x ∷ xs) = P x × AllOf P xs

-- the items were read from p to m, and whatever could be read at p begins with them
pub record Progress {X : Type 0} (line : X → Onto) (P : X → Type 0) (Closes : List Piece → Type 0) (p : Place) (body : List X) (m : Place) : Type 0 where
  pub found : Read p (each_of line body) m
  pub good : AllOf P body
  pub only : (xs : List X) (rest : List Piece) → Reads p (each_of line xs rest) → AllOf P xs → Closes rest
      → (ys : List X) × (xs ≡ body ++ ys) × Reads m (each_of line ys rest) × AllOf P ys
  pub passes : Passes p m

module _ {X : Type 0} (line : X → Onto) (P : X → Type 0) (Closes : List Piece → Type 0) (Stops : X → List Piece → Type 0) where
  pub each-push : (xs : List X) (x : X) (rest : List Piece) → each_of line (xs ++ x ∷ []) rest ≡ each_of line xs (line x rest)
  each-push [] x rest = refl
  each-push (y ∷ ys) x rest = ap (line y) (each-push ys x rest)

  pub good-push : (xs : List X) (x : X) → AllOf P xs → P x → AllOf P (xs ++ x ∷ [])
  unfolding AllOf
  good-push [] x a g = (g, tt)
  good-push (y ∷ ys) x a g = (a.0, good-push ys x a.1 g)

  pub begun : (p : Place) → Progress line P Closes p [] p
  unfolding AllOf
  begun p = record { found = λ rest r. r; good = tt; only = λ xs rest r a c. (xs, refl, r, a); passes = ([], refl) }

  pub one_more : (p m n : Place) (body : List X) (x : X) → Progress line P Closes p body m → Read m (line x) n → P x → Passes m n
      → ((y : X) (rest : List Piece) → Reads m (line y rest) → P y → Stops y rest → (x ≡ y) × Reads n rest)
      → ((rest : List Piece) → Closes rest → Reads m rest → ⊥)
      → ((y : X) (ys : List X) (rest : List Piece) → AllOf P ys → Closes rest → Stops y (each_of line ys rest))
      → Progress line P Closes p (body ++ x ∷ []) n
  unfolding AllOf
  one_more p m n body x before found good passes only goes follow = record {
    found = λ rest r. subst (λ (ps : List Piece). Reads p ps) (sym (each-push body x rest)) (before.found (line x rest) (found rest r));
    good = good-push body x before.good good;
    only = λ xs rest r h c. let a = before.only xs rest r h c in onward xs rest c a.0 a.1 a.2 a.3;
    passes = passes_on p m n before.passes passes;
  }
    where
      onward : (xs : List X) (rest : List Piece) → Closes rest → (ys : List X) → xs ≡ body ++ ys → Reads m (each_of line ys rest) → AllOf P ys
          → (zs : List X) × (xs ≡ (body ++ x ∷ []) ++ zs) × Reads n (each_of line zs rest) × AllOf P zs
      onward xs rest c [] e r h = absurd (goes rest c r)
      onward xs rest c (y ∷ ys) e r h =
          let g = only y (each_of line ys rest) r h.0 (follow y ys rest h.1 c) in
          (ys, e ∙ ap (λ (z : X). body ++ z ∷ ys) (sym g.0) ∙ sym (append_assoc body (x ∷ []) ys), g.1, h.1)

  pub finished_by : (p m : Place) (body : List X) → Progress line P Closes p body m
      → ((y : X) (rest : List Piece) → Reads m (line y rest) → P y → ⊥)
      → (xs : List X) (rest : List Piece) → Reads p (each_of line xs rest) → AllOf P xs → Closes rest → (body ≡ xs) × Reads m rest
  unfolding AllOf
  finished_by p m body done ends xs rest r h c = let a = done.only xs rest r h c in whole a.0 a.1 a.2 a.3
    where
      whole : (ys : List X) → xs ≡ body ++ ys → Reads m (each_of line ys rest) → AllOf P ys → (body ≡ xs) × Reads m rest
      whole [] e r g = (sym (e ∙ append-nil body), r)
      whole (y ∷ ys) e r g = absurd (ends y (each_of line ys rest) r g.0)

  pub finished : (p m : Place) (body : List X) → Progress line P Closes p body m
      → ((y : X) (rest : List Piece) → Reads m (line y rest) → ⊥)
      → (xs : List X) (rest : List Piece) → Reads p (each_of line xs rest) → AllOf P xs → Closes rest → (body ≡ xs) × Reads m rest
  finished p m body done ends = finished_by p m body done (λ y rest r good. ends y rest r)

  pub refused : {Y : Type 0} (p m n : Place) (body : List X) (e : TokenFault) → Progress line P Closes p body m
      → ((y : X) (rest : List Piece) → Reads m (line y rest) → P y → Stops y rest → Gives {X = X} (Err e) y (Reads n rest))
      → ((rest : List Piece) → Closes rest → Reads m rest → ⊥)
      → ((y : X) (ys : List X) (rest : List Piece) → AllOf P ys → Closes rest → Stops y (each_of line ys rest))
      → (xs : List X) (rest : List Piece) → Reads p (each_of line xs rest) → AllOf P xs → Closes rest → (z : Y) (Q : Type 0) → Gives {X = Y} (Err e) z Q
  unfolding AllOf
  refused p m n body e before only goes follow xs rest r h c z Q = let a = before.only xs rest r h c in onward a.0 a.2 a.3
    where
      onward : (ys : List X) → Reads m (each_of line ys rest) → AllOf P ys → Gives {X = _} (Err e) z Q
      onward [] r h = absurd (goes rest c r)
      onward (y ∷ ys) r h = handed_on y z _ Q e (only y (each_of line ys rest) r h.0 (follow y ys rest h.1 c))
