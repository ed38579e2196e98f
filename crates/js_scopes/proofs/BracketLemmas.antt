-- The items in brackets, one after another.
use Rattle.std.proofs.Common.{◌≡◌, ℕ, ◌+◌, ◌<◌, Bool, true, false, List, [], ◌∷◌, ◌++◌, map, drop, length, get_or, ap, ◌∙◌, is_some, if◌then◌else◌}
use Rattle.std.proofs.lemmas.List.{drop_more}
use Rattle.js_tree.specs.declared.lists.Element.{Element}
use Rattle.js_tree.specs.declared.lists.Listed.{Listed}
use Rattle.js_scopes.specs.Brackets.{placed}

module _ {X : Type 0} (xs : List (Listed (Element X))) (ys : List (Element X)) where
  -- those with a place from here on
  abbrev pub placed_from : ℕ → List X
  placed_from i = placed (map (λ (x : Listed (Element X)). x.item) (drop i xs) ++ ys)

  from_here : (i : ℕ) (d : Listed (Element X)) → i < length xs → (b : Bool) → is_some (get_or xs i d).item.dots ≡ b → placed_from i ≡ (if b then [] else (get_or xs i d).item.value ∷ placed_from (i + 1))
  from_here i d lt b e =
      ap (λ zs. placed (map (λ (x : Listed (Element X)). x.item) zs ++ ys)) (drop_more xs i d lt) ∙ ap (λ z. if z then [] else (get_or xs i d).item.value ∷ placed_from (i + 1)) e

  -- one has a place, or stops them
  pub placed_more : (i : ℕ) (d : Listed (Element X)) → i < length xs → is_some (get_or xs i d).item.dots ≡ false → placed_from i ≡ (get_or xs i d).item.value ∷ placed_from (i + 1)
  placed_more i d lt e = from_here i d lt false e

  pub placed_stop : (i : ℕ) (d : Listed (Element X)) → i < length xs → is_some (get_or xs i d).item.dots ≡ true → placed_from i ≡ []
  placed_stop i d lt e = from_here i d lt true e
