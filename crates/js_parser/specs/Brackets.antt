-- Items by commas in brackets, as they are read.
use Rattle.std.specs.Prelude.{◌≡◌, List, [], ◌∷◌, ◌++◌, Option, Some, None}
use Rattle.js_tree.specs.declared.lists.Listed.{Listed}
use Rattle.js_tree.specs.declared.token.Token.{Token}

-- an item with a comma behind it goes to the end of the front, one without is the last
abbrev pub Puts : {X : Type 0} → X → Option Token → List (Listed X) → Option X → List (Listed X) → Option X → Type 0
Puts item (Some mark) front last front' last' = (front' ≡ front ++ record { item = item; mark = mark } ∷ []) × (last' ≡ last)
Puts item None front last front' last' = (front' ≡ front) × (last' ≡ Some item)
