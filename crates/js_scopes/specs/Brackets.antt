-- Lists in brackets: parameters and arguments (ECMA-262, 12.3 and 14.1).
use Rattle.std.specs.Prelude.{◌-◌, List, [], ◌∷◌, ◌++◌, map, length, slice_get, Option, Some, None, is_some, if◌then◌else◌}
use Rattle.js_tree.specs.declared.lists.Bracket.{Bracket}
use Rattle.js_tree.specs.declared.lists.Element.{Element}

-- what is there, as a list
abbrev pub listed : {X : Type 0} → Option X → List X
listed None = []
listed (Some x) = x ∷ []

-- the items in brackets, from left to right
abbrev pub elements : {X : Type 0} → Bracket X → List (Element X)
elements b = map (λ x. x.item) b.front ++ listed b.last

-- the items in front of the first that has `...`
abbrev pub placed : {X : Type 0} → List (Element X) → List X
placed [] = []
placed (e ∷ es) = if is_some e.dots then [] else e.value ∷ placed es

-- the last item
abbrev pub last_of : {X : Type 0} → List X → Option X
last_of xs = slice_get xs (length xs - 1)
