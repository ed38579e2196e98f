-- What holds of the nodes of a row holds of its items, and the other way round.
use Rattle.std.proofs.Common.{◌≡◌, ℕ, ◌+◌, ◌<◌, length, take, get_or, sym, ap, ◌∙◌, append_assoc, Bool, true, false, List, [], ◌∷◌, ◌++◌, map, Option, Some, None, is_some, if◌then◌else◌}
use Rattle.std.specs.List.{AllByRecursion, flat_map}
use Rattle.std.proofs.lemmas.List.{map-append, take_more}
use Rattle.js_tree.specs.declared.lists.Bracket.{Bracket}
use Rattle.js_tree.specs.declared.lists.Element.{Element}
use Rattle.js_tree.specs.declared.lists.Listed.{Listed}
use Rattle.js_tree.specs.declared.lists.Tail.{Tail}
use Rattle.js_tree.specs.declared.tree.Expr.{Expr}
use Rattle.js_tree.specs.Parts.{Node, AnExpr, nodes, tails_behind}
use Rattle.js_tree.specs.Spelling.Nodes.{unmarked}
use Rattle.js_tree.specs.Spelling.Rows.{bracket_row, each_of, element_row, listed_row, maybe, template_parts}
use Rattle.js_tree.proofs.GatherLemmas.{each_both}
use Rattle.js_scopes.specs.Brackets.{elements, listed, placed}

-- one item more of a list is made
pub more_made : {X Y : Type 0} (f : X → Y) (old : List Y) (xs : List X) (i : ℕ) (d : X) → i < length xs → (mid new : List Y) (y : Y) → mid ≡ old ++ map f (take i xs) → new ≡ mid ++ y ∷ [] → y ≡ f (get_or xs i d) → new ≡ old ++ map f (take (i + 1) xs)
more_made f old xs i d within mid new y before now is =
    now ∙ (λ j. before j ++ is j ∷ []) ∙ append_assoc old (map f (take i xs)) (f (get_or xs i d) ∷ [])
    ∙ ap (λ ys. old ++ ys) (sym (ap (map f) (take_more xs i d within) ∙ map-append f (take i xs) (get_or xs i d ∷ [])))

-- what is made of items has what each gives
module _ {X Y : Type 0} (P : X → Type 0) (Q : Y → Type 0) where
  pub each_made : (f : X → Y) → ((x : X) → P x → Q (f x)) → (xs : List X) → AllByRecursion P xs → AllByRecursion Q (map f xs)
  each_made f gives [] a = tt
  each_made f gives (x ∷ xs) a = (gives x a.0, each_made f gives xs a.1)

  pub each_gives : (f : X → List Y) → ((x : X) → P x → AllByRecursion Q (f x)) → (xs : List X) → AllByRecursion P xs → AllByRecursion Q (flat_map f xs)
  each_gives f gives [] a = tt
  each_gives f gives (x ∷ xs) a = each_both Q (f x) (flat_map f xs) (gives x a.0) (each_gives f gives xs a.1)

module _ (P : Node → Type 0) where
  -- the items of a list have what their nodes give, and so has what follows
  module _ {X : Type 0} (put : X → List Node → List Node) (Q : X → Type 0) (takes : (x : X) (rest : List Node) → AllByRecursion P (put x rest) → Q x × AllByRecursion P rest) where
    pub items_have : (xs : List X) (rest : List Node) → AllByRecursion P (each_of put xs rest) → AllByRecursion Q xs × AllByRecursion P rest
    items_have [] rest a = (tt, a)
    items_have (x ∷ xs) rest a = let b = takes x (each_of put xs rest) a in let c = items_have xs rest b.1 in ((b.0, c.0), c.1)

  -- and the nodes of a list have it where those of each item have, in front of what follows
  module _ {X : Type 0} (put : X → List Node → List Node) (puts : (x : X) (rest : List Node) → AllByRecursion P rest → AllByRecursion P (put x rest)) where
    pub row_has : (xs : List X) (rest : List Node) → AllByRecursion P rest → AllByRecursion P (each_of put xs rest)
    row_has [] rest a = a
    row_has (x ∷ xs) rest a = puts x (each_of put xs rest) (row_has xs rest a)

    pub one_has : (o : Option X) (rest : List Node) → AllByRecursion P rest → AllByRecursion P (maybe put o rest)
    one_has None rest a = a
    one_has (Some x) rest a = puts x rest a

  -- the same of items in brackets
  module _ {X : Type 0} (at : X → Node) where
    abbrev put : X → List Node → List Node
    put = λ x rest. at x ∷ rest

    abbrev Has : Element X → Type 0
    Has e = P (at e.value)

    listed_have : (es : List (Listed (Element X))) (o : Option (Element X)) (rest : List Node) → AllByRecursion P (each_of (listed_row unmarked (element_row unmarked put)) es (maybe (element_row unmarked put) o rest))
        → AllByRecursion Has (map (λ x. x.item) es ++ listed o)
    listed_have [] None rest a = tt
    listed_have [] (Some e) rest a = (a.0, tt)
    listed_have (e ∷ es) o rest a = (a.0, listed_have es o rest a.1)

    pub elements_have : (b : Bracket X) (rest : List Node) → AllByRecursion P (bracket_row unmarked put b rest) → AllByRecursion Has (elements b)
    elements_have b rest a = listed_have b.front b.last rest a

    pub placed_have : (es : List (Element X)) → AllByRecursion Has es → AllByRecursion (λ x. P (at x)) (placed es)
    placed_have [] a = tt
    placed_have (e ∷ es) a = by (is_some e.dots) (placed_have es a.1)
      where
        by : (b : Bool) → AllByRecursion (λ x. P (at x)) (placed es) → AllByRecursion (λ x. P (at x)) (if b then [] else e.value ∷ placed es)
        by true others = tt
        by false others = (a.0, others)

    pub bracket_has : ((x : X) → P (at x)) → (b : Bracket X) (rest : List Node) → AllByRecursion P rest → AllByRecursion P (bracket_row unmarked put b rest)
    bracket_has each b rest a =
        row_has (listed_row unmarked (element_row unmarked put)) (λ x more r. (each x.item.value, r)) b.front (maybe (element_row unmarked put) b.last rest)
        (one_has (element_row unmarked put) (λ x more r. (each x.value, r)) b.last rest a)

  -- of the substitutions of a template
  pub substitutions_have : (xs : List (Listed Expr)) (rest : List Node) → AllByRecursion P (template_parts unmarked nodes.expr xs rest) → AllByRecursion (λ (x : Listed Expr). P (AnExpr x.item)) xs
  substitutions_have [] rest a = tt
  substitutions_have (x ∷ xs) rest a = (a.0, substitutions_have xs rest a.1)

  pub template_has : ((x : Expr) → P (AnExpr x)) → (xs : List (Listed Expr)) (rest : List Node) → AllByRecursion P rest → AllByRecursion P (template_parts unmarked nodes.expr xs rest)
  template_has each [] rest a = a
  template_has each (x ∷ xs) rest a = (each x.item, template_has each xs rest a)

  -- and of what stands behind tails
  pub behind_tails : (head : Expr) (before ts : List (Tail Expr)) (rest : List Node) → AllByRecursion P (tails_behind head before ts rest) → AllByRecursion P rest
  behind_tails head before [] rest a = a
  behind_tails head before (t ∷ ts) rest a = behind_tails head (before ++ t ∷ []) ts rest a.1
