-- The items of a node in brackets are fewer than its own tokens.
use Rattle.std.proofs.Common.{◌≡◌, ℕ, ◌+◌, ◌<◌, ◌≤◌, List, [], ◌∷◌, ◌++◌, map, length, length-append, refl, ap, arith, Option, Some, None}
use Rattle.std.proofs.lemmas.List.{length-map}
use Rattle.js_tree.specs.declared.lists.Bracket.{Bracket}
use Rattle.js_tree.specs.declared.lists.Element.{Element}
use Rattle.js_tree.specs.declared.lists.Listed.{Listed}
use Rattle.js_tree.specs.declared.lists.Tail.{Tail}
use Rattle.js_tree.specs.declared.lists.Tail.TheVariants as tail
use Rattle.js_tree.specs.declared.lists.Template.{Template}
use Rattle.js_tree.specs.declared.token.Token.{Token}
use Rattle.js_tree.specs.declared.tree.Expr.{Expr}
use Rattle.js_tree.specs.declared.tree.Expr.TheOpen.{Expr-F, Function-F}
use Rattle.js_tree.specs.declared.tree.Function.{Function}
use Rattle.js_tree.specs.Folds.{FunctionLayer}
use Rattle.js_tree.specs.Line.{LineItem, AToken, given_marks, items, possible, tail_items}
use Rattle.js_tree.specs.Parts.{Node, ATail}
use Rattle.js_tree.specs.Spelling.Expressions.{expr_row}
use Rattle.js_tree.specs.Spelling.Functions.{function_row}
use Rattle.js_tree.specs.Spelling.Rows.{bracket_row, each_of, element_row, listed_row, maybe, template_parts}
use Rattle.js_tree.specs.Tokens.{IsInText, own_tokens, tokens_among}
use Rattle.js_tree.proofs.TextLemmas.{tokens_count}
use Rattle.js_scopes.specs.Brackets.{elements, listed, placed}
use Rattle.js_scopes.specs.Calls.{made_with}
use Rattle.js_scopes.specs.Functions.{name_in, params_in}

-- how many tokens stand among items
abbrev tokens : List LineItem → ℕ
tokens is = length (tokens_among is)

module _ {X : Type 0} (put : X → List LineItem → List LineItem) (silent : (x : X) (rest : List LineItem) → tokens_among (put x rest) ≡ tokens_among rest) where
  option_tokens : (o : Option Token) (x : X) (rest : List LineItem) → tokens rest ≤ tokens (possible o (put x rest))
  option_tokens None x rest = let a = ap (λ ts. length ts) (silent x rest) in omega (arith, a)
  option_tokens (Some t) x rest = let a = ap (λ ts. length ts) (silent x rest) in omega (arith, a)

  front_tokens : (es : List (Listed (Element X))) (rest : List LineItem) → length es + tokens rest ≤ tokens (each_of (listed_row given_marks (element_row given_marks put)) es rest)
  front_tokens [] rest = omega arith
  front_tokens (e ∷ es) rest =
      let a = front_tokens es rest in
      let b = option_tokens e.item.dots e.item.value (AToken e.mark ∷ each_of (listed_row given_marks (element_row given_marks put)) es rest) in
      omega (arith, a, b)

  last_tokens : (o : Option (Element X)) (rest : List LineItem) → length (listed o) + tokens rest ≤ tokens (maybe (element_row given_marks put) o rest) + 1
  last_tokens None rest = omega arith
  last_tokens (Some e) rest = let b = option_tokens e.dots e.value rest in omega (arith, b)

  bracket_tokens : (b : Bracket X) (rest : List LineItem) → length (elements b) + 1 + tokens rest ≤ tokens (bracket_row given_marks put b rest)
  bracket_tokens b rest =
      let behind = AToken b.close ∷ rest in
      let a = front_tokens b.front (maybe (element_row given_marks put) b.last behind) in
      let c = last_tokens b.last behind in
      let d = length-append (map (λ (x : Listed (Element X)). x.item) b.front) (listed b.last) in
      let e = length-map b.front (λ (x : Listed (Element X)). x.item) in
      omega (arith, a, c, d, e)

  parts_tokens : (xs : List (Listed X)) (rest : List LineItem) → length xs + tokens rest ≤ tokens (template_parts given_marks put xs rest)
  parts_tokens [] rest = omega arith
  parts_tokens (x ∷ xs) rest =
      let a = parts_tokens xs rest in
      let b = ap (λ ts. length ts) (silent x.item (AToken x.mark ∷ template_parts given_marks put xs rest)) in
      omega (arith, a, b)

-- of the items those with places are as many or fewer
pub placed_few : {X : Type 0} (es : List (Element X)) → length (placed es) ≤ length es
placed_few [] = omega arith
placed_few (e ∷ es) = by e.dots (placed_few es)
  where
    by : (o : Option Token) → length (placed es) ≤ length es → length (placed (record { dots = o; value = e.value } ∷ es)) ≤ length (e ∷ es)
    by None a = omega (arith, a)
    by (Some t) a = omega arith

-- a call, and a template
pub arguments_owned : (head : Expr) (before : List (Tail Expr)) (a : Bracket Expr) → length (elements a) + 1 ≤ length (own_tokens (ATail head before (tail.Call a)))
arguments_owned head before a = let b = bracket_tokens items.expr (λ x rest. refl) a [] in omega (arith, b)

pub parts_owned : (head : Expr) (before : List (Tail Expr)) (t : Template Expr) → length t.parts + 1 ≤ length (own_tokens (ATail head before (tail.Template t)))
parts_owned head before t = let b = parts_tokens items.expr (λ x rest. refl) t.parts [] in omega (arith, b)

-- what `new` makes
tails_silent : (head : Expr) (before ts : List (Tail Expr)) (rest : List LineItem) → tokens_among (tail_items head before ts rest) ≡ tokens_among rest
tails_silent head before [] rest = refl
tails_silent head before (t ∷ ts) rest = tails_silent head (before ++ t ∷ []) ts rest

pub made_owned : (word : Token) (head : Expr) (tails : List (Tail Expr)) (args : Option (Bracket Expr)) → length (made_with args) + 1 ≤ tokens (expr_row items (Expr-F.New word head tails args) [])
made_owned word head tails None = let a = ap (λ ts. length ts) (tails_silent head [] tails []) in omega (arith, a)
made_owned word head tails (Some b) =
    let a = ap (λ ts. length ts) (tails_silent head [] tails (bracket_row given_marks items.expr b [])) in
    let c = bracket_tokens items.expr (λ x rest. refl) b [] in
    omega (arith, a, c)

-- a function: its parameters, its name and `function`
pub params_owned : (l : FunctionLayer) → length (params_in l) + length (listed (name_in l)) + 1 ≤ tokens (function_row items l [])
params_owned (Function-F.Keyword word name params body) = by name
  where
    behind : List LineItem
    behind = AToken body.begin ∷ each_of items.stmt body.body (AToken body.end ∷ [])

    by : (o : Option Token) → length (placed (elements params)) + length (listed o) + 1 ≤ tokens (function_row items (Function-F.Keyword word o params body) [])
    by None = let a = bracket_tokens items.slot (λ x rest. refl) params behind in let b = placed_few (elements params) in omega (arith, a, b)
    by (Some t) = let a = bracket_tokens items.slot (λ x rest. refl) params behind in let b = placed_few (elements params) in omega (arith, a, b)

-- 32 bits number what is fewer than the own tokens of a node of a text
pub few_owned : (n : Node) (k : ℕ) → k + 1 ≤ length (own_tokens n) → IsInText n → k + 1 < 4294967296
few_owned n k le h = let few = h.few in let c = tokens_count n in omega (arith, le, few, c)
