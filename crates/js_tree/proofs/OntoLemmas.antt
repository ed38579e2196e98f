-- Rows of nodes and of items are put in front of what follows.
use Rattle.std.proofs.Common.{◌≡◌, List, [], ◌∷◌, ◌++◌, refl, sym, ap, ◌∙◌, append_assoc, Option, Some, None}
use Rattle.js_tree.specs.declared.lists.Bracket.{Bracket}
use Rattle.js_tree.specs.declared.lists.Element.{Element}
use Rattle.js_tree.specs.declared.lists.Listed.{Listed}
use Rattle.js_tree.specs.declared.lists.Tail.{Tail}
use Rattle.js_tree.specs.declared.token.Token.{Token}
use Rattle.js_tree.specs.declared.tree.Expr.{Expr}
use Rattle.js_tree.specs.declared.tree.Slot.{Slot}
use Rattle.js_tree.specs.Line.{LineItem, AToken, ANode, given_marks, items, possible, tail_items}
use Rattle.js_tree.specs.Parts.{Node, AnExpr, AFunction, APattern, AStmt, ASlot, ATail, nodes, tails_behind}
use Rattle.js_tree.specs.Spelling.Nodes.{unmarked}
use Rattle.js_tree.specs.Spelling.Rows.{bracket_row, each_of, element_row, listed_row, maybe, template_parts}
use Rattle.js_tree.proofs.Adding.{possible_onto}
use Rattle.js_tree.proofs.PartLemmas.{Any, all_any}
use Rattle.js_tree.proofs.RowPairs.{Keeps, params_keeps}

-- a row in front of what was added
pub then_put : {A : Type 0} (row : List A → List A) → ((rest : List A) → row rest ≡ row [] ++ rest) → (old mid new rest : List A) → mid ≡ old ++ row [] → new ≡ mid ++ rest → new ≡ old ++ row rest
then_put row onto old mid new rest before now = now ∙ ap (λ us. us ++ rest) before ∙ append_assoc old (row []) rest ∙ ap (λ us. old ++ us) (sym (onto rest))

abbrev Then : {A : Type 0} → List A → List A → List A → Type 0
Then rest r s = r ≡ s ++ rest

module _ (rest : List Node) where
  tails_then : (head : Expr) (before ts : List (Tail Expr)) (r s : List Node) → Then rest r s → Then rest (tails_behind head before ts r) (tails_behind head before ts s)
  tails_then head before [] r s e = e
  tails_then head before (t ∷ ts) r s e = ap (λ ns. ATail head before t ∷ ns) (tails_then head (before ++ t ∷ []) ts r s e)

  nodes_then : Keeps nodes nodes Any (Then rest)
  nodes_then = record {
    token = λ test t r s e. e;
    option = λ test o r s e. e;
    ahead = λ c r s e. e;
    expr = λ x r s h e. ap (λ ns. AnExpr x ∷ ns) e;
    function = λ x r s h e. ap (λ ns. AFunction x ∷ ns) e;
    pattern = λ x r s h e. ap (λ ns. APattern x ∷ ns) e;
    stmt = λ x r s h e. ap (λ ns. AStmt x ∷ ns) e;
    slot = λ x r s h e. ap (λ ns. ASlot x ∷ ns) e;
    tails = λ head ts ns r s h k. tails_then head [] ts r s (k (all_any ns));
  }

  pub tails_onto : (head : Expr) (ts : List (Tail Expr)) → tails_behind head [] ts rest ≡ tails_behind head [] ts [] ++ rest
  tails_onto head ts = tails_then head [] ts rest [] refl

  pub params_onto : (o : Bracket Slot) → bracket_row unmarked nodes.slot o rest ≡ bracket_row unmarked nodes.slot o [] ++ rest
  params_onto o = params_keeps nodes nodes Any (Then rest) nodes_then o rest [] (all_any (bracket_row unmarked nodes.slot o [])) refl

module _ (rest : List LineItem) where
  possible_then : (o : Option Token) (r s : List LineItem) → Then rest r s → Then rest (possible o r) (possible o s)
  possible_then None r s e = e
  possible_then (Some t) r s e = ap (λ is. AToken t ∷ is) e

  tail_items_then : (head : Expr) (before ts : List (Tail Expr)) (r s : List LineItem) → Then rest r s → Then rest (tail_items head before ts r) (tail_items head before ts s)
  tail_items_then head before [] r s e = e
  tail_items_then head before (t ∷ ts) r s e = ap (λ is. ANode (ATail head before t) ∷ is) (tail_items_then head (before ++ t ∷ []) ts r s e)

  items_then : Keeps items items Any (Then rest)
  items_then = record {
    token = λ test t r s e. ap (λ is. AToken t ∷ is) e;
    option = λ test o r s e. possible_then o r s e;
    ahead = λ c r s e. e;
    expr = λ x r s h e. ap (λ is. ANode (AnExpr x) ∷ is) e;
    function = λ x r s h e. ap (λ is. ANode (AFunction x) ∷ is) e;
    pattern = λ x r s h e. ap (λ is. ANode (APattern x) ∷ is) e;
    stmt = λ x r s h e. ap (λ is. ANode (AStmt x) ∷ is) e;
    slot = λ x r s h e. ap (λ is. ANode (ASlot x) ∷ is) e;
    tails = λ head ts ns r s h k. tail_items_then head [] ts r s (k (all_any ns));
  }

  pub tail_items_onto : (head : Expr) (ts : List (Tail Expr)) → tail_items head [] ts rest ≡ tail_items head [] ts [] ++ rest
  tail_items_onto head ts = tail_items_then head [] ts rest [] refl

  pub param_items_onto : (o : Bracket Slot) → bracket_row given_marks items.slot o rest ≡ bracket_row given_marks items.slot o [] ++ rest
  param_items_onto o = params_keeps items items Any (Then rest) items_then o rest [] (all_any (bracket_row unmarked nodes.slot o [])) refl

-- the parts of a template by themselves
pub template_nodes : (xs : List (Listed Expr)) (rest : List Node) → template_parts unmarked nodes.expr xs rest ≡ each_of (λ x more. AnExpr x.item ∷ more) xs rest
template_nodes [] rest = refl
template_nodes (x ∷ xs) rest = ap (λ ns. AnExpr x.item ∷ ns) (template_nodes xs rest)

pub template_items : (xs : List (Listed Expr)) (rest : List LineItem) → template_parts given_marks items.expr xs rest ≡ each_of (listed_row given_marks items.expr) xs rest
template_items [] rest = refl
template_items (x ∷ xs) rest = ap (λ is. ANode (AnExpr x.item) ∷ AToken x.mark ∷ is) (template_items xs rest)

-- the last item in brackets
pub expr_last_onto : (o : Option (Element Expr)) (rest : List LineItem) → maybe (element_row given_marks items.expr) o rest ≡ maybe (element_row given_marks items.expr) o [] ++ rest
expr_last_onto None rest = refl
expr_last_onto (Some x) rest = possible_onto x.dots (ANode (AnExpr x.value) ∷ []) rest

pub slot_last_onto : (o : Option (Element Slot)) (rest : List LineItem) → maybe (element_row given_marks items.slot) o rest ≡ maybe (element_row given_marks items.slot) o [] ++ rest
slot_last_onto None rest = refl
slot_last_onto (Some x) rest = possible_onto x.dots (ANode (ASlot x.value) ∷ []) rest

pub value_onto : (o : Option Expr) (rest : List LineItem) → maybe items.expr o rest ≡ maybe items.expr o [] ++ rest
value_onto None rest = refl
value_onto (Some x) rest = refl
