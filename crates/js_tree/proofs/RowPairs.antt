-- Two uses of the rows, over the nodes themselves: what they keep of tokens and nodes they keep of rows.
use Rattle.std.proofs.Common.{Bool, List, [], ◌∷◌, Option, Some, None}
use Rattle.std.specs.List.{AllByRecursion}
use Rattle.js_tree.specs.declared.lists.Arm.{Arm}
use Rattle.js_tree.specs.declared.lists.Bracket.{Bracket}
use Rattle.js_tree.specs.declared.lists.Element.{Element}
use Rattle.js_tree.specs.declared.lists.Further.{Further}
use Rattle.js_tree.specs.declared.lists.Init.{Init}
use Rattle.js_tree.specs.declared.lists.Listed.{Listed}
use Rattle.js_tree.specs.declared.lists.Tail.{Tail}
use Rattle.js_tree.specs.declared.lists.Tail.TheVariants as tail
use Rattle.js_tree.specs.declared.lists.Template.{Template}
use Rattle.js_tree.specs.declared.token.Token.{Token}
use Rattle.js_tree.specs.declared.token_kind.TokenKind.{TokenKind}
use Rattle.js_tree.specs.declared.token_kind.TokenKind.TheVariants as kind
use Rattle.js_tree.specs.declared.tree.Expr.{Expr}
use Rattle.js_tree.specs.declared.tree.Expr.TheOpen.{Expr-F, Function-F, Pattern-F, Stmt-F}
use Rattle.js_tree.specs.declared.tree.Function.{Function}
use Rattle.js_tree.specs.declared.tree.Pattern.{Pattern}
use Rattle.js_tree.specs.declared.tree.Slot.{Slot}
use Rattle.js_tree.specs.declared.tree.Stmt.{Stmt}
use Rattle.js_tree.specs.Folds.{ExprLayer, FunctionLayer, PatternLayer, StmtLayer, SlotLayer}
use Rattle.js_tree.specs.Operators.{begins_plain, is_assignment, is_binary, is_literal, is_member_name, is_unary, is_update, on_line}
use Rattle.js_tree.specs.Parts.{Node, AnExpr, AFunction, APattern, AStmt, ASlot, nodes, tails_behind}
use Rattle.js_tree.specs.Spelling.Expressions.{expr_row}
use Rattle.js_tree.specs.Spelling.Functions.{function_row}
use Rattle.js_tree.specs.Spelling.Patterns.{pattern_row, slot_row}
use Rattle.js_tree.specs.Spelling.Rows.{Marks, Writer, mark, may_mark, each_of, maybe, further_row, listed_row, element_row, bracket_row, template_head, template_mark, template_parts, template_row, tail_row, arm_row, init_row}
use Rattle.js_tree.specs.Spelling.Nodes.{unmarked}
use Rattle.js_tree.specs.Spelling.Statements.{stmt_row}
use Rattle.js_tree.specs.TokenKinds.{is}

-- what tokens, conditions and nodes keep of the relation, where H holds of the nodes
pub record Keeps {R S : Type 0} (v : Writer Expr Function Pattern Stmt Slot R) (w : Writer Expr Function Pattern Stmt Slot S) (H : Node → Type 0) (Rel : R → S → Type 0) : Type 0 where
  pub token : (test : TokenKind → Bool) (t : Token) (r : R) (s : S) → Rel r s → Rel (v.marks.token test t r) (w.marks.token test t s)
  pub option : (test : TokenKind → Bool) (o : Option Token) (r : R) (s : S) → Rel r s → Rel (v.marks.option test o r) (w.marks.option test o s)
  pub ahead : (c : TokenKind → Bool → Bool) (r : R) (s : S) → Rel r s → Rel (v.marks.ahead c r) (w.marks.ahead c s)
  pub expr : (x : Expr) (r : R) (s : S) → H (AnExpr x) → Rel r s → Rel (v.expr x r) (w.expr x s)
  pub function : (x : Function) (r : R) (s : S) → H (AFunction x) → Rel r s → Rel (v.function x r) (w.function x s)
  pub pattern : (x : Pattern) (r : R) (s : S) → H (APattern x) → Rel r s → Rel (v.pattern x r) (w.pattern x s)
  pub stmt : (x : Stmt) (r : R) (s : S) → H (AStmt x) → Rel r s → Rel (v.stmt x r) (w.stmt x s)
  pub slot : (x : Slot) (r : R) (s : S) → H (ASlot x) → Rel r s → Rel (v.slot x r) (w.slot x s)
  pub tails : (head : Expr) (ts : List (Tail Expr)) (ns : List Node) (r : R) (s : S) → AllByRecursion H (tails_behind head [] ts ns) → (AllByRecursion H ns → Rel r s) → Rel (v.tails head ts r) (w.tails head ts s)

-- the relation, where H holds of these nodes
pub record Goes {R S : Type 0} (H : Node → Type 0) (Rel : R → S → Type 0) (ns : List Node) (r : R) (s : S) : Type 0 where
  pub by : AllByRecursion H ns → Rel r s

module _ {R S : Type 0} (v : Writer Expr Function Pattern Stmt Slot R) (w : Writer Expr Function Pattern Stmt Slot S) (H : Node → Type 0) (Rel : R → S → Type 0) (keeps : Keeps v w H Rel) where
  abbrev G : List Node → R → S → Type 0
  G = Goes H Rel

  token : {ns : List Node} {r : R} {s : S} (test : TokenKind → Bool) (t : Token) → G ns r s → G ns (v.marks.token test t r) (w.marks.token test t s)
  token {ns} {r} {s} test t g = record { by = λ h. keeps.token test t r s (g.by h) }

  ahead : {ns : List Node} {r : R} {s : S} (c : TokenKind → Bool → Bool) → G ns r s → G ns (v.marks.ahead c r) (w.marks.ahead c s)
  ahead {ns} {r} {s} c g = record { by = λ h. keeps.ahead c r s (g.by h) }

  expr : {ns : List Node} {r : R} {s : S} (x : Expr) → G ns r s → G (AnExpr x ∷ ns) (v.expr x r) (w.expr x s)
  expr {ns} {r} {s} x g = record { by = λ h. keeps.expr x r s h.0 (g.by h.1) }

  function : {ns : List Node} {r : R} {s : S} (x : Function) → G ns r s → G (AFunction x ∷ ns) (v.function x r) (w.function x s)
  function {ns} {r} {s} x g = record { by = λ h. keeps.function x r s h.0 (g.by h.1) }

  pattern : {ns : List Node} {r : R} {s : S} (x : Pattern) → G ns r s → G (APattern x ∷ ns) (v.pattern x r) (w.pattern x s)
  pattern {ns} {r} {s} x g = record { by = λ h. keeps.pattern x r s h.0 (g.by h.1) }

  stmt : {ns : List Node} {r : R} {s : S} (x : Stmt) → G ns r s → G (AStmt x ∷ ns) (v.stmt x r) (w.stmt x s)
  stmt {ns} {r} {s} x g = record { by = λ h. keeps.stmt x r s h.0 (g.by h.1) }

  slot : {ns : List Node} {r : R} {s : S} (x : Slot) → G ns r s → G (ASlot x ∷ ns) (v.slot x r) (w.slot x s)
  slot {ns} {r} {s} x g = record { by = λ h. keeps.slot x r s h.0 (g.by h.1) }

  tails : {ns : List Node} {r : R} {s : S} (head : Expr) (ts : List (Tail Expr)) → G ns r s → G (tails_behind head [] ts ns) (v.tails head ts r) (w.tails head ts s)
  tails {ns} {r} {s} head ts g = record { by = λ h. keeps.tails head ts ns r s h g.by }

  token_maybe : {ns : List Node} {r : R} {s : S} (k : TokenKind) (o : Option Token) → G ns r s → G ns (may_mark v.marks k o r) (may_mark w.marks k o s)
  token_maybe {ns} {r} {s} k o g = record { by = λ h. keeps.option (is k) o r s (g.by h) }

  -- lists, where their items keep the relation
  module _ {X : Type 0} (put : X → List Node → List Node) (one : X → R → R) (two : X → S → S) (item : (x : X) (ns : List Node) (r : R) (s : S) → G ns r s → G (put x ns) (one x r) (two x s)) where
    each : {ns : List Node} {r : R} {s : S} (xs : List X) → G ns r s → G (each_of put xs ns) (each_of one xs r) (each_of two xs s)
    each [] g = g
    each (x ∷ xs) g = item x _ _ _ (each xs g)

    perhaps : {ns : List Node} {r : R} {s : S} (o : Option X) → G ns r s → G (maybe put o ns) (maybe one o r) (maybe two o s)
    perhaps None g = g
    perhaps (Some x) g = item x _ _ _ g

    abbrev none : Marks (List Node)
    none = unmarked

    further : {ns : List Node} {r : R} {s : S} (test : TokenKind → Bool) (x : Further X) → G ns r s → G (further_row none put test x ns) (further_row v.marks one test x r) (further_row w.marks two test x s)
    further test x g = token test x.mark (item x.item _ _ _ g)

    element : {ns : List Node} {r : R} {s : S} (x : Element X) → G ns r s → G (element_row none put x ns) (element_row v.marks one x r) (element_row w.marks two x s)
    element x g = token_maybe kind.Dots x.dots (item x.value _ _ _ g)

    listed : {ns : List Node} {r : R} {s : S} (x : Listed (Element X)) → G ns r s → G (listed_row none (element_row none put) x ns) (listed_row v.marks (element_row v.marks one) x r) (listed_row w.marks (element_row w.marks two) x s)
    listed x g = element x.item (token (is kind.Comma) x.mark g)

  abbrev unm : Marks (List Node)
  unm = unmarked

  module _ {X : Type 0} (put : X → List Node → List Node) (one : X → R → R) (two : X → S → S) (item : (x : X) (ns : List Node) (r : R) (s : S) → G ns r s → G (put x ns) (one x r) (two x s)) where
    bracket : {ns : List Node} {r : R} {s : S} (b : Bracket X) → G ns r s → G (bracket_row unm put b ns) (bracket_row v.marks one b r) (bracket_row w.marks two b s)
    bracket b g =
        token (is kind.LeftParen) b.«open»
        (each (listed_row unm (element_row unm put)) (listed_row v.marks (element_row v.marks one)) (listed_row w.marks (element_row w.marks two)) (λ x ns r s k. listed put one two item x k) b.front
        (perhaps (element_row unm put) (element_row v.marks one) (element_row w.marks two) (λ x ns r s k. element put one two item x k) b.last
        (token (is kind.RightParen) b.close g)))

    substitutions : {ns : List Node} {r : R} {s : S} (xs : List (Listed X)) → G ns r s → G (template_parts unm put xs ns) (template_parts v.marks one xs r) (template_parts w.marks two xs s)
    substitutions [] g = g
    substitutions (x ∷ xs) g = item x.item _ _ _ (token (template_mark xs) x.mark (substitutions xs g))

    template : {ns : List Node} {r : R} {s : S} (t : Template X) → G ns r s → G (template_row unm put t ns) (template_row v.marks one t r) (template_row w.marks two t s)
    template t g = token (template_head t.parts) t.head (substitutions t.parts g)

    one_tail : {ns : List Node} {r : R} {s : S} (t : Tail X) → G ns r s → G (tail_row unm put t ns) (tail_row v.marks one t r) (tail_row w.marks two t s)
    one_tail (tail.Member dot name) g = token (is kind.Dot) dot (token is_member_name name g)
    one_tail (tail.Index begin value end) g = token (is kind.LeftBracket) begin (item value _ _ _ (token (is kind.RightBracket) end g))
    one_tail (tail.Call b) g = bracket b g
    one_tail (tail.Template t) g = template t g

    arm : {ns : List Node} {r : R} {s : S} (x : Arm X) → G ns r s → G (arm_row unm put x ns) (arm_row v.marks one x r) (arm_row w.marks two x s)
    arm x g = item x.test _ _ _ (token (is kind.Question) x.question (item x.value _ _ _ (token (is kind.Colon) x.colon g)))

    init : {ns : List Node} {r : R} {s : S} (x : Init X) → G ns r s → G (init_row unm put x ns) (init_row v.marks one x r) (init_row w.marks two x s)
    init x g = token (is kind.Assign) x.equals (item x.value _ _ _ g)

  goes_expr : {ns : List Node} {r : R} {s : S} (x : ExprLayer) → G ns r s → G (expr_row nodes x ns) (expr_row v x r) (expr_row w x s)
  goes_expr (Expr-F.«Expr::Name» t) g = token (is kind.Name) t g
  goes_expr (Expr-F.This t) g = token (is kind.This) t g
  goes_expr (Expr-F.Literal t) g = token is_literal t g
  goes_expr (Expr-F.Template t) g = template nodes.expr v.expr w.expr (λ x ns r s k. expr x k) t g
  goes_expr (Expr-F.«Expr::Paren» begin inner end) g = token (is kind.LeftParen) begin (expr inner (token (is kind.RightParen) end g))
  goes_expr (Expr-F.«Expr::Fun» f) g = function f g
  goes_expr (Expr-F.Chain head ts) g = expr head (tails head ts g)
  goes_expr (Expr-F.New word head ts args) g =
      token (is kind.New) word (expr head (tails head ts
      (perhaps (bracket_row unm nodes.expr) (bracket_row v.marks v.expr) (bracket_row w.marks w.expr) (λ b ns r s k. bracket nodes.expr v.expr w.expr (λ x ns r s l. expr x l) b k) args g)))
  goes_expr (Expr-F.NewTarget word dot target) g = token (is kind.New) word (token (is kind.Dot) dot (token (is kind.Name) target g))
  goes_expr (Expr-F.Postfix target op) g = expr target (ahead on_line (token is_update op g))
  goes_expr (Expr-F.Unary op operand) g = token is_unary op (expr operand g)
  goes_expr (Expr-F.Power base op exponent) g = expr base (token (is kind.Stars) op (expr exponent g))
  goes_expr (Expr-F.Binary level first others) g =
      expr first (each (further_row unm nodes.expr (is_binary level)) (further_row v.marks v.expr (is_binary level)) (further_row w.marks w.expr (is_binary level)) (λ x ns r s k. further nodes.expr v.expr w.expr (λ y ns r s l. expr y l) (is_binary level) x k) others g)
  goes_expr (Expr-F.Cond arms last) g =
      each (arm_row unm nodes.expr) (arm_row v.marks v.expr) (arm_row w.marks w.expr) (λ x ns r s k. arm nodes.expr v.expr w.expr (λ y ns r s l. expr y l) x k) arms (expr last g)
  goes_expr (Expr-F.Assign target op value) g = pattern target (token is_assignment op (expr value g))
  goes_expr (Expr-F.Comma first others) g =
      expr first (each (further_row unm nodes.expr (is kind.Comma)) (further_row v.marks v.expr (is kind.Comma)) (further_row w.marks w.expr (is kind.Comma)) (λ x ns r s k. further nodes.expr v.expr w.expr (λ y ns r s l. expr y l) (is kind.Comma) x k) others g)

  goes_function : {ns : List Node} {r : R} {s : S} (x : FunctionLayer) → G ns r s → G (function_row nodes x ns) (function_row v x r) (function_row w x s)
  goes_function (Function-F.Keyword word name params body) g =
      token (is kind.Function) word (token_maybe kind.Name name (bracket nodes.slot v.slot w.slot (λ x ns r s k. slot x k) params
      (token (is kind.LeftBrace) body.begin (each nodes.stmt v.stmt w.stmt (λ x ns r s k. stmt x k) body.body (token (is kind.RightBrace) body.end g)))))

  goes_pattern : {ns : List Node} {r : R} {s : S} (x : PatternLayer) → G ns r s → G (pattern_row nodes x ns) (pattern_row v x r) (pattern_row w x s)
  goes_pattern (Pattern-F.«Pattern::Name» t) g = token (is kind.Name) t g
  goes_pattern (Pattern-F.Member chain) g = expr chain g
  goes_pattern (Pattern-F.«Pattern::Paren» begin inner end) g = token (is kind.LeftParen) begin (pattern inner (token (is kind.RightParen) end g))

  goes_stmt : {ns : List Node} {r : R} {s : S} (x : StmtLayer) → G ns r s → G (stmt_row nodes x ns) (stmt_row v x r) (stmt_row w x s)
  goes_stmt (Stmt-F.Plain value semi) g = ahead begins_plain (expr value (token_maybe kind.Semicolon semi g))
  goes_stmt (Stmt-F.Vars word first others semi) g =
      token (is kind.Var) word (slot first (each (further_row unm nodes.slot (is kind.Comma)) (further_row v.marks v.slot (is kind.Comma)) (further_row w.marks w.slot (is kind.Comma)) (λ x ns r s k. further nodes.slot v.slot w.slot (λ y ns r s l. slot y l) (is kind.Comma) x k) others
      (token_maybe kind.Semicolon semi g)))
  goes_stmt (Stmt-F.Return word value semi) g =
      token (is kind.Return) word (perhaps nodes.expr (λ x more. v.marks.ahead on_line (v.expr x more)) (λ x more. w.marks.ahead on_line (w.expr x more)) (λ x ns r s k. ahead on_line (expr x k)) value (token_maybe kind.Semicolon semi g))
  goes_stmt (Stmt-F.«Stmt::Fun» f) g = function f g

  goes_slot : {ns : List Node} {r : R} {s : S} (x : SlotLayer) → G ns r s → G (slot_row nodes x ns) (slot_row v x r) (slot_row w x s)
  goes_slot x g = pattern x.target (perhaps (init_row unm nodes.expr) (init_row v.marks v.expr) (init_row w.marks w.expr) (λ i ns r s k. init nodes.expr v.expr w.expr (λ y ns r s l. expr y l) i k) x.init g)

  -- the end of a row
  abbrev stays : (r : R) (s : S) → Rel r s → G [] r s
  stays r s e = record { by = λ h. e }

  pub expr_keeps : (x : ExprLayer) (r : R) (s : S) → AllByRecursion H (expr_row nodes x []) → Rel r s → Rel (expr_row v x r) (expr_row w x s)
  expr_keeps x r s h e = (goes_expr x (stays r s e)).by h

  pub function_keeps : (x : FunctionLayer) (r : R) (s : S) → AllByRecursion H (function_row nodes x []) → Rel r s → Rel (function_row v x r) (function_row w x s)
  function_keeps x r s h e = (goes_function x (stays r s e)).by h

  pub pattern_keeps : (x : PatternLayer) (r : R) (s : S) → AllByRecursion H (pattern_row nodes x []) → Rel r s → Rel (pattern_row v x r) (pattern_row w x s)
  pattern_keeps x r s h e = (goes_pattern x (stays r s e)).by h

  pub stmt_keeps : (x : StmtLayer) (r : R) (s : S) → AllByRecursion H (stmt_row nodes x []) → Rel r s → Rel (stmt_row v x r) (stmt_row w x s)
  stmt_keeps x r s h e = (goes_stmt x (stays r s e)).by h

  pub slot_keeps : (x : SlotLayer) (r : R) (s : S) → AllByRecursion H (slot_row nodes x []) → Rel r s → Rel (slot_row v x r) (slot_row w x s)
  slot_keeps x r s h e = (goes_slot x (stays r s e)).by h

  pub tail_keeps : (t : Tail Expr) (r : R) (s : S) → AllByRecursion H (tail_row unm nodes.expr t []) → Rel r s → Rel (tail_row v.marks v.expr t r) (tail_row w.marks w.expr t s)
  tail_keeps t r s h e = (one_tail nodes.expr v.expr w.expr (λ x ns r s k. expr x k) t (stays r s e)).by h

  pub body_keeps : (xs : List Stmt) (r : R) (s : S) → AllByRecursion H (each_of nodes.stmt xs []) → Rel r s → Rel (each_of v.stmt xs r) (each_of w.stmt xs s)
  body_keeps xs r s h e = (each nodes.stmt v.stmt w.stmt (λ x ns r s k. stmt x k) xs (stays r s e)).by h

  pub arguments_keeps : (o : Bracket Expr) (r : R) (s : S) → AllByRecursion H (bracket_row unm nodes.expr o []) → Rel r s → Rel (bracket_row v.marks v.expr o r) (bracket_row w.marks w.expr o s)
  arguments_keeps o r s h e = (bracket nodes.expr v.expr w.expr (λ x ns r s k. expr x k) o (stays r s e)).by h

  pub params_keeps : (o : Bracket Slot) (r : R) (s : S) → AllByRecursion H (bracket_row unm nodes.slot o []) → Rel r s → Rel (bracket_row v.marks v.slot o r) (bracket_row w.marks w.slot o s)
  params_keeps o r s h e = (bracket nodes.slot v.slot w.slot (λ x ns r s k. slot x k) o (stays r s e)).by h
