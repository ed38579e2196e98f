-- What two uses of the rows have to do with each other.
use Rattle.std.proofs.Common.{◌≡◌, ℕ, ◌+◌, ◌<◌, List, [], ◌∷◌, map, length, take, drop, get_or, refl, sym, ap, ◌∙◌, add-one, Option, Some, None}
use Rattle.std.proofs.Math.Seq.{drop-cons}
use Rattle.std.proofs.lemmas.List.{take_more}
use Rattle.js_tree.specs.declared.lists.Bracket.{Bracket}
use Rattle.js_tree.specs.declared.lists.Listed.{Listed}
use Rattle.js_tree.specs.declared.lists.Tail.{Tail}
use Rattle.js_tree.specs.declared.lists.Tail.TheVariants as tail
use Rattle.js_tree.specs.declared.lists.Template.{Template}
use Rattle.js_tree.specs.declared.token_kind.TokenKind.TheVariants as kind
use Rattle.js_tree.specs.declared.tree.Expr.{Expr}
use Rattle.js_tree.specs.declared.tree.Expr.TheOpen.{Expr-F, Function-F, Pattern-F, Stmt-F, Slot-F}
use Rattle.js_tree.specs.declared.tree.Function.{Function}
use Rattle.js_tree.specs.declared.tree.Pattern.{Pattern}
use Rattle.js_tree.specs.declared.tree.Slot.{Slot}
use Rattle.js_tree.specs.declared.tree.Stmt.{Stmt}
use Rattle.js_tree.specs.Folds.{ExprLayer, FunctionLayer, PatternLayer, StmtLayer, SlotLayer}
use Rattle.js_tree.specs.Operators.{is_binary, on_line}
use Rattle.js_tree.specs.Parts.{Node, ATail, each_tail}
use Rattle.js_tree.specs.Spelling.Expressions.{expr_row}
use Rattle.js_tree.specs.Spelling.Functions.{function_row}
use Rattle.js_tree.specs.Spelling.Patterns.{pattern_row, slot_row}
use Rattle.js_tree.specs.Spelling.Rows.{Marks, Writer, mark, may_mark, each_of, maybe, further_row, listed_row, element_row, bracket_row, template_head, template_mark, template_parts, template_row, tail_row, arm_row, init_row}
use Rattle.js_tree.specs.Spelling.Statements.{stmt_row}
use Rattle.js_tree.specs.TokenKinds.{is}
use Rattle.js_tree.proofs.Folds.{map_maybe, map_further, map_listed, map_element, map_bracket, map_template, map_tail, map_arm, map_init, seen_expr, seen_function, seen_pattern, seen_stmt, seen_slot, layer-Chain, layer-New, layer-Keyword, layer-Return, layer-Slot}

-- the next tail of a chain
pub drop_next : {X : Type 0} (xs : List X) (i : ℕ) (d : X) → i < length xs → drop i xs ≡ get_or xs i d ∷ drop (i + 1) xs
drop_next xs i d within = drop-cons xs i d within ∙ (λ j. get_or xs i d ∷ drop (sym (add-one i) j) xs)

pub tails_next : {R : Type 0} (put : Node → R → R) (head : Expr) (tails : List (Tail Expr)) (i : ℕ) (x : Tail Expr) (rest : R) → i < length tails → x ≡ get_or tails i x
    → each_tail put head (take i tails) (drop i tails) rest ≡ put (ATail head (take i tails) x) (each_tail put head (take (i + 1) tails) (drop (i + 1) tails) rest)
tails_next put head tails i x rest within is =
    ap (λ ts. each_tail put head (take i tails) ts rest) (drop_next tails i x within)
    ∙ (λ j. put (ATail head (take i tails) (sym is j)) (each_tail put head (sym (take_more tails i x within) j) (drop (i + 1) tails) rest))

-- ROWS OF WHAT IS SEEN

pub each_map : {X Y R : Type 0} (put : Y → R → R) (f : X → Y) (xs : List X) (rest : R) → each_of put (map f xs) rest ≡ each_of (λ x. put (f x)) xs rest
each_map put f [] rest = refl
each_map put f (x ∷ xs) rest = ap (put (f x)) (each_map put f xs rest)

pub maybe_map : {X Y R : Type 0} (put : Y → R → R) (f : X → Y) (o : Option X) (rest : R) → maybe put (map_maybe f o) rest ≡ maybe (λ x. put (f x)) o rest
maybe_map put f None rest = refl
maybe_map put f (Some x) rest = refl

head_map : {X Y : Type 0} (f : X → Y) (xs : List X) → template_head (map f xs) ≡ template_head xs
head_map f [] = refl
head_map f (x ∷ xs) = refl

mark_map : {X Y : Type 0} (f : X → Y) (xs : List X) → template_mark (map f xs) ≡ template_mark xs
mark_map f [] = refl
mark_map f (x ∷ xs) = refl

module _ {X Y R : Type 0} (m : Marks R) (put : Y → R → R) (f : X → Y) where
  parts_map : (xs : List (Listed X)) (rest : R) → template_parts m put (map (map_listed f) xs) rest ≡ template_parts m (λ x. put (f x)) xs rest
  parts_map [] rest = refl
  parts_map (x ∷ xs) rest = λ i. put (f x.item) (m.token (mark_map (map_listed f) xs i) x.mark (parts_map xs rest i))

  pub template_map : (t : Template X) (rest : R) → template_row m put (map_template f t) rest ≡ template_row m (λ x. put (f x)) t rest
  template_map t rest = λ i. m.token (head_map (map_listed f) t.parts i) t.head (parts_map t.parts rest i)

  pub bracket_map : (b : Bracket X) (rest : R) → bracket_row m put (map_bracket f b) rest ≡ bracket_row m (λ x. put (f x)) b rest
  bracket_map b rest = ap (mark m kind.LeftParen b.«open»)
      (each_map (listed_row m (element_row m put)) (map_listed (map_element f)) b.front (maybe (element_row m put) (map_maybe (map_element f) b.last) (mark m kind.RightParen b.close rest))
      ∙ ap (each_of (listed_row m (element_row m (λ x. put (f x)))) b.front) (maybe_map (element_row m put) (map_element f) b.last (mark m kind.RightParen b.close rest)))

  pub args_map : (o : Option (Bracket X)) (rest : R) → maybe (bracket_row m put) (map_maybe (map_bracket f) o) rest ≡ maybe (bracket_row m (λ x. put (f x))) o rest
  args_map None rest = refl
  args_map (Some b) rest = bracket_map b rest

  pub tail_map : (t : Tail X) (rest : R) → tail_row m put (map_tail f t) rest ≡ tail_row m (λ x. put (f x)) t rest
  tail_map (tail.Member dot name) rest = refl
  tail_map (tail.Index begin value end) rest = refl
  tail_map (tail.Call b) rest = bracket_map b rest
  tail_map (tail.Template t) rest = template_map t rest

  pub tails_map : (ts : List (Tail X)) (rest : R) → each_of (tail_row m put) (map (map_tail f) ts) rest ≡ each_of (tail_row m (λ x. put (f x))) ts rest
  tails_map [] rest = refl
  tails_map (t ∷ ts) rest = tail_map t (each_of (tail_row m put) (map (map_tail f) ts) rest) ∙ ap (tail_row m (λ x. put (f x)) t) (tails_map ts rest)

module _ {A B C D E R : Type 0} (w : Writer A B C D E R) (fe : Expr → A) (ff : Function → B) (fp : Pattern → C) (fs : Stmt → D) (fl : Slot → E) where
  -- the same use over what is seen
  abbrev pub over : Writer Expr Function Pattern Stmt Slot R
  over = record {
    marks = w.marks;
    expr = λ x. w.expr (fe x);
    function = λ x. w.function (ff x);
    pattern = λ x. w.pattern (fp x);
    stmt = λ x. w.stmt (fs x);
    slot = λ x. w.slot (fl x);
    tails = λ head ts. w.tails (fe head) (map (map_tail fe) ts);
  }

  pub expr_over : (x : ExprLayer) (rest : R) → expr_row w (seen_expr fe ff fp fs fl x) rest ≡ expr_row over x rest
  expr_over (Expr-F.Template t) rest = template_map w.marks w.expr fe t rest
  expr_over (Expr-F.Chain head tails) rest = ap (λ (l : Expr-F A B C D E). expr_row w l rest) (layer-Chain fe ff fp fs fl head tails)
  expr_over (Expr-F.New word head tails args) rest =
      ap (λ (l : Expr-F A B C D E). expr_row w l rest) (layer-New fe ff fp fs fl word head tails args)
      ∙ ap (λ r. mark w.marks kind.New word (w.expr (fe head) (w.tails (fe head) (map (map_tail fe) tails) r))) (args_map w.marks w.expr fe args rest)
  expr_over (Expr-F.Binary level first others) rest = ap (w.expr (fe first)) (each_map (further_row w.marks w.expr (is_binary level)) (map_further fe) others rest)
  expr_over (Expr-F.Cond arms last) rest = each_map (arm_row w.marks w.expr) (map_arm fe) arms (w.expr (fe last) rest)
  expr_over (Expr-F.Comma first others) rest = ap (w.expr (fe first)) (each_map (further_row w.marks w.expr (is kind.Comma)) (map_further fe) others rest)
  expr_over _ rest = refl

  pub function_over : (x : FunctionLayer) (rest : R) → function_row w (seen_function fe ff fp fs fl x) rest ≡ function_row over x rest
  function_over (Function-F.Keyword word name params body) rest =
      ap (λ (l : Function-F A B C D E). function_row w l rest) (layer-Keyword fe ff fp fs fl word name params body)
      ∙ ap (λ r. mark w.marks kind.Function word (may_mark w.marks kind.Name name r))
      (bracket_map w.marks w.slot fl params (mark w.marks kind.LeftBrace body.begin (each_of w.stmt (map fs body.body) (mark w.marks kind.RightBrace body.end rest)))
      ∙ ap (λ r. bracket_row w.marks (λ x. w.slot (fl x)) params (mark w.marks kind.LeftBrace body.begin r)) (each_map w.stmt fs body.body (mark w.marks kind.RightBrace body.end rest)))

  pub pattern_over : (x : PatternLayer) (rest : R) → pattern_row w (seen_pattern fe ff fp fs fl x) rest ≡ pattern_row over x rest
  pattern_over (Pattern-F.«Pattern::Name» t) rest = refl
  pattern_over (Pattern-F.Member chain) rest = refl
  pattern_over (Pattern-F.«Pattern::Paren» begin inner end) rest = refl

  pub stmt_over : (x : StmtLayer) (rest : R) → stmt_row w (seen_stmt fe ff fp fs fl x) rest ≡ stmt_row over x rest
  stmt_over (Stmt-F.Vars word first others semi) rest =
      ap (λ r. mark w.marks kind.Var word (w.slot (fl first) r)) (each_map (further_row w.marks w.slot (is kind.Comma)) (map_further fl) others (may_mark w.marks kind.Semicolon semi rest))
  stmt_over (Stmt-F.Return word value semi) rest =
      ap (λ (l : Stmt-F A B C D E). stmt_row w l rest) (layer-Return fe ff fp fs fl word value semi)
      ∙ ap (mark w.marks kind.Return word) (maybe_map (λ x more. w.marks.ahead on_line (w.expr x more)) fe value (may_mark w.marks kind.Semicolon semi rest))
  stmt_over (Stmt-F.Plain value semi) rest = refl
  stmt_over (Stmt-F.«Stmt::Fun» function) rest = refl

  pub slot_over : (x : SlotLayer) (rest : R) → slot_row w (seen_slot fe ff fp fs fl x) rest ≡ slot_row over x rest
  slot_over x rest =
      ap (λ (l : Slot-F A B C D E). slot_row w l rest) (layer-Slot fe ff fp fs fl x)
      ∙ ap (w.pattern (fp x.target)) (maybe_map (init_row w.marks w.expr) (map_init fe) x.init rest)
