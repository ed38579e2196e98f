-- A statement as its parts, by the kind that is told of the next token, and a statement made of parts.
use Rattle.std.proofs.Common.{◌≡◌, ℕ, ◌+◌, ◌≤◌, arith, max, map, Bool, true, false, ◌&&◌, ◌||◌, not, List, [], ◌∷◌, Option, Some, None, is_some, refl, sym, ap, ◌∙◌, subst, true≢false}
use Rattle.std.specs.List.{list_all}
use Rattle.js_tree.specs.declared.lists.Further.{Further}
use Rattle.js_tree.specs.declared.token.Token.{Token}
use Rattle.js_tree.specs.declared.token_kind.TokenKind.{TokenKind}
use Rattle.js_tree.specs.declared.token_kind.TokenKind.TheVariants as kinds
use Rattle.js_tree.specs.declared.tree.Expr.{Expr}
use Rattle.js_tree.specs.declared.tree.Expr.TheOpen.{Stmt-F}
use Rattle.js_tree.specs.declared.tree.Function.{Function}
use Rattle.js_tree.specs.declared.tree.Slot.{Slot}
use Rattle.js_tree.specs.declared.tree.Stmt.{Stmt, out-Stmt, roll-Stmt, roll-out-Stmt}
use Rattle.js_tree.specs.declared.tree.Stmt.TheVariants as made
use Rattle.js_tree.specs.Folds.{StmtLayer}
use Rattle.js_tree.specs.Lexing.{Place}
use Rattle.js_tree.specs.Operators.{begins_plain, on_line}
use Rattle.js_tree.specs.Pieces.{Piece, Tok, Must, Holds, first as first_of, kind}
use Rattle.js_tree.specs.Spelling.{expr, function, slot, stmt, stmts_height, tallest_of}
use Rattle.js_tree.specs.Spelling.Nodes.{Seen, unmarked, stands, all_further, musts}
use Rattle.js_tree.specs.Spelling.Statements.{stmt_musts, stmt_row}
use Rattle.js_tree.specs.Spelling.Patterns.{DECLARED}
use Rattle.js_tree.specs.Spelling.Rows.{each_of, further_row}
use Rattle.js_tree.specs.TokenKinds.{is}
use Rattle.js_tree.proofs.Folds.{map_further}
use Rattle.js_tree.proofs.KindLemmas.{every, is_same}
use Rattle.js_tree.proofs.SpellingLemmas.{at_stmt, stmt_layer, stmt_line_at, seen_lines}
use Rattle.js_tokens.proofs.PieceLemmas.{seen}
use Rattle.js_tokens.specs.Ahead.{Blind, IsNextKind, IsNextLine, reads}
use Rattle.js_tokens.specs.Pieces.{Reads, AllHold}
use Rattle.js_tokens.specs.declared.goal.Goal.TheVariants as goal
use Rattle.js_parser.proofs.BeginLemmas.{Front, begins_expr, blind_expr, expr_begins, expr_told, front_told, function_begins, holds_from, no_more, other_told, stops_before}
use Rattle.js_parser.proofs.ListLemmas.{AllOf}
use Rattle.js_parser.proofs.TokenLemmas.{only_plain, told}
use Rattle.js_parser.specs.Following.{LeadsToStmt, Stops, closes, statement_of}
use Rattle.js_parser.specs.Nodes.{BeforeSemicolon, Closes, StmtAt, StmtsAt, expr_line, given_height, given_line, given_stands, slot_line, slots_line, stmt_line}
use Rattle.js_parser.specs.declared.kinds.Statement.{Statement}
use Rattle.js_parser.specs.declared.kinds.Statement.TheVariants as sorts
use Rattle.js_parser.specs.declared.tall.Tall.{Tall}

-- an expression as a statement
pub record PlainView (p : Place) (x : Stmt) (rest : List Piece) : Type 0 where
  pub value : Expr
  pub semi : Token
  pub node : x ≡ made.Plain value (Some semi)
  pub good : stands 0 (expr value) ≡ true
  pub read : Reads p (expr_line value (Tok semi (is kinds.Semicolon) ∷ rest))
  pub height : (stmt x).height ≡ (expr value).height + 1

-- a declaration of variables
pub record VarsView (p : Place) (x : Stmt) (rest : List Piece) : Type 0 where
  pub word : Token
  pub first : Slot
  pub others : List (Further Slot)
  pub semi : Token
  pub node : x ≡ made.Vars word first others (Some semi)
  pub good : stands DECLARED (slot first) ≡ true
  pub each : list_all (λ y. stands DECLARED (slot y.item)) others ≡ true
  pub read : Reads p (Tok word (is kinds.Var) ∷ slot_line first (slots_line others (Tok semi (is kinds.Semicolon) ∷ rest)))
  pub height : (stmt x).height ≡ max (slot first).height (tallest_of (λ y. (slot y.item).height) others) + 1

-- the end of a function
pub record ReturnView (p : Place) (x : Stmt) (rest : List Piece) : Type 0 where
  pub word : Token
  pub value : Option Expr
  pub semi : Token
  pub node : x ≡ made.Return word value (Some semi)
  pub good : given_stands value ≡ true
  pub read : Reads p (Tok word (is kinds.Return) ∷ given_line value (Tok semi (is kinds.Semicolon) ∷ rest))
  pub height : (stmt x).height ≡ given_height value + 1

-- a declaration of a function
pub record FunView (p : Place) (x : Stmt) (rest : List Piece) : Type 0 where
  pub declared : Function
  pub node : x ≡ made.Fun declared
  pub named : is_some (function declared).name ≡ true
  pub read : Reads p ((function declared).line rest)
  pub height : (stmt x).height ≡ (function declared).height + 1

abbrev pub ViewOf : Statement → Place → Stmt → List Piece → Type 0
ViewOf sorts.Plain p x rest = PlainView p x rest
ViewOf sorts.Var p x rest = VarsView p x rest
ViewOf sorts.Return p x rest = ReturnView p x rest
ViewOf sorts.Function p x rest = FunView p x rest
ViewOf sorts.Nothing p x rest = ⊥

-- WHICH SORT STANDS NEXT

is_plain : Statement → Bool
is_plain sorts.Plain = true
is_plain _ = false

plain_alone : (s : Statement) → is_plain s ≡ true → s ≡ sorts.Plain
unfolding is_plain
plain_alone sorts.Plain e = refl
plain_alone sorts.Var e = absurd (true≢false (sym e))
plain_alone sorts.Return e = absurd (true≢false (sym e))
plain_alone sorts.Function e = absurd (true≢false (sym e))
plain_alone sorts.Nothing e = absurd (true≢false (sym e))

implied : (a b c : Bool) → (not (a && b) || c) ≡ true → a ≡ true → b ≡ true → c ≡ true
implied true true c h e f = h
implied true false c h e f = absurd (true≢false (sym f))
implied false b c h e f = absurd (true≢false (sym e))

plain_check : Bool → TokenKind → Bool
plain_check nl k = not (begins_expr k && begins_plain k nl) || is_plain (statement_of k)

plain_sort : (nl : Bool) (k : TokenKind) → begins_expr k ≡ true → begins_plain k nl ≡ true → statement_of k ≡ sorts.Plain
unfolding plain_check is_plain
plain_sort true k e f = plain_alone (statement_of k) (implied (begins_expr k) (begins_plain k true) _ (every (plain_check true) refl k) e f)
plain_sort false k e f = plain_alone (statement_of k) (implied (begins_expr k) (begins_plain k false) _ (every (plain_check false) refl k) e f)

blind_plain : (nl : Bool) → Blind (λ k. begins_plain k nl)
blind_plain nl = record { slash = refl; slash_assign = refl; middle = refl; tail = refl }

blind_function : Blind (is kinds.Function)
blind_function = record { slash = refl; slash_assign = refl; middle = refl; tail = refl }

sort_plain : (p : Place) (k : TokenKind) → IsNextKind p k → (ps : List Piece) → Front begins_expr p ps → Holds begins_plain (first_of ps) → statement_of k ≡ sorts.Plain
sort_plain p k next ps f holds =
    let here : begins_plain (kind f.token) f.token.nl_before ≡ true = subst (Holds begins_plain) f.first holds in
    plain_sort f.token.nl_before k (front_told begins_expr blind_expr p ps k next f) (sym (seen (λ j. begins_plain j f.token.nl_before) (blind_plain f.token.nl_before) p k next f.token f.behind f.next) ∙ here)

sort_word : (asked : TokenKind) → reads goal.Operator asked ≡ true → (p : Place) (k : TokenKind) → IsNextKind p k → (t : Token) (rest : List Piece) → Reads p (Tok t (is asked) ∷ rest) → statement_of k ≡ statement_of asked
sort_word asked plain p k next t rest r = ap statement_of (sym (told p r.0 t k next r.1 (only_plain asked plain (kind t) r.2)) ∙ is_same asked (kind t) r.2)

-- VIEWS

all_seen : (xs : List (Further Slot)) → all_further (stands DECLARED) (map (map_further slot) xs) ≡ list_all (λ y. stands DECLARED (slot y.item)) xs
all_seen [] = refl
all_seen (x ∷ xs) = ap (λ b. stands DECLARED (slot x.item) && b) (all_seen xs)

height_seen : (xs : List (Further Slot)) → each_of (further_row unmarked (λ (x : Seen) h. max x.height h) (is kinds.Comma)) (map (map_further slot) xs) 0 ≡ tallest_of (λ y. (slot y.item).height) xs
height_seen [] = refl
height_seen (x ∷ xs) = ap (max (slot x.item).height) (height_seen xs)

-- the line of the end of a function, and its height
return_line : (x : Stmt) (word : Token) (value : Option Expr) (semi : Token) → out-Stmt x ≡ Stmt-F.Return word value (Some semi) → (rest : List Piece)
    → stmt_line x rest ≡ Must (given_stands value) ∷ Must true ∷ Tok word (is kinds.Return) ∷ given_line value (Tok semi (is kinds.Semicolon) ∷ rest)
return_line x word None semi e rest = stmt_line_at x (Stmt-F.Return word None (Some semi)) e rest
return_line x word (Some y) semi e rest = stmt_line_at x (Stmt-F.Return word (Some y) (Some semi)) e rest

return_height : (x : Stmt) (word : Token) (value : Option Expr) (semi : Token) → out-Stmt x ≡ Stmt-F.Return word value (Some semi) → (stmt x).height ≡ given_height value + 1
return_height x word None semi e = ap (λ (t : Seen). t.height) (at_stmt x (Stmt-F.Return word None (Some semi)) e)
return_height x word (Some y) semi e = ap (λ (t : Seen). t.height) (at_stmt x (Stmt-F.Return word (Some y) (Some semi)) e)

-- a statement with the sort of the kind that is told
record Viewed (p : Place) (x : Stmt) (rest : List Piece) (k : TokenKind) : Type 0 where
  sort : Statement
  view : ViewOf sort p x rest
  leads : statement_of k ≡ sort

row_at : (p : Place) (x : Stmt) (rest : List Piece) (l : StmtLayer) → out-Stmt x ≡ l → Reads p (stmt_line x rest) → Reads p (musts (stmt_musts (stmt_layer l)) (stmt_row seen_lines l rest))
row_at p x rest l e r = subst (λ (ps : List Piece). Reads p ps) (stmt_line_at x l e rest) r

viewed : (p : Place) (x : Stmt) (rest : List Piece) (k : TokenKind) → IsNextKind p k → Reads p (stmt_line x rest) → (l : StmtLayer) → out-Stmt x ≡ l → Viewed p x rest k
viewed p x rest k next r (Stmt-F.Plain value (Some semi)) e =
    let m = row_at p x rest (Stmt-F.Plain value (Some semi)) e r in
    record {
      sort = sorts.Plain;
      view = record {
        value = value;
        semi = semi;
        node = sym (roll-out-Stmt x) ∙ ap roll-Stmt e ∙ made.rolls-Plain value (Some semi);
        good = m.0;
        read = m.1.1.1;
        height = let h : (stmt x).height ≡ max (expr value).height 0 + 1 = ap (λ (t : Seen). t.height) (at_stmt x (Stmt-F.Plain value (Some semi)) e) in omega (arith, h);
      };
      leads = sort_plain p k next _ (expr_begins value p _ m.1.1.1) m.1.1.0;
    }
viewed p x rest k next r (Stmt-F.Plain value None) e =
    let m = row_at p x rest (Stmt-F.Plain value None) e r in
    absurd (true≢false (sym m.1.0))
viewed p x rest k next r (Stmt-F.Vars word first others (Some semi)) e =
    let m = row_at p x rest (Stmt-F.Vars word first others (Some semi)) e r in
    record {
      sort = sorts.Var;
      view = record {
        word = word;
        first = first;
        others = others;
        semi = semi;
        node = sym (roll-out-Stmt x) ∙ ap roll-Stmt e ∙ made.rolls-Vars word first others (Some semi);
        good = m.0;
        each = sym (all_seen others) ∙ m.1.0;
        read = m.1.1.1;
        height = ap (λ (t : Seen). t.height) (at_stmt x (Stmt-F.Vars word first others (Some semi)) e) ∙ ap (λ n. max (slot first).height n + 1) (height_seen others);
      };
      leads = sort_word kinds.Var refl p k next word _ m.1.1.1;
    }
viewed p x rest k next r (Stmt-F.Vars word first others None) e =
    let m = row_at p x rest (Stmt-F.Vars word first others None) e r in
    absurd (true≢false (sym m.1.1.0))
viewed p x rest k next r (Stmt-F.Return word value (Some semi)) e =
    let m : Reads p (Must (given_stands value) ∷ Must true ∷ Tok word (is kinds.Return) ∷ given_line value (Tok semi (is kinds.Semicolon) ∷ rest)) =
    subst (λ (ps : List Piece). Reads p ps) (return_line x word value semi e rest) r in
    record {
      sort = sorts.Return;
      view = record {
        word = word;
        value = value;
        semi = semi;
        node = sym (roll-out-Stmt x) ∙ ap roll-Stmt e ∙ made.rolls-Return word value (Some semi);
        good = m.0;
        read = m.1.1;
        height = return_height x word value semi e;
      };
      leads = sort_word kinds.Return refl p k next word _ m.1.1;
    }
viewed p x rest k next r (Stmt-F.Return word value None) e =
    let m = row_at p x rest (Stmt-F.Return word value None) e r in
    absurd (true≢false (sym m.1.0))
viewed p x rest k next r (Stmt-F.«Stmt::Fun» f) e =
    let m = row_at p x rest (Stmt-F.«Stmt::Fun» f) e r in
    record {
      sort = sorts.Function;
      view = record {
        declared = f;
        node = sym (roll-out-Stmt x) ∙ ap roll-Stmt e ∙ made.rolls-Fun f;
        named = m.0;
        read = m.1;
        height = let h : (stmt x).height ≡ max (function f).height 0 + 1 = ap (λ (t : Seen). t.height) (at_stmt x (Stmt-F.«Stmt::Fun» f) e) in omega (arith, h);
      };
      leads = ap statement_of (is_same kinds.Function k (front_told (is kinds.Function) blind_function p _ k next (function_begins f p rest m.1)));
    }

-- a statement of the sort that the next token tells
pub stmt_view : (s : Statement) (p : Place) (x : Stmt) (rest : List Piece) → LeadsToStmt s p → Reads p (stmt_line x rest) → ViewOf s p x rest
stmt_view s p x rest leads r =
    let v = viewed p x rest leads.0 leads.1 r (out-Stmt x) refl in
    subst (λ (t : Statement). ViewOf t p x rest) (sym v.leads ∙ leads.2) v.view

-- STATEMENTS MADE OF PARTS

next_check : Bool → TokenKind → Bool
next_check nl k = not (begins_expr k && is_plain (statement_of k)) || begins_plain k nl

plain_holds : (nl : Bool) (k : TokenKind) → begins_expr k ≡ true → statement_of k ≡ sorts.Plain → begins_plain k nl ≡ true
unfolding next_check is_plain
plain_holds true k e f = implied (begins_expr k) (is_plain (statement_of k)) _ (every (next_check true) refl k) e (ap is_plain f)
plain_holds false k e f = implied (begins_expr k) (is_plain (statement_of k)) _ (every (next_check false) refl k) e (ap is_plain f)

-- where an expression stands that no other statement begins with, it may be a statement
pub plain_next : (p : Place) (ps : List Piece) → LeadsToStmt sorts.Plain p → Front begins_expr p ps → AllHold begins_plain p
plain_next p ps leads f t n a =
    seen (λ j. begins_plain j t.nl_before) (blind_plain t.nl_before) p leads.0 leads.1 t n a
    ∙ plain_holds t.nl_before leads.0 (front_told begins_expr blind_expr p ps leads.0 leads.1 f) leads.2

pub plain_made : (p : Place) (value : Expr) (semi : Token) (rest : List Piece) → stands 0 (expr value) ≡ true → AllHold begins_plain p
    → Reads p (expr_line value (Tok semi (is kinds.Semicolon) ∷ rest)) → Reads p (stmt_line (made.Plain value (Some semi)) rest)
plain_made p value semi rest good all r =
    subst (λ (ps : List Piece). Reads p ps) (sym (stmt_line_at _ (Stmt-F.Plain value (Some semi)) (made.outs-Plain value (Some semi)) rest)) (good, (refl, (holds_from begins_plain p _ all r, r)))

pub plain_tall : (value : Expr) (semi : Token) → (stmt (made.Plain value (Some semi))).height ≡ (expr value).height + 1
plain_tall value semi =
    let e : (stmt (made.Plain value (Some semi))).height ≡ max (expr value).height 0 + 1 = ap (λ (t : Seen). t.height) (at_stmt _ (Stmt-F.Plain value (Some semi)) (made.outs-Plain value (Some semi))) in
    omega (arith, e)

pub vars_made : (p : Place) (word : Token) (first : Slot) (others : List (Further Slot)) (semi : Token) (rest : List Piece) → stands DECLARED (slot first) ≡ true
    → list_all (λ y. stands DECLARED (slot y.item)) others ≡ true → Reads p (Tok word (is kinds.Var) ∷ slot_line first (slots_line others (Tok semi (is kinds.Semicolon) ∷ rest)))
    → Reads p (stmt_line (made.Vars word first others (Some semi)) rest)
vars_made p word first others semi rest good each r =
    subst (λ (ps : List Piece). Reads p ps) (sym (stmt_line_at _ (Stmt-F.Vars word first others (Some semi)) (made.outs-Vars word first others (Some semi)) rest)) (good, (all_seen others ∙ each, (refl, r)))

pub vars_tall : (word : Token) (first : Slot) (others : List (Further Slot)) (semi : Token)
    → (stmt (made.Vars word first others (Some semi))).height ≡ max (slot first).height (tallest_of (λ y. (slot y.item).height) others) + 1
vars_tall word first others semi =
    ap (λ (t : Seen). t.height) (at_stmt _ (Stmt-F.Vars word first others (Some semi)) (made.outs-Vars word first others (Some semi))) ∙ ap (λ n. max (slot first).height n + 1) (height_seen others)

pub return_made : (p : Place) (word : Token) (value : Option Expr) (semi : Token) (rest : List Piece) → given_stands value ≡ true
    → Reads p (Tok word (is kinds.Return) ∷ given_line value (Tok semi (is kinds.Semicolon) ∷ rest)) → Reads p (stmt_line (made.Return word value (Some semi)) rest)
return_made p word value semi rest good r = subst (λ (ps : List Piece). Reads p ps) (sym (return_line _ word value semi (made.outs-Return word value (Some semi)) rest)) (good, (refl, r))

pub return_tall : (word : Token) (value : Option Expr) (semi : Token) → (stmt (made.Return word value (Some semi))).height ≡ given_height value + 1
return_tall word value semi = return_height _ word value semi (made.outs-Return word value (Some semi))

pub fun_made : (p : Place) (f : Function) (rest : List Piece) → is_some (function f).name ≡ true → Reads p ((function f).line rest) → Reads p (stmt_line (made.Fun f) rest)
fun_made p f rest named r = subst (λ (ps : List Piece). Reads p ps) (sym (stmt_line_at _ (Stmt-F.«Stmt::Fun» f) (made.outs-Fun f) rest)) (named, r)

pub fun_tall : (f : Function) → (stmt (made.Fun f)).height ≡ (function f).height + 1
fun_tall f =
    let e : (stmt (made.Fun f)).height ≡ max (function f).height 0 + 1 = ap (λ (t : Seen). t.height) (at_stmt _ (Stmt-F.«Stmt::Fun» f) (made.outs-Fun f)) in
    omega (arith, e)

-- WHAT A FUNCTION GIVES

-- before a `;` nothing is given
pub given_none : (p : Place) (k : TokenKind) → IsNextKind p k → is kinds.Semicolon k ≡ true → (o : Option Expr) (rest : List Piece) → Reads p (given_line o rest) → o ≡ None
given_none p k next h None rest r = refl
given_none p k next h (Some x) rest r = absurd (expr_told p k next (ap begins_expr (is_same kinds.Semicolon k h)) x rest r.1)

not_ended : (p : Place) (k : TokenKind) → IsNextKind p k → is kinds.Semicolon k ≡ false → (rest : List Piece) → BeforeSemicolon rest → Reads p rest → ⊥
not_ended p k next other [] ends r = ends
not_ended p k next other (x ∷ xs) ends r = other_told kinds.Semicolon refl p k next other ends.0 xs (subst (λ (y : Piece). Reads p (y ∷ xs)) ends.1 r)

-- before another token something is given
pub given_view : (p : Place) (k : TokenKind) → IsNextKind p k → is kinds.Semicolon k ≡ false → (o : Option Expr) (rest : List Piece) → BeforeSemicolon rest → Reads p (given_line o rest)
    → (x : Expr) × (o ≡ Some x) × Reads p (expr_line x rest)
given_view p k next other None rest ends r = absurd (not_ended p k next other rest ends r)
given_view p k next other (Some x) rest ends r = (x, refl, r.1)

-- on the next line nothing is given
pub given_far : (p : Place) (k : TokenKind) (nl : Bool) → IsNextKind p k → IsNextLine p nl → nl ≡ true → is kinds.Semicolon k ≡ false → (o : Option Expr) (rest : List Piece) → BeforeSemicolon rest
    → Reads p (given_line o rest) → ⊥
given_far p k nl next line far other None rest ends r = not_ended p k next other rest ends r
given_far p k nl next line far other (Some x) rest ends r =
    let f = expr_begins x p rest r.1 in
    let here : not f.token.nl_before ≡ true = subst (Holds on_line) f.first r.0 in
    true≢false (sym here ∙ ap not (line f.token f.behind f.next ∙ far))

pub given_made : (p : Place) (nl : Bool) → IsNextLine p nl → nl ≡ false → (x : Expr) (rest : List Piece) → Reads p (expr_line x rest) → Reads p (given_line (Some x) rest)
given_made p nl line near x rest r = (holds_from on_line p _ (λ t n a. ap not (line t n a ∙ near)) r, r)

pub before_semicolon : (rest : List Piece) → BeforeSemicolon rest → Stops 0 rest
before_semicolon [] ends = absurd ends
before_semicolon (x ∷ xs) ends = subst (λ (y : Piece). Stops 0 (y ∷ xs)) (sym ends.1) (stops_before 0 0 kinds.Semicolon refl (λ nl. refl) (omega arith) ends.0 xs)

-- STATEMENTS ONE AFTER ANOTHER

-- a statement no taller than the room, with its height
abbrev pub IsStmt : ℕ → Stmt → Type 0
IsStmt room x = (stmt x).height ≤ room

abbrev pub tall_stmt : Stmt → Tall Stmt
tall_stmt x = record { node = x; height = (stmt x).height }

pub stmt_at : (room : ℕ) (x : Stmt) → IsStmt room x → StmtAt room (tall_stmt x)
stmt_at room x low = record { height = refl; fits = low }

all_of : (room : ℕ) (xs : List Stmt) → stmts_height xs ≤ room → AllOf (IsStmt room) xs
unfolding AllOf
all_of room [] h = tt
all_of room (x ∷ xs) h = (omega (arith, h), all_of room xs (omega (arith, h)))

pub stmts_of : (room : ℕ) (x : Tall (List Stmt)) → StmtsAt room x → AllOf (IsStmt room) x.node
stmts_of room x at = all_of room x.node (omega (arith, at.height, at.fits))

of_all : (room : ℕ) (xs : List Stmt) → AllOf (IsStmt room) xs → stmts_height xs ≤ room
unfolding AllOf
of_all room [] a = omega arith
of_all room (x ∷ xs) a = omega (arith, a.0, of_all room xs a.1)

pub stmts_at : (room height : ℕ) (xs : List Stmt) → AllOf (IsStmt room) xs → height ≡ stmts_height xs → StmtsAt room (record { node = xs; height = height })
stmts_at room height xs a is = record { height = is; fits = omega (arith, is, of_all room xs a) }

-- where the next token doesn't close, statements don't end
pub not_closed : (p : Place) (k : TokenKind) → IsNextKind p k → closes k ≡ false → (rest : List Piece) → Closes rest → Reads p rest → ⊥
not_closed p k next other [] ends r =
    let t = next.some (λ e. true≢false (sym (ap closes e) ∙ other)) in
    no_more p t.1 t.0 r t.2
not_closed p k next other (x ∷ xs) ends r =
    let s = subst (λ (y : Piece). Reads p (y ∷ xs)) ends.1 r in
    let same : k ≡ kinds.RightBrace = sym (told p s.0 ends.0 k next s.1 (only_plain kinds.RightBrace refl (kind ends.0) s.2)) ∙ is_same kinds.RightBrace (kind ends.0) s.2 in
    true≢false (sym (ap closes same) ∙ other)

is_nothing : Statement → Bool
is_nothing sorts.Nothing = true
is_nothing _ = false

nothing_alone : (s : Statement) → is_nothing s ≡ true → s ≡ sorts.Nothing
unfolding is_nothing
nothing_alone sorts.Plain e = absurd (true≢false (sym e))
nothing_alone sorts.Var e = absurd (true≢false (sym e))
nothing_alone sorts.Return e = absurd (true≢false (sym e))
nothing_alone sorts.Function e = absurd (true≢false (sym e))
nothing_alone sorts.Nothing e = refl

closes_check : TokenKind → Bool
closes_check k = not (closes k && true) || is_nothing (statement_of k)

-- where it closes no statement stands
pub stmt_not_closed : (p : Place) (k : TokenKind) → IsNextKind p k → closes k ≡ true → (x : Stmt) (rest : List Piece) → Reads p (stmt_line x rest) → ⊥
unfolding closes_check is_nothing
stmt_not_closed p k next here x rest r =
    stmt_view sorts.Nothing p x rest (k, next, nothing_alone (statement_of k) (implied (closes k) true _ (every closes_check refl k) here refl)) r
