-- Arguments: what is asked of each, and with what one begins.
use Rattle.std.proofs.Common.{◌≡◌, ℕ, Bool, true, false, List, ◌∷◌, Option, Some, None, is_some, refl, sym, ap, ◌∙◌, arith, true≢false}
use Rattle.js_tree.specs.declared.lists.Bracket.{Bracket}
use Rattle.js_tree.specs.declared.lists.Element.{Element}
use Rattle.js_tree.specs.declared.token.Token.{Token}
use Rattle.js_tree.specs.declared.token_kind.TokenKind.{TokenKind}
use Rattle.js_tree.specs.declared.token_kind.TokenKind.TheVariants as kinds
use Rattle.js_tree.specs.declared.tree.Expr.{Expr}
use Rattle.js_tree.specs.Lexing.{Place}
use Rattle.js_tree.specs.Pieces.{Piece, Tok, kind as kind_of}
use Rattle.js_tree.specs.Spelling.{expr}
use Rattle.js_tree.specs.Spelling.Nodes.{ASSIGN, all_within, passes, pieces, unmarked}
use Rattle.js_tree.specs.Spelling.Rows.{bracket_row, each_of, element_row, listed_row, maybe}
use Rattle.js_tree.specs.TokenKinds.{is}
use Rattle.js_tree.proofs.KindLemmas.{is_same}
use Rattle.js_tokens.proofs.PieceLemmas.{same_test}
use Rattle.js_tokens.specs.Ahead.{IsNextKind, reads}
use Rattle.js_tokens.specs.Pieces.{Reads}
use Rattle.js_tokens.specs.declared.goal.Goal.TheVariants as goal
use Rattle.js_parser.proofs.BeginLemmas.{begins_expr, blind_expr, expr_begins, expr_told, next_of, other_told, stops_before}
use Rattle.js_parser.proofs.BracketLemmas.{Goes, Suits, bracket_tall, inside_height}
use Rattle.js_parser.specs.Following.{NoKind, Stops}
use Rattle.js_parser.specs.Nodes.{ArgumentsAt, ElementAt, MaybeArgumentsAt, NoArguments, argument_stands, arguments_line, expr_line, higher}
use Rattle.js_parser.specs.declared.tall.Tall.{Tall}

abbrev pub argument_line : Element Expr → List Piece → List Piece
argument_line = element_row pieces expr_line

abbrev pub argument_height : Element Expr → ℕ
argument_height x = (expr x.value).height

-- what may follow one
abbrev pub AfterArgument : Element Expr → List Piece → Type 0
AfterArgument x rest = Stops ASSIGN rest

-- an argument no taller than the room, with its height
abbrev pub IsArgument : ℕ → Element Expr → Type 0
IsArgument room = Suits argument_line argument_stands argument_height room AfterArgument

abbrev pub tall_argument : Element Expr → Tall (Element Expr)
tall_argument x = record { node = x; height = argument_height x }

pub argument_at : (room : ℕ) (x : Element Expr) → IsArgument room x → ElementAt room (tall_argument x)
argument_at room x at = record { stands = at.0; height = refl; fits = at.1 }

-- the height of arguments as the rows have it
pub arguments_tall : (b : Bracket Expr) → bracket_row unmarked higher b 0 ≡ inside_height argument_height b.front b.last
arguments_tall b = let e = bracket_tall (λ (x : Expr). (expr x).height) b 0 in omega (arith, e)

-- before an expression no token stands with which none begins
pub no_kind_expr : (k : TokenKind) → begins_expr k ≡ false → (x : Expr) (rest : List Piece) → NoKind (is k) (expr_line x rest)
no_kind_expr k other x rest m r t n next read = by_test (is k (kind_of t)) refl
  where
    by_test : (b : Bool) → is k (kind_of t) ≡ b → is k (kind_of t) ≡ false
    by_test false e = e
    by_test true e =
        let f = expr_begins x m rest r in
        absurd (true≢false (sym f.passes ∙ same_test begins_expr blind_expr m f.behind n f.token t f.next next ∙ ap begins_expr (is_same k (kind_of t) e) ∙ other))

-- a further argument stands where no `)` does
pub goes : (room : ℕ) (m : Place) (k : TokenKind) → IsNextKind m k → is kinds.RightParen k ≡ false → Goes argument_line (IsArgument room) AfterArgument m
goes room m k next other = record {
  unclosed = λ close more r. other_told kinds.RightParen refl m k next other close more r;
  comma = λ y t rest. stops_before ASSIGN 1 kinds.Comma refl (λ nl. refl) (omega arith) t rest;
  close = λ y t rest. stops_before ASSIGN 0 kinds.RightParen refl (λ nl. refl) (omega arith) t rest;
}

-- no argument begins with `)`
pub no_argument : (p : Place) (k : TokenKind) → IsNextKind p k → is kinds.RightParen k ≡ true → (x : Element Expr) (rest : List Piece) → Reads p (argument_line x rest) → ⊥
no_argument p k next here x rest r = by_dots x.dots r
  where
    paren : k ≡ kinds.RightParen
    paren = is_same kinds.RightParen k here

    by_dots : (dots : Option Token) → Reads p (argument_line (record { dots = dots; value = x.value }) rest) → ⊥
    by_dots None r = expr_told p k next (ap begins_expr paren) x.value rest r
    by_dots (Some t) r = other_told kinds.Dots refl p k next (ap (is kinds.Dots) paren) t (expr_line x.value rest) r

-- ARGUMENTS THAT MAY STAND

-- there are none where no `(` is told
pub arguments_none : (p : Place) (k : TokenKind) → IsNextKind p k → is kinds.LeftParen k ≡ false → (o : Option (Bracket Expr)) (rest : List Piece) → Reads p (maybe arguments_line o rest) → o ≡ None
arguments_none p k next other None rest r = refl
arguments_none p k next other (Some b) rest r =
    absurd (other_told kinds.LeftParen refl p k next other b.«open» (each_of (listed_row pieces argument_line) b.front (maybe argument_line b.last (Tok b.close (is kinds.RightParen) ∷ rest))) r)

-- and some where one is
pub arguments_some : (p : Place) (k : TokenKind) → IsNextKind p k → is kinds.LeftParen k ≡ true → (x : Tall (Option (Bracket Expr))) (rest : List Piece) → NoArguments x rest → Reads p (maybe arguments_line x.node rest)
    → (b : Bracket Expr) × (x.node ≡ Some b) × Reads p (arguments_line b rest)
arguments_some p k next here x rest none r = by_node x.node none r
  where
    by_node : (o : Option (Bracket Expr)) → (is_some o ≡ false → NoKind (is kinds.LeftParen) rest) → Reads p (maybe arguments_line o rest) → (b : Bracket Expr) × (o ≡ Some b) × Reads p (arguments_line b rest)
    by_node None none r =
        let t = next_of kinds.LeftParen refl p k next here in
        absurd (true≢false (sym (ap (is kinds.LeftParen) t.3) ∙ none refl p r t.0 t.1 t.2 (ap (reads goal.Operator) t.3)))
    by_node (Some b) none r = (b, refl, r)

abbrev pub maybe_tall : Option (Bracket Expr) → ℕ
maybe_tall o = maybe (bracket_row unmarked higher) o 0

abbrev pub tall_bracket : Tall (Option (Bracket Expr)) → Bracket Expr → Tall (Bracket Expr)
tall_bracket x b = record { node = b; height = x.height }

pub arguments_in : (room : ℕ) (x : Tall (Option (Bracket Expr))) (b : Bracket Expr) → x.node ≡ Some b → MaybeArgumentsAt room x → ArgumentsAt room (tall_bracket x b)
arguments_in room x b e at = record { each = sym (ap (passes (all_within argument_stands)) e) ∙ at.each; height = at.height ∙ ap maybe_tall e; fits = at.fits }
