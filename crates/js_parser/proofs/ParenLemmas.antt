-- An expression in brackets, and what stands behind an expression.
use Rattle.std.proofs.Common.{◌≡◌, ℕ, ◌+◌, ◌-◌, ◌≤◌, max, Bool, true, ◌&&◌, List, ◌∷◌, refl, sym, ap, ◌∙◌, subst, arith}
use Rattle.std.proofs.lemmas.Bool.{and_parts}
use Rattle.std.specs.Prelude.{nat_le}
use Rattle.std.proofs.lemmas.Bool.Decides.{nat_tests}
use Rattle.js_tree.specs.Pieces.{Piece, Tok, kind as kind_of}
use Rattle.js_tree.specs.Spelling.{expr}
use Rattle.js_tree.specs.Spelling.Nodes.{Seen, NEW, stands}
use Rattle.js_tree.specs.TokenKinds.{is}
use Rattle.js_tree.specs.declared.token.Token.{Token}
use Rattle.js_tree.specs.declared.token_kind.TokenKind.{TokenKind}
use Rattle.js_tree.specs.declared.token_kind.TokenKind.TheVariants as kinds
use Rattle.js_tree.specs.declared.tree.Expr.{Expr, out-Expr}
use Rattle.js_tree.specs.declared.tree.Expr.TheOpen.{Expr-F}
use Rattle.js_tree.proofs.KindLemmas.{is_same}
use Rattle.js_tree.proofs.SpellingLemmas.{at_expr}
use Rattle.js_tokens.proofs.AheadLemmas.{one_next}
use Rattle.js_tokens.specs.Ahead.{reads}
use Rattle.js_tokens.specs.declared.goal.Goal.TheVariants as goal
use Rattle.js_parser.proofs.ExprLemmas.{value_of, value_at}
use Rattle.js_parser.proofs.TokenLemmas.{only_plain}
use Rattle.js_parser.specs.Following.{Stops, strength}
use Rattle.js_parser.specs.Nodes.{ValueAt}
use Rattle.js_parser.specs.declared.tall.Value.{Value}

-- no expression of the level goes on with a token of this kind
pub stops_mark : (level : ℕ) (asked : TokenKind) (end : Token) (rest : List Piece) → reads goal.Operator asked ≡ true → ((nl : Bool) → strength asked nl ≤ level) → Stops level (Tok end (is asked) ∷ rest)
stops_mark level asked end rest plain weak m r t n a h =
    let same = one_next goal.Operator m n r.0 t end a r.1 h (only_plain asked plain (kind_of end) r.2) in
    let k : kind_of t ≡ asked = ap kind_of same.0 ∙ is_same asked (kind_of end) r.2 in
    subst (λ (j : TokenKind). strength j t.nl_before ≤ level) (sym k) (weak t.nl_before)

-- a sound expression stands where each does
pub stands_any : (x : Expr) → (expr x).is_sound ≡ true → stands 0 (expr x) ≡ true
stands_any x e = ap (λ (b : Bool). b && nat_le 0 (expr x).rank) e ∙ zero_least (expr x).rank
  where
    zero_least : (n : ℕ) → nat_le 0 n ≡ true
    zero_least n = grind (arith, nat_tests)

pub inner_at : (room : ℕ) (x : Value) (begin : Token) (inner : Expr) (end : Token) → out-Expr x.node ≡ Expr-F.«Expr::Paren» begin inner end → ValueAt NEW room x → ValueAt 0 (room - 1) (value_of inner)
inner_at room x begin inner end e at =
    let s = at_expr x.node (Expr-F.«Expr::Paren» begin inner end) e in
    let height : (expr x.node).height ≡ max (expr inner).height 0 + 1 = ap (λ (t : Seen). t.height) s in
    value_at 0 (room - 1) inner (stands_any inner (sym (ap (λ (t : Seen). t.is_sound) s) ∙ (and_parts _ _ at.stands).0)) (omega (arith, height, at.height, at.fits))

pub paren_stops : (end : Token) (rest : List Piece) → Stops 0 (Tok end (is kinds.RightParen) ∷ rest)
paren_stops end rest = stops_mark 0 kinds.RightParen end rest refl (λ nl. omega arith)

pub sound_at : (level room : ℕ) (x : Value) → ValueAt level room x → (expr x.node).is_sound ≡ true
sound_at level room x at = (and_parts _ _ at.stands).0
