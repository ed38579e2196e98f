use Rattle.std.proofs.Common.{◌≡◌, ℕ, refl, sym, ap, ◌∙◌, arith, true≢false, List, max}
use Rattle.js_tree.specs.Pieces.{Piece}
use Rattle.js_tree.specs.Spelling.{expr}
use Rattle.js_tree.specs.Spelling.Nodes.{pieces}
use Rattle.js_tree.specs.Spelling.Rows.{mark}
use Rattle.js_tree.specs.declared.lists.Tail.{Tail}
use Rattle.js_tree.specs.declared.lists.Tail.TheVariants as tail
use Rattle.js_tree.specs.declared.token.Token.{Token}
use Rattle.js_tree.specs.declared.token_kind.TokenKind.TheVariants as kinds
use Rattle.js_tree.specs.declared.tree.Expr.{Expr}
use Rattle.js_parser.proofs.BeginLemmas.{with_mark}
use Rattle.js_parser.proofs.ExprLemmas.{value_of, value_at}
use Rattle.js_parser.proofs.ParenLemmas.{stops_mark}
use Rattle.js_parser.proofs.PlaceLemmas.{passes_none, passes_on}
use Rattle.js_parser.proofs.ReadLemmas.{want, failed}
use Rattle.js_parser.proofs.TailLemmas.{line_of, tail_begins, as_index}
use Rattle.js_parser.specs.Following.{Stops}
use Rattle.js_parser.specs.Nodes.{ValueAt, TailAt, expr_line, tail_stands, tail_height}
use Rattle.js_parser.specs.declared.tall.Tall.{Tall}
use Rattle.js_parser.proofs.grammar.Grammar.index.Goals as goal

value_in : (room : ℕ) (x : Tall (Tail Expr)) (begin : Token) (value : Expr) (end : Token) → x.node ≡ tail.Index begin value end → TailAt room x → ValueAt 0 room (value_of value)
value_in room x begin value end e at =
    value_at 0 room value (sym (ap tail_stands e) ∙ at.stands) (let h : tail_height x.node ≡ max (expr value).height 0 = ap tail_height e in omega (arith, h, at.height, at.fits))

stops : (end : Token) (rest : List Piece) → Stops 0 (mark pieces kinds.RightBracket end rest)
stops end rest = stops_mark 0 kinds.RightBracket end rest refl (λ nl. omega arith)

pub returns-in_err-open-clause-reads : goal.returns-in_err-open-clause-reads
returns-in_err-open-clause-reads g c =
    failed _ _ _ _ _ _ _ _ (passes_none _) c.in_err-open.ensures.moves
    (λ x rest r at s.
    let v = as_index x.node (tail_begins _ x.node rest _ c.requires.told r) in
    want _ _ _ (c.in_err-open.ensures.only v.0 (expr_line v.1 (mark pieces kinds.RightBracket v.2 rest)) (line_of _ x.node _ rest v.3 r) tt tt)) c.from_residual.ensures.1

pub returns-in_err-value-clause-reads : goal.returns-in_err-value-clause-reads
returns-in_err-value-clause-reads g c =
    failed _ _ _ _ _ _ _ _ c.in_ok-open.ensures.moves c.in_err-value.ensures.reads.moves
    (λ x rest r at s.
    let v = as_index x.node (tail_begins _ x.node rest _ c.requires.told r) in
    let g0 = c.in_ok-open.ensures.only v.0 (expr_line v.1 (mark pieces kinds.RightBracket v.2 rest)) (line_of _ x.node _ rest v.3 r) tt tt in
    want _ _ _ (c.in_err-value.ensures.reads.only (value_of v.1) (mark pieces kinds.RightBracket v.2 rest) g0.1 (value_in _ x v.0 v.1 v.2 v.3 at) (stops v.2 rest))) c.from_residual-in_err-value.ensures.1

pub returns-in_err-close-clause-reads : goal.returns-in_err-close-clause-reads
returns-in_err-close-clause-reads g c =
    failed _ _ _ _ _ _ _ _ (passes_on _ _ _ c.in_ok-open.ensures.moves c.in_ok-value.ensures.reads.moves) c.in_err-close.ensures.moves
    (λ x rest r at s.
    let v = as_index x.node (tail_begins _ x.node rest _ c.requires.told r) in
    let g0 = c.in_ok-open.ensures.only v.0 (expr_line v.1 (mark pieces kinds.RightBracket v.2 rest)) (line_of _ x.node _ rest v.3 r) tt tt in
    let g1 = c.in_ok-value.ensures.reads.only (value_of v.1) (mark pieces kinds.RightBracket v.2 rest) g0.1 (value_in _ x v.0 v.1 v.2 v.3 at) (stops v.2 rest) in
    want _ _ _ (c.in_err-close.ensures.only v.2 rest g1.1 tt tt)) c.from_residual-in_err-close.ensures.1

pub returns-clause-reads : goal.returns-clause-reads
returns-clause-reads g c = record {
  found = (
    λ rest r. with_mark kinds.LeftBracket _ _ _ _ c.in_ok-open.ensures.found.0 c.in_ok-open.ensures.found.1
        (c.in_ok-value.ensures.reads.found.0 (mark pieces kinds.RightBracket c.in_ok-close.close rest)
        (with_mark kinds.RightBracket _ _ _ rest c.in_ok-close.ensures.found.0 c.in_ok-close.ensures.found.1 r)),
    let w = c.in_ok-value.ensures.reads.found.1 in record { stands = w.stands; height = omega (arith, w.height); fits = w.fits },
  );
  only = λ x rest r at s.
      let v = as_index x.node (tail_begins _ x.node rest _ c.requires.told r) in
      let g0 = c.in_ok-open.ensures.only v.0 (expr_line v.1 (mark pieces kinds.RightBracket v.2 rest)) (line_of _ x.node _ rest v.3 r) tt tt in
      let g1 = c.in_ok-value.ensures.reads.only (value_of v.1) (mark pieces kinds.RightBracket v.2 rest) g0.1 (value_in _ x v.0 v.1 v.2 v.3 at) (stops v.2 rest) in
      let g2 = c.in_ok-close.ensures.only v.2 rest g1.1 tt tt in
      let h : tail_height x.node ≡ max (expr v.1).height 0 = ap tail_height v.3 in
      let same : (expr v.1).height ≡ x.height = omega (arith, h, at.height) in
      ((λ i. record { node = tail.Index (g0.0 i) (g1.0 i).node (g2.0 i); height = (g1.0 i).height }) ∙ (λ i. record { node = sym v.3 i; height = same i }), g2.1);
  moves = passes_on _ _ _ (passes_on _ _ _ c.in_ok-open.ensures.moves c.in_ok-value.ensures.reads.moves) c.in_ok-close.ensures.moves;
  shorter = omega (arith, c.in_ok-open.ensures.shorter, c.in_ok-value.ensures.reads.shorter, c.in_ok-close.ensures.shorter);
}

pub returns-clause-call : goal.returns-clause-call
returns-clause-call g c = λ e. absurd (true≢false (sym e))
