use Rattle.std.proofs.Common.{◌+◌, ◌-◌, ℕ, refl, sym, ◌∙◌, arith, List, Some}
use Rattle.js_tree.specs.Pieces.{Piece, Onto, one}
use Rattle.js_tree.specs.TokenKinds.{is}
use Rattle.js_tree.specs.declared.token_kind.TokenKind.TheVariants as kinds
use Rattle.js_tree.specs.declared.tree.Stmt.{Stmt}
use Rattle.js_tree.specs.declared.tree.Stmt.TheVariants as made
use Rattle.js_parser.proofs.BeginLemmas.{expr_begins, stops_before, with_mark}
use Rattle.js_parser.proofs.ExprLemmas.{value_of, value_at, rests}
use Rattle.js_parser.proofs.PlaceLemmas.{passes_none, passes_on}
use Rattle.js_parser.proofs.ReadLemmas.{want, failed}
use Rattle.js_parser.proofs.StmtLemmas.{PlainView, stmt_view, plain_next, plain_made, plain_tall}
use Rattle.js_parser.specs.Nodes.{StmtAt, ValueAt, ValueStops}
use Rattle.js_parser.specs.declared.kinds.Statement.TheVariants as sorts
use Rattle.js_parser.specs.declared.tall.Tall.{Tall}
use Rattle.js_parser.proofs.grammar.Grammar.plain.Goals as goal

value_here : (room : ℕ) (p : _) (x : Tall Stmt) (rest : List Piece) (v : PlainView p x.node rest) → StmtAt room x → ValueAt 0 (room - 1) (value_of v.value)
value_here room p x rest v at = value_at 0 (room - 1) v.value v.good (omega (arith, v.height, at.height, at.fits))

abbrev ending : {p : _} {x : Stmt} {rest : List Piece} → PlainView p x rest → Onto
ending v = one (is kinds.Semicolon) v.semi

ends : (p : _) (x : Stmt) (rest : List Piece) (v : PlainView p x rest) → ValueStops 0 (value_of v.value) (ending v rest)
ends p x rest v = rests 0 (value_of v.value) (ending v rest) (omega arith) (stops_before 0 0 kinds.Semicolon refl (λ nl. refl) (omega arith) v.semi rest)

pub returns-in_err-value : goal.returns-in_err-value
returns-in_err-value g c = record {
  reads = failed _ _ _ _ _ _ _ _ (passes_none _) c.in_err-value.ensures.reads.moves
      (λ x rest r at s.
      let v = stmt_view sorts.Plain _ x.node rest c.requires.told r in
      want _ _ _ (c.in_err-value.ensures.reads.only (value_of v.value) (ending v rest) v.read (value_here _ _ x rest v at) (ends _ x.node rest v))) c.from_residual.ensures.1;
}

pub returns-in_err-semi : goal.returns-in_err-semi
returns-in_err-semi g c = record {
  reads = failed _ _ _ _ _ _ _ _ c.in_ok-value.ensures.reads.moves c.in_err-semi.ensures.moves
      (λ x rest r at s.
      let v = stmt_view sorts.Plain _ x.node rest c.requires.told r in
      let g0 = c.in_ok-value.ensures.reads.only (value_of v.value) (ending v rest) v.read (value_here _ _ x rest v at) (ends _ x.node rest v) in
      want _ _ _ (c.in_err-semi.ensures.only v.semi rest g0.1 tt tt)) c.from_residual-in_err-semi.ensures.1;
}

pub returns : goal.returns
returns g c = record {
  reads = record {
    found = (
      λ rest r.
          let more = c.in_ok-value.ensures.reads.found.0 _ (with_mark kinds.Semicolon _ _ _ rest c.in_ok-semi.ensures.found.0 c.in_ok-semi.ensures.found.1 r) in
          plain_made _ _ _ rest c.in_ok-value.ensures.reads.found.1.stands (plain_next _ _ c.requires.told (expr_begins _ _ _ more)) more,
      let w = c.in_ok-value.ensures.reads.found.1 in
          let h = plain_tall c.in_ok-value.value.node c.in_ok-semi.semi in
          record { height = omega (arith, h, w.height); fits = omega (arith, w.fits, c.requires.some) },
    );
    only = λ x rest r at s.
        let v = stmt_view sorts.Plain _ x.node rest c.requires.told r in
        let g0 = c.in_ok-value.ensures.reads.only (value_of v.value) (ending v rest) v.read (value_here _ _ x rest v at) (ends _ x.node rest v) in
        let g1 = c.in_ok-semi.ensures.only v.semi rest g0.1 tt tt in
        let h = at.height ∙ v.height in
        ((λ i. record { node = made.Plain (g0.0 i).node (Some (g1.0 i)); height = (g0.0 i).height + 1 }) ∙ (λ i. record { node = sym v.node i; height = sym h i }), g1.1);
    moves = passes_on _ _ _ c.in_ok-value.ensures.reads.moves c.in_ok-semi.ensures.moves;
    shorter = omega (arith, c.in_ok-value.ensures.reads.shorter, c.in_ok-semi.ensures.shorter);
  };
}
