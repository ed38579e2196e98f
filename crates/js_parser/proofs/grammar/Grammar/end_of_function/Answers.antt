use Rattle.std.proofs.Common.{◌+◌, ◌-◌, ℕ, refl, sym, ◌∙◌, arith, List, Option, Some}
use Rattle.js_tree.specs.Pieces.{Piece, Onto, one}
use Rattle.js_tree.specs.TokenKinds.{is}
use Rattle.js_tree.specs.declared.token_kind.TokenKind.TheVariants as kinds
use Rattle.js_tree.specs.declared.tree.Expr.{Expr}
use Rattle.js_tree.specs.declared.tree.Stmt.{Stmt}
use Rattle.js_tree.specs.declared.tree.Stmt.TheVariants as made
use Rattle.js_parser.proofs.BeginLemmas.{with_mark}
use Rattle.js_parser.proofs.PlaceLemmas.{passes_none, passes_on}
use Rattle.js_parser.proofs.ReadLemmas.{want, failed}
use Rattle.js_parser.proofs.StmtLemmas.{ReturnView, return_made, return_tall, stmt_view}
use Rattle.js_parser.specs.Nodes.{GivenAt, StmtAt, given_height, given_line}
use Rattle.js_parser.specs.declared.kinds.Statement.TheVariants as sorts
use Rattle.js_parser.specs.declared.tall.Tall.{Tall}
use Rattle.js_parser.proofs.grammar.Grammar.end_of_function.Goals as goal

abbrev tall_given : Option Expr → Tall (Option Expr)
tall_given o = record { node = o; height = given_height o }

-- what stands behind the value, and behind the word
abbrev ending : {p : _} {x : Stmt} {rest : List Piece} → ReturnView p x rest → Onto
ending v = one (is kinds.Semicolon) v.semi

abbrev behind_word : {p : _} {x : Stmt} {rest : List Piece} → ReturnView p x rest → Onto
behind_word v rest = given_line v.value (ending v rest)

value_here : (room : ℕ) (p : _) (x : Tall Stmt) (rest : List Piece) (v : ReturnView p x.node rest) → StmtAt room x → GivenAt (room - 1) (tall_given v.value)
value_here room p x rest v at = record { stands = v.good; height = refl; fits = omega (arith, v.height, at.height, at.fits) }

pub returns-in_err-word : goal.returns-in_err-word
returns-in_err-word g c = record {
  reads = failed _ _ _ _ _ _ _ _ (passes_none _) c.in_err-word.ensures.moves
      (λ x rest r at s.
      let v = stmt_view sorts.Return _ x.node rest c.requires.told r in
      want _ _ _ (c.in_err-word.ensures.only v.word (behind_word v rest) v.read tt tt)) c.from_residual.ensures.1;
}

pub returns-in_err-value : goal.returns-in_err-value
returns-in_err-value g c = record {
  reads = failed _ _ _ _ _ _ _ _ c.in_ok-word.ensures.moves c.in_err-value.ensures.reads.moves
      (λ x rest r at s.
      let v = stmt_view sorts.Return _ x.node rest c.requires.told r in
      let g0 = c.in_ok-word.ensures.only v.word (behind_word v rest) v.read tt tt in
      want _ _ _ (c.in_err-value.ensures.reads.only (tall_given v.value) (ending v rest) g0.1 (value_here _ _ x rest v at) (v.semi, refl))) c.from_residual-in_err-value.ensures.1;
}

pub returns-in_err-semi : goal.returns-in_err-semi
returns-in_err-semi g c = record {
  reads = failed _ _ _ _ _ _ _ _ (passes_on _ _ _ c.in_ok-word.ensures.moves c.in_ok-value.ensures.reads.moves) c.in_err-semi.ensures.moves
      (λ x rest r at s.
      let v = stmt_view sorts.Return _ x.node rest c.requires.told r in
      let g0 = c.in_ok-word.ensures.only v.word (behind_word v rest) v.read tt tt in
      let g1 = c.in_ok-value.ensures.reads.only (tall_given v.value) (ending v rest) g0.1 (value_here _ _ x rest v at) (v.semi, refl) in
      want _ _ _ (c.in_err-semi.ensures.only v.semi rest g1.1 tt tt)) c.from_residual-in_err-semi.ensures.1;
}

pub returns : goal.returns
returns g c = record {
  reads = record {
    found = (
      λ rest r.
          return_made _ c.in_ok-word.word c.in_ok-value.value.node c.in_ok-semi.semi rest c.in_ok-value.ensures.reads.found.1.stands
          (with_mark kinds.Return _ _ _ _ c.in_ok-word.ensures.found.0 c.in_ok-word.ensures.found.1 (c.in_ok-value.ensures.reads.found.0 _
          (with_mark kinds.Semicolon _ _ _ rest c.in_ok-semi.ensures.found.0 c.in_ok-semi.ensures.found.1 r))),
      let w = c.in_ok-value.ensures.reads.found.1 in
          let h = return_tall c.in_ok-word.word c.in_ok-value.value.node c.in_ok-semi.semi in
          record { height = omega (arith, h, w.height); fits = omega (arith, w.fits, c.requires.some) },
    );
    only = λ x rest r at s.
        let v = stmt_view sorts.Return _ x.node rest c.requires.told r in
        let g0 = c.in_ok-word.ensures.only v.word (behind_word v rest) v.read tt tt in
        let g1 = c.in_ok-value.ensures.reads.only (tall_given v.value) (ending v rest) g0.1 (value_here _ _ x rest v at) (v.semi, refl) in
        let g2 = c.in_ok-semi.ensures.only v.semi rest g1.1 tt tt in
        let h = at.height ∙ v.height in
        ((λ i. record { node = made.Return (g0.0 i) (g1.0 i).node (Some (g2.0 i)); height = (g1.0 i).height + 1 }) ∙ (λ i. record { node = sym v.node i; height = sym h i }), g2.1);
    moves = passes_on _ _ _ (passes_on _ _ _ c.in_ok-word.ensures.moves c.in_ok-value.ensures.reads.moves) c.in_ok-semi.ensures.moves;
    shorter = omega (arith, c.in_ok-word.ensures.shorter, c.in_ok-value.ensures.reads.shorter, c.in_ok-semi.ensures.shorter);
  };
}
