use Rattle.std.proofs.Common.{◌+◌, ℕ, sym, ◌∙◌, arith}
use Rattle.js_tree.specs.declared.lists.Further.{Further}
use Rattle.js_tree.specs.declared.tree.Expr.{Expr}
use Rattle.js_parser.proofs.ExprLemmas.{value_of, value_at, list_low, rests}
use Rattle.js_parser.proofs.PlaceLemmas.{passes_none, passes_on}
use Rattle.js_parser.proofs.ReadLemmas.{want, failed, refused_here}
use Rattle.js_parser.proofs.TokenLemmas.{separates_plain, separates_strength, strength_separates}
use Rattle.js_parser.specs.Nodes.{OperandAt, ValueAt}
use Rattle.js_parser.specs.declared.tall.Tall.{Tall}
use Rattle.js_parser.proofs.grammar.Grammar.operand.Goals as goal

item_at : (rank room : ℕ) (x : Tall (Further Expr)) → OperandAt rank room x → ValueAt (rank + 1) room (value_of x.node.item)
item_at rank room x at = value_at (rank + 1) room x.node.item at.stands (omega (arith, at.height, at.fits))

pub returns-then-next_strength-rank : goal.returns-then-next_strength-rank
returns-then-next_strength-rank g c = record {
  reads = refused_here _ _ _ _ _ _ c.refusal.ensures
      (λ x rest r at s. c.if-next_strength-rank.true (sym (c.next_strength.ensures.all x.node.mark r.0 r.1 (separates_plain _ c.requires.rank _ r.2)) ∙ separates_strength _ c.requires.rank _ _ r.2));
}

pub returns-in_err-mark : goal.returns-in_err-mark
returns-in_err-mark g c = record {
  reads = failed _ _ _ _ _ _ _ _ (passes_none _) c.in_err-mark.ensures.moves
      (λ x rest r at s. want _ _ _ (c.in_err-mark.ensures.only _ (separates_plain _ c.requires.rank) x.node.mark _ r tt tt)) c.from_residual.ensures.1;
}

pub returns-in_err-value : goal.returns-in_err-value
returns-in_err-value g c = record {
  reads = failed _ _ _ _ _ _ _ _ c.in_ok-mark.ensures.moves c.in_err-value.ensures.reads.moves
      (λ x rest r at s.
      let g0 = c.in_ok-mark.ensures.only _ (separates_plain _ c.requires.rank) x.node.mark _ r tt tt in
      want _ _ _ (c.in_err-value.ensures.reads.only (value_of x.node.item) rest g0.1 (item_at _ _ x at) (rests _ (value_of x.node.item) rest (list_low _ c.requires.rank) s))) c.from_residual-in_err-value.ensures.1;
}

pub returns : goal.returns
returns g c = record {
  reads = record {
    found = (
      λ rest r. (_, c.in_ok-mark.ensures.found.0, strength_separates _ c.requires.rank _ _ (c.next_strength.ensures.all _ _ c.in_ok-mark.ensures.found.0 c.in_ok-mark.ensures.found.1 ∙ c.if-next_strength-rank.false), c.in_ok-value.ensures.reads.found.0 rest r),
      let w = c.in_ok-value.ensures.reads.found.1 in record { stands = w.stands; height = w.height; fits = w.fits },
    );
    only = λ x rest r at s.
        let g0 = c.in_ok-mark.ensures.only _ (separates_plain _ c.requires.rank) x.node.mark _ r tt tt in
        let g1 = c.in_ok-value.ensures.reads.only (value_of x.node.item) rest g0.1 (item_at _ _ x at) (rests _ (value_of x.node.item) rest (list_low _ c.requires.rank) s) in
        ((λ i. record { node = record { mark = g0.0 i; item = (g1.0 i).node }; height = (g1.0 i).height }) ∙ (λ i. record { node = x.node; height = sym at.height i }), g1.1);
    moves = passes_on _ _ _ c.in_ok-mark.ensures.moves c.in_ok-value.ensures.reads.moves;
    shorter = omega (arith, c.in_ok-mark.ensures.shorter, c.in_ok-value.ensures.reads.shorter);
  };
}
