use Rattle.std.proofs.Common.{◌-◌, refl, sym, ◌∙◌, subst, arith}
use Rattle.js_tree.specs.declared.token_kind.TokenKind.TheVariants as kinds
use Rattle.js_tree.specs.declared.tree.Expr.TheOpen.{Expr-F}
use Rattle.js_tree.specs.declared.tree.Expr.TheVariants.{rolls-Power}
use Rattle.js_tree.specs.declared.tree.Expr.{roll-Expr}
use Rattle.js_parser.proofs.ExprLemmas.{value_of, value_at, made, node_of}
use Rattle.js_parser.proofs.FormLemmas.{base_stands, no_stars, not_raised, power_view, raised}
use Rattle.js_parser.proofs.LeadLemmas.{first_fails, first_read, stays_read}
use Rattle.js_parser.proofs.MadeLemmas.{seen_at, read_at}
use Rattle.js_parser.proofs.PlaceLemmas.{passes_none, passes_on}
use Rattle.js_parser.proofs.ReadLemmas.{want, failed}
use Rattle.js_parser.proofs.StrengthLemmas.{is_stars}
use Rattle.js_parser.proofs.TokenLemmas.{only_plain}
use Rattle.js_parser.specs.Following.{IsStrength}
use Rattle.js_parser.specs.Nodes.{expr_line}
use Rattle.js_parser.proofs.grammar.Grammar.power.Goals as goal

pub returns-in_err-base : goal.returns-in_err-base
returns-in_err-base g c = record {
  reads = failed _ _ _ _ _ _ _ _ (passes_none _) c.in_err-base.ensures.reads.moves
      (λ x rest r at s. first_fails _ _ _ x rest (power_view _ _ x rest r at s) _ _ c.in_err-base.ensures.reads) c.from_residual.ensures.1;
}

pub returns-then-base-lt15 : goal.returns-then-base-lt15
returns-then-base-lt15 g c = record {
  reads = stays_read 14 13 _ _ _ _ (omega arith) c.in_ok-base.ensures.reads (λ x rest r at s. power_view _ _ x rest r at s)
      (λ x behind rest a at s r. not_raised _ _ x behind rest _ a (omega (arith, c.in_ok-base.ensures.reads.found.1.rank, c.if-base-lt15.true)) r);
}

pub returns-then-next_strength-ne14 : goal.returns-then-next_strength-ne14
returns-then-next_strength-ne14 g c = record {
  reads = stays_read 14 13 _ _ _ _ (omega arith) c.in_ok-base.ensures.reads (λ x rest r at s. power_view _ _ x rest r at s)
      (λ x behind rest a at s r. no_stars _ _ x behind rest _ _ a c.next_strength.ensures c.if-next_strength-ne14.true r);
}

pub returns-in_err-op : goal.returns-in_err-op
returns-in_err-op g c =
    let strength : IsStrength c.unary.new.reader 14 = subst (IsStrength c.unary.new.reader) c.if-next_strength-ne14.false c.next_strength.ensures in
    record {
      reads = failed _ _ _ _ _ _ _ _ c.in_ok-base.ensures.reads.moves c.in_err-op.ensures.moves
          (λ x rest r at s.
          let f = first_read _ _ _ x rest (power_view _ _ x rest r at s) _ _ c.in_ok-base.ensures.reads in
          let w = raised _ _ x f.0 rest _ f.1 strength s f.2 in
          want _ _ _ (c.in_err-op.ensures.only _ (only_plain kinds.Stars refl) w.op _ w.read tt tt)) c.from_residual-in_err-op.ensures.1;
    }

pub returns-in_err-exponent : goal.returns-in_err-exponent
returns-in_err-exponent g c =
    let strength : IsStrength c.unary.new.reader 14 = subst (IsStrength c.unary.new.reader) c.if-next_strength-ne14.false c.next_strength.ensures in
    record {
      reads = failed _ _ _ _ _ _ _ _ (passes_on _ _ _ c.in_ok-base.ensures.reads.moves c.in_ok-op.ensures.moves) c.in_err-exponent.ensures.reads.moves
          (λ x rest r at s.
          let f = first_read _ _ _ x rest (power_view _ _ x rest r at s) _ _ c.in_ok-base.ensures.reads in
          let w = raised _ _ x f.0 rest _ f.1 strength s f.2 in
          let g0 = c.in_ok-op.ensures.only _ (only_plain kinds.Stars refl) w.op (expr_line w.exponent rest) w.read tt tt in
          want _ _ _ (c.in_err-exponent.ensures.reads.only (value_of w.exponent) rest g0.1 (value_at 13 _ w.exponent w.stands (omega (arith, w.low))) s)) c.from_residual-in_err-exponent.ensures.1;
    }

pub value-requires : goal.value-requires
value-requires g c =
    let w = c.in_ok-base.ensures.reads.found.1 in
    let u = c.in_ok-exponent.ensures.reads.found.1 in
    record {
      seen = seen_at (Expr-F.Power c.in_ok-base.base.node c.in_ok-op.op c.in_ok-exponent.exponent.node) _ (rolls-Power c.in_ok-base.base.node c.in_ok-op.op c.in_ok-exponent.exponent.node) _ 13 _ refl refl refl
          (omega (arith, w.height, u.height, c.higher-below.ensures));
    }

pub returns : goal.returns
returns g c =
    let strength : IsStrength c.unary.new.reader 14 = subst (IsStrength c.unary.new.reader) c.if-next_strength-ne14.false c.next_strength.ensures in
    let op = c.in_ok-op.ensures.found in
    record {
      reads = made 13 _ 13 _ _ _ _ c.value.ensures.made (omega arith)
          (read_at (Expr-F.Power c.in_ok-base.base.node c.in_ok-op.op c.in_ok-exponent.exponent.node) _ (rolls-Power c.in_ok-base.base.node c.in_ok-op.op c.in_ok-exponent.exponent.node) _ _
          (λ rest r. (
            base_stands _ c.in_ok-base.base c.in_ok-base.ensures.reads.found.1 (omega (arith, c.if-base-lt15.false)),
            (
              c.in_ok-exponent.ensures.reads.found.1.stands,
              c.in_ok-base.ensures.reads.found.0 _ (_, op.0, is_stars _ _ (strength.all _ _ op.0 op.1), c.in_ok-exponent.ensures.reads.found.0 rest r),
            ),
          )))
          (passes_on _ _ _ (passes_on _ _ _ c.in_ok-base.ensures.reads.moves c.in_ok-op.ensures.moves) c.in_ok-exponent.ensures.reads.moves)
          (omega (arith, c.in_ok-base.ensures.reads.shorter, c.in_ok-op.ensures.shorter, c.in_ok-exponent.ensures.reads.shorter))
          (λ x rest r at s.
          let f = first_read _ _ _ x rest (power_view _ _ x rest r at s) _ _ c.in_ok-base.ensures.reads in
          let w = raised _ _ x f.0 rest _ f.1 strength s f.2 in
          let g0 = c.in_ok-op.ensures.only _ (only_plain kinds.Stars refl) w.op (expr_line w.exponent rest) w.read tt tt in
          let g1 = c.in_ok-exponent.ensures.reads.only (value_of w.exponent) rest g0.1 (value_at 13 _ w.exponent w.stands (omega (arith, w.low))) s in
          (sym (rolls-Power c.in_ok-base.base.node c.in_ok-op.op c.in_ok-exponent.exponent.node) ∙ (λ i. roll-Expr (Expr-F.Power c.in_ok-base.base.node (g0.0 i) (g1.0 i).node)) ∙ node_of x.node (Expr-F.Power c.in_ok-base.base.node w.op w.exponent) w.is, g1.1));
    }
