use Rattle.std.proofs.Common.{◌+◌, ◌-◌, max, sym, ap, ◌∙◌, subst, arith, List}
use Rattle.js_tree.specs.declared.lists.Further.{Further}
use Rattle.js_tree.specs.declared.tree.Expr.{Expr, roll-Expr}
use Rattle.js_parser.proofs.ExprLemmas.{at_lower, node_of}
use Rattle.js_parser.proofs.JoinLemmas.{joined_alone, joined_others, list_read, list_seen, others_at}
use Rattle.js_parser.proofs.LeadLemmas.{failed_on, made_on}
use Rattle.js_parser.proofs.PlaceLemmas.{passes_none}
use Rattle.js_parser.proofs.ReadLemmas.{want}
use Rattle.js_parser.specs.Following.{IsStrength}
use Rattle.js_parser.specs.Nodes.{Joins, further_height, list_layer}
use Rattle.js_parser.specs.declared.tall.Tall.{Tall}
use Rattle.js_parser.proofs.grammar.Grammar.joined.Goals as goal

abbrev tall_others : List (Further Expr) → Tall (List (Further Expr))
tall_others xs = record { node = xs; height = further_height xs }

pub returns-then-next_strength-rank : goal.returns-then-next_strength-rank
returns-then-next_strength-rank g c = record {
  reads = record {
    found = (λ p before. before, at_lower _ _ _ _ (omega arith) c.requires.first);
    only = λ x behind rest a at s r. joined_alone _ _ c.requires.rank _ x behind rest _ c.next_strength.ensures c.if-next_strength-rank.true a r;
    moves = passes_none _;
    shorter = omega arith;
  };
}

pub returns-in_err-others : goal.returns-in_err-others
returns-in_err-others g c =
    let strength : IsStrength c.args.reader.now (c.args.rank + 1) = subst (IsStrength c.args.reader.now) c.if-next_strength-rank.false c.next_strength.ensures in
    record {
      reads = failed_on (Joins c.args.rank) _ _ _ _ _ _ _ _ (passes_none _) c.in_err-others.ensures.reads.moves
          (λ x behind rest a at s r.
          let w = joined_others _ c.requires.rank _ x behind rest _ strength s a r in
          want _ _ _ (c.in_err-others.ensures.reads.only (tall_others w.others) rest w.read (others_at _ _ c.requires.rank x _ w.others w.is w.each w.some at) w.stops)) c.from_residual.ensures.1;
    }

pub value-requires : goal.value-requires
value-requires g c =
    let w = c.in_ok-others.ensures.reads.found.1 in
    record {
      seen = list_seen _ _ _ _ c.listed-node.ensures c.requires.rank _ c.requires.first.stands w.each w.some (c.higher-below.ensures ∙ (λ i. max (c.requires.first.height i) (w.height i)));
    }

pub returns : goal.returns
returns g c =
    let strength : IsStrength c.args.reader.now (c.args.rank + 1) = subst (IsStrength c.args.reader.now) c.if-next_strength-rank.false c.next_strength.ensures in
    let w = c.in_ok-others.ensures.reads in
    record {
      reads = made_on (Joins c.args.rank) _ _ _ _ _ _ _ _ c.value.ensures.made (omega arith)
          (λ p before. list_read _ _ _ _ c.listed-node.ensures c.requires.rank p _ c.requires.first.stands w.found.1.each w.found.1.some (λ rest r. before _ (w.found.0 rest r)))
          w.moves (omega (arith, w.shorter))
          (λ v behind rest a at s r.
          let u = joined_others _ c.requires.rank _ v behind rest _ strength s a r in
          let g0 = w.only (tall_others u.others) rest u.read (others_at _ _ c.requires.rank v _ u.others u.is u.each u.some at) u.stops in (
            sym (node_of c.listed-node.result (list_layer c.args.rank c.args.first.node c.in_ok-others.others.node) c.listed-node.ensures)
                ∙ ap (λ (t : Tall (List (Further Expr))). roll-Expr (list_layer c.args.rank c.args.first.node t.node)) g0.0
                ∙ node_of v.node (list_layer c.args.rank c.args.first.node u.others) u.is,
            g0.1,
          ));
    }
