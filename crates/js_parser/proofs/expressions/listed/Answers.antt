use Rattle.std.proofs.Common.{◌-◌, sym, ◌∙◌}
use Rattle.js_tree.specs.declared.tree.Expr.TheVariants.{outs-Binary, outs-Comma}
use Rattle.js_parser.proofs.JoinLemmas.{as_binary, as_comma, list_binary}
use Rattle.js_parser.proofs.expressions.listed.Goals as goal

pub returns-then-rank-eq0 : goal.returns-then-rank-eq0
returns-then-rank-eq0 c = outs-Comma c.args.first c.args.rest ∙ sym (as_comma c.args.rank c.args.first c.args.rest c.if-rank-eq0.true)

pub returns-else-rank-eq0 : goal.returns-else-rank-eq0
returns-else-rank-eq0 c =
    outs-Binary (c.args.rank - 2) c.args.first c.args.rest ∙ sym (as_binary c.args.rank c.args.first c.args.rest (list_binary c.args.rank c.requires c.if-rank-eq0.false))
