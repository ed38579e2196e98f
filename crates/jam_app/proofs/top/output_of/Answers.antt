use Rattle.std.proofs.Common.{◌≡◌, true≢false, sym, ◌∙◌}
use Rattle.std.proofs.lemmas.Result.{IfOk-weaker}
use Rattle.jam_app.proofs.Causes.{for_all_ok}
use Rattle.jam_app.proofs.top.output_of.Goals as goal

pub audit-requires : goal.audit-requires
audit-requires g c = sym c.command.ensures ∙ c.in-Audit.is

pub graph-requires : goal.graph-requires
graph-requires g c = sym c.command.ensures ∙ c.in-Graph.is

pub returns-in-Audit-clause-alarmed : goal.returns-in-Audit-clause-alarmed
returns-in-Audit-clause-alarmed g c = for_all_ok c.audit.result (λ made is. sym c.command.ensures ∙ c.in-Audit.is)

pub returns-in-Graph-clause-alarmed : goal.returns-in-Graph-clause-alarmed
returns-in-Graph-clause-alarmed g c = IfOk-weaker c.graph.result _ _ (λ made e is. absurd (true≢false (sym is ∙ e))) c.graph.ensures.unalarmed
