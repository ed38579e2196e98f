use Rattle.std.proofs.Common.{◌≡◌, Bool, List, subst, sym, ◌∙◌}
use Rattle.std.specs.Option.{is_some}
use Rattle.advisory_reader.specs.declared.advisory.Selector.{Selector}
use Rattle.jam_base.specs.declared.edge.FunctionRef.{FunctionRef}
use Rattle.reach_path.specs.Reached.{path_to}
use Rattle.alarms.specs.Searching.{Adds, Hits}
use Rattle.alarms.proofs.SearchLemmas.{advisory_added}
use Rattle.alarms.proofs.search.Owned.push_advisory.Goals as goal

pub returns-in_ok-push_functions : goal.returns-in_ok-push_functions
returns-in_ok-push_functions c =
    let reached : FunctionRef → Bool = λ f. is_some (path_to c.args.reach.now f) in
    advisory_added reached c.args.i c.args.advisory.now c.args.self.now c.args.found.now.items c.push_functions.new.found.items (sym c.concerns.ensures ∙ c.if-concerns.true)
    (subst (λ (ss : List Selector). Adds (Hits reached c.args.i ss c.args.self.now) c.args.found.now.items c.push_functions.new.found.items) c.as_slice.ensures c.in_ok-push_functions.ensures)
