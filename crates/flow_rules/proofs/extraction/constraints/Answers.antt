use Rattle.std.proofs.Common.{◌<◌, List, length, drop, subst, sym, ap, ◌∙◌}
use Rattle.std.specs.List.Sorted.{IsNonDecreasingBy}
use Rattle.js_scopes.specs.declared.function.FunctionInfo.{FunctionInfo}
use Rattle.js_tree.proofs.TextLemmas.{spelled}
use Rattle.js_scopes.proofs.Counts.{ascending_rises}
use Rattle.js_scopes.proofs.Few.{few_functions}
use Rattle.flow_rules.specs.Rules.{KeepsRules}
use Rattle.flow_rules.proofs.Keeping.{keeps_rules}
use Rattle.flow_rules.proofs.extraction.constraints.Goals as goal

pub of-known-requires-clause-ascending : goal.of-known-requires-clause-ascending
of-known-requires-clause-ascending c =
    subst (IsNonDecreasingBy (λ (f : FunctionInfo). f.start)) (sym (c.behind_first-inner.ensures ∙ ap (drop 1) (c.as_slice.ensures ∙ c.in_ok-functions.ensures {u = tt}))) (ascending_rises (λ (f : FunctionInfo). f.start) _)

pub of-known-requires-clause-few : goal.of-known-requires-clause-few
of-known-requires-clause-few c =
    subst (λ (xs : List FunctionInfo). length xs < 4294967295) (sym (c.behind_first-inner.ensures ∙ ap (drop 1) (c.as_slice.ensures ∙ c.in_ok-functions.ensures {u = tt})))
    (few_functions c.args.tree.now (spelled c.requires.spelled.0 c.args.tree.now c.requires.spelled.1))

pub requires_of-requires-clause-spelled : goal.requires_of-requires-clause-spelled
requires_of-requires-clause-spelled c = spelled c.requires.spelled.0 c.args.tree.now c.requires.spelled.1

pub notes_of-requires-clause-spelled : goal.notes_of-requires-clause-spelled
notes_of-requires-clause-spelled c = spelled c.requires.spelled.0 c.args.tree.now c.requires.spelled.1

pub flows_of-requires-clause-spelled : goal.flows_of-requires-clause-spelled
flows_of-requires-clause-spelled c = spelled c.requires.spelled.0 c.args.tree.now c.requires.spelled.1

pub invariant_of-result : goal.invariant_of-result
invariant_of-result c =
    subst KeepsRules
    (λ i. record {
      functions = sym (c.in_ok-functions.ensures {u = tt}) i;
      sites = sym (c.in_ok-sites.ensures {u = tt}) i;
      requires_ = sym (c.in_ok-requires_.ensures {u = tt}) i;
      notes = sym (c.in_ok-notes.ensures {u = tt}) i;
      flows = sym (c.in_ok-flows.ensures {u = tt}) i;
    })
    (keeps_rules c.args.tree.now (spelled c.requires.spelled.0 c.args.tree.now c.requires.spelled.1))
