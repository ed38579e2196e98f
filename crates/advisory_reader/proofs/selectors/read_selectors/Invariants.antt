use Rattle.std.proofs.Common.{◌≡◌, ◌++◌, drop}
use Rattle.std.specs.Option.{option_map}
use Rattle.serde_json.specs.View.{items_view}
use Rattle.advisory_reader.specs.Advisories.{selectors_of}
use Rattle.advisory_reader.proofs.selectors.read_selectors.Given as goal

abbrev pub invariant-loop-value : goal.invariant-loop-value
invariant-loop-value l = selectors_of (items_view l.values) ≡ option_map (λ more. l.selectors.items ++ more) (selectors_of (items_view (drop l.value-index l.values)))
