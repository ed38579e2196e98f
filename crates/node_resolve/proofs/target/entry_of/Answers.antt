use Rattle.std.proofs.Common.{Bor, List, ℕ, sym, ap, ◌∙◌}
use Rattle.std.specs.Option.{option_map}
use Rattle.jam_base.specs.Path.{path_of}
use Rattle.node_resolve.proofs.Entering.{entry_reached}
use Rattle.node_resolve.proofs.target.entry_of.Goals as goal

pub returns-clause-target : goal.returns-clause-target
returns-clause-target g c =
    entry_reached _ (option_map (λ (t : Bor (List ℕ)). t.now) c.args.entry) c.as_str-2.result.now c.in_ok-path.path c.relative_target.result (c.as_str-2.ensures.value ∙ c.in_ok-spec.ensures)
    (c.in_ok-path.ensures ∙ ap path_of (c.as_str.ensures.value ∙ sym c.as_str-2.ensures.value)) c.relative_target.ensures.target
