use Rattle.std.proofs.Common.{ap, refl, ◌∙◌, map, length}
use Rattle.std.specs.Prelude.{slice_get}
use Rattle.std.proofs.lemmas.Option.{slice_get_read}
use Rattle.jam_base.specs.declared.edge.Edge.{Edge}
use Rattle.jam_app.specs.Printing.{spot_at, spot_of}
use Rattle.jam_app.proofs.PrintLemmas.{map_map}
use Rattle.jam_app.proofs.answers.edges.push_run.Goals as goal

pub push_calls-requires-clause-places : goal.push_calls-requires-clause-places
push_calls-requires-clause-places c =
    ap (map spot_of) c.as_slice-in-Some.ensures.value ∙ c.in_ok-places-in-Some.ensures
    ∙ ap (map (spot_at c.in-Some.module.now.text)) (c.as_slice.ensures.value ∙ c.in_ok-offsets-in-Some.ensures)
    ∙ map_map (spot_at c.in-Some.module.now.text) (λ (e : Edge). e.offset) c.args.edges.now

pub push_calls-requires-clause-callers : goal.push_calls-requires-clause-callers
push_calls-requires-clause-callers c k d lt = ap (slice_get c.args.printed.now) (c.requires k d lt) ∙ slice_get_read c.args.printed.now (length c.args.printed.now) c.args.m c.in-Some.module.now refl c.in-Some.ensures.lookup.3.0 c.in-Some.ensures.lookup.1
