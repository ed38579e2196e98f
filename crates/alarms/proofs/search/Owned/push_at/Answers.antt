use Rattle.std.proofs.Common.{◌≡◌, ◌<◌, Bool, List, length, Some, arith, ap, refl, sym, ◌∙◌}
use Rattle.std.specs.Prelude.{slice_get}
use Rattle.std.specs.Option.{is_some}
use Rattle.std.proofs.lemmas.Option.{slice_get_read}
use Rattle.std.proofs.lemmas.Result.{on_ok_weaker}
use Rattle.jam_base.specs.declared.edge.FunctionRef.{FunctionRef}
use Rattle.reach_path.specs.Reached.{path_to}
use Rattle.advisory_reader.specs.declared.advisory.Advisory.{Advisory}
use Rattle.alarms.proofs.SearchLemmas.{place_added}
use Rattle.alarms.proofs.search.Owned.push_at.Goals as goal

pub returns : goal.returns
returns c =
    let reached : FunctionRef → Bool = λ f. is_some (path_to c.args.reach.now f) in
    let advisories = c.args.advisories.now in
    let place = c.args.place in
    let advisory = c.index-all-place.result in
    let there : place < length c.all.result.now = omega (arith, ap length c.all.ensures, c.requires.there) in
    let here : slice_get advisories place ≡ Some advisory = sym (ap (λ (list : List Advisory). slice_get list place) c.all.ensures)
    ∙ slice_get_read c.all.result.now (length c.all.result.now) place advisory refl there c.index-all-place.is in
    on_ok_weaker c.push_advisory.result (place_added reached advisories c.args.self.now place advisory c.args.found.now.items c.push_advisory.new.found.items here) c.push_advisory.ensures
