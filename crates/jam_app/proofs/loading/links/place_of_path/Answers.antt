use Rattle.std.proofs.Common.{rules, of_calls}
use Rattle.std.specs.Cmp.Lexicographic.{slice_cmp}
use Rattle.std.specs.Ordering.{nat_cmp}
use Rattle.std.proofs.lemmas.Fn.{always_returns_same}
use Rattle.jam_app.specs.declared.loading.loaded.Loaded.{Loaded}
use Rattle.jam_app.proofs.LinkLemmas.{found_place, no_place, is_searchable}
use Rattle.jam_app.proofs.loading.links.place_of_path.Goals as goal

pub returns-in-Ok : goal.returns-in-Ok
returns-in-Ok c =
    found_place c.args.loaded.now c.args.path.now c.in-Ok.place c.requires.sorted c.in-Ok.ensures.bound
    (c.in-Ok.ensures.position (λ (y : Loaded). slice_cmp nat_cmp y.path c.args.path.now) (always_returns_same _ _ _ (λ a r f k. search (rules, of_calls))))

pub returns-in-Err : goal.returns-in-Err
returns-in-Err c =
    no_place c.args.loaded.now c.args.path.now c.in-Err.field-0 c.requires.sorted
    (c.in-Err.ensures.position (λ (y : Loaded). slice_cmp nat_cmp y.path c.args.path.now) (always_returns_same _ _ _ (λ a r f k. search (rules, of_calls)))
    (is_searchable c.args.loaded.now c.args.path.now c.requires.sorted))
