use Rattle.std.proofs.Common.{◌≡◌, ◌+◌, ◌≤◌, ℕ, List, length, get_or, Some, arith, refl, subst, sym, ap, ◌∙◌}
use Rattle.std.specs.Prelude.{Contains, slice_get}
use Rattle.std.specs.Option.{is_some}
use Rattle.std.proofs.lemmas.List.{get_or_default}
use Rattle.std.proofs.lemmas.List.Elements.{Contains-get_or}
use Rattle.std.proofs.lemmas.Option.{slice_get_read}
use Rattle.alarms.specs.declared.found.Found.{Found}
use Rattle.reach_path.specs.Reached.{path_to}
use Rattle.alarms.specs.Packages.{places_of}
use Rattle.alarms.specs.Searching.{Adds, HitsAt}
use Rattle.alarms.proofs.PackageLemmas.{place_within}
use Rattle.alarms.proofs.SearchLemmas.{Below, all_places, below_more}
use Rattle.alarms.proofs.search.Owned.push_all.Goals as goal

pub push_at-requires-clause-there : goal.push_at-requires-clause-there
push_at-requires-clause-there c =
    let entry = c.args.self.now.entry.now in
    let places = c.places-places.result.now in
    let place = get_or places c.loop-k.k 0 in
    let are : places ≡ places_of c.args.advisories.now entry.name = c.places-places.ensures ∙ ap (places_of c.args.advisories.now) c.as_str.ensures in
    place_within entry.name c.args.advisories.now place (subst (λ (ps : List ℕ). Contains ps place) are (Contains-get_or places c.loop-k.k 0 c.loop-k-test.true))

pub loop-k-preserved : goal.loop-k-preserved
loop-k-preserved c =
    let P : ℕ → ℕ → Found → Type 0 = λ k place. HitsAt (λ f. is_some (path_to c.args.reach.now f)) c.args.advisories.now c.args.self.now place in
    let places = c.places-places.result.now in
    let place = get_or places c.loop-k.k 0 in
    let here : slice_get places c.loop-k.k ≡ Some place = slice_get_read places (length places) c.loop-k.k place refl c.loop-k-test.true (get_or_default places c.loop-k.k 0 place c.loop-k-test.true) in
    below_more P places c.loop-k.k place c.args.found.now.items c.loop-k.found.items c.push_at.new.found.items here c.loop-k.invariant c.in_ok-push_at.ensures

pub returns : goal.returns
returns c =
    let entry = c.args.self.now.entry.now in
    let P : ℕ → ℕ → Found → Type 0 = λ k place. HitsAt (λ f. is_some (path_to c.args.reach.now f)) c.args.advisories.now c.args.self.now place in
    let places = c.places-places.result.now in
    let are : places ≡ places_of c.args.advisories.now entry.name = c.places-places.ensures ∙ ap (places_of c.args.advisories.now) c.as_str.ensures in
    let last : c.loop-k.k ≡ length places = omega (arith, c.loop-k-test.false, c.loop-k.auto.k-end) in
    all_places (λ f. is_some (path_to c.args.reach.now f)) c.args.advisories.now c.args.self.now places c.args.found.now.items c.loop-k.found.items are
    (subst (λ (k : ℕ). Adds (Below P places k) c.args.found.now.items c.loop-k.found.items) last c.loop-k.invariant)
