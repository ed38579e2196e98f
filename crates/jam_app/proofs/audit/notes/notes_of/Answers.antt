use Rattle.std.proofs.Common.{◌≡◌, List, ℕ, ◌++◌, ◌∷◌, [], get_or, map, length, take, ◌+◌, arith, refl, ap, sym, ◌∙◌, flat_map}
use Rattle.std.proofs.lemmas.List.{append-nil, get_or-map, length-map, take_all, take_more}
use Rattle.std.proofs.lemmas.Grind.{flat_map-append}
use Rattle.std.proofs.lemmas.List.Concat.{flat_map-cons}
use Rattle.alarms.specs.Alarms.{unversioned}
use Rattle.report_text.specs.declared.report.Note.{Note}
use Rattle.jam_app.specs.declared.loading.loaded.Loaded.{Loaded}
use Rattle.jam_app.specs.Loading.{module_of}
use Rattle.jam_app.specs.Notes.{loaded_notes, unversioned_note}
use Rattle.jam_app.specs.Printing.{PrintedModule, printed_of}
use Rattle.jam_app.proofs.PrintLemmas.{map_map}
use Rattle.jam_app.proofs.audit.notes.notes_of.Goals as goal

pub push_module-requires-clause-printed : goal.push_module-requires-clause-printed
push_module-requires-clause-printed c =
    let loaded = c.args.loaded.now in
    let m = c.loop-m.m in
    let one = c.index-loaded-m.result in
    let shown = c.index-printed-m.result in
    c.index-printed-m.is ∙ ap (λ (ps : List PrintedModule). get_or ps m shown) (c.requires.printed ∙ map_map printed_of module_of loaded)
    ∙ get_or-map (λ (l : Loaded). printed_of (module_of l)) loaded m one shown c.loop-m-test.true ∙ ap (λ (l : Loaded). printed_of (module_of l)) (sym c.index-loaded-m.is)

pub loop-m-preserved : goal.loop-m-preserved
loop-m-preserved c =
    let entries = c.args.lock.now.entries in
    let loaded = c.args.loaded.now in
    let m = c.loop-m.m in
    let one = c.index-loaded-m.result in
    let step : c.push_module.new.notes.items ≡ c.loop-m.notes.items ++ loaded_notes entries one = c.in_ok-push_module.ensures in
    let more : take (m + 1) loaded ≡ take m loaded ++ one ∷ [] = take_more loaded m one c.loop-m-test.true ∙ ap (λ (l : Loaded). take m loaded ++ l ∷ []) (sym c.index-loaded-m.is) in
    let single : flat_map (loaded_notes entries) (one ∷ []) ≡ loaded_notes entries one = flat_map-cons (loaded_notes entries) one [] ∙ append-nil (loaded_notes entries one) in
    step ∙ (λ i. c.loop-m.invariant i ++ sym single i) ∙ sym (flat_map-append (loaded_notes entries) (take m loaded) (one ∷ [])) ∙ ap (flat_map (loaded_notes entries)) (sym more)

pub returns : goal.returns
returns c =
    let entries = c.args.lock.now.entries in
    let loaded = c.args.loaded.now in
    let last : c.loop-m.m ≡ length loaded = omega (arith, c.loop-m-test.false, c.loop-m.auto.m-end) in
    c.in_ok-push_unversioned.ensures
    ∙ ap (λ (notes : List Note). notes ++ map unversioned_note (unversioned c.args.advisories.now entries)) (c.loop-m.invariant ∙ ap (flat_map (loaded_notes entries)) (take_all c.loop-m.m loaded (omega (arith, last))))
