use Rattle.std.proofs.Common.{◌≡◌, ◌≤◌, Bool, List, ℕ, ◌++◌, [], map, length, arith, ap, refl, sym, ◌∙◌}
use Rattle.std.proofs.lemmas.List.{append-nil, length-map}
use Rattle.std.proofs.lemmas.Result.{on_ok_weaker}
use Rattle.report_text.specs.declared.report.Note.{Note}
use Rattle.jam_app.specs.declared.audit.noted.Noted.{Noted}
use Rattle.jam_app.specs.Graphs.{place_text}
use Rattle.jam_app.specs.Notes.{is_owned, loaded_notes, note_at}
use Rattle.jam_app.specs.Printing.{PrintedModule, spot_at, spot_of}
use Rattle.jam_app.proofs.Ends.{is_nothing}
use Rattle.jam_app.proofs.NoteLemmas.{noted_is, owned_is}
use Rattle.jam_app.proofs.PrintLemmas.{map_map}
use Rattle.jam_app.proofs.audit.notes.push_module.Goals as goal

pub returns-then-is_empty : goal.returns-then-is_empty
returns-then-is_empty c =
    let entries = c.args.lock.now.entries in
    let one = c.args.one.now in
    let noted = c.in_ok-noted.noted.items in
    let old = c.args.notes.now.items in
    let owned : c.is_some-owned.result ≡ is_owned entries one.path = c.is_some-owned.ensures ∙ owned_is entries one.path c.owner_place.result c.owner_place.ensures in
    let none : noted ≡ [] = is_nothing noted _ c.is_empty.result c.in_ok-noted.noted.ok.0 c.is_empty.ensures c.if-is_empty.true in
    let notes : loaded_notes entries one ≡ [] = sym (noted_is entries one c.is_some-owned.result noted owned c.in_ok-noted.ensures) ∙ ap (map (note_at one.path (place_text one.text))) none in
    sym (append-nil old) ∙ ap (λ (ns : List Note). old ++ ns) (sym notes)

pub push_noted-requires : goal.push_noted-requires
push_noted-requires c =
    let text = c.args.printed.now.text in
    let noted = c.in_ok-noted.noted.items in
    let places = c.in_ok-places.places.items in
    let spots = c.as_slice-2.ensures.value ∙ c.in_ok-offsets.ensures ∙ ap (map (λ (n : Noted). n.offset)) c.as_slice.ensures.value in
    let long : length places ≡ length noted =
    sym (length-map places spot_of) ∙ ap length c.in_ok-places.ensures ∙ length-map c.as_slice-2.result.now (spot_at text) ∙ ap length spots ∙ length-map noted (λ (n : Noted). n.offset) in
    omega (arith, long, ap length c.as_slice-3.ensures.value, ap length c.as_slice-4.ensures.value)

pub returns : goal.returns
returns c =
    let entries = c.args.lock.now.entries in
    let one = c.args.one.now in
    let printed = c.args.printed.now in
    let noted = c.in_ok-noted.noted.items in
    let text = place_text one.text in
    let text_is : printed.text ≡ text = ap (λ (p : PrintedModule). p.text) c.requires.printed in
    let path_is : c.path.result.now ≡ one.path = c.path.ensures ∙ ap (λ (p : PrintedModule). p.path) c.requires.printed in
    let owned : c.is_some-owned.result ≡ is_owned entries one.path = c.is_some-owned.ensures ∙ owned_is entries one.path c.owner_place.result c.owner_place.ensures in
    let offsets : c.as_slice-2.result.now ≡ map (λ (n : Noted). n.offset) c.as_slice-3.result.now =
    c.as_slice-2.ensures.value ∙ c.in_ok-offsets.ensures ∙ ap (map (λ (n : Noted). n.offset)) (c.as_slice.ensures.value ∙ sym c.as_slice-3.ensures.value) in
    let spots : map spot_of c.as_slice-4.result.now ≡ map (λ (n : Noted). spot_at text n.offset) c.as_slice-3.result.now =
    ap (map spot_of) c.as_slice-4.ensures.value ∙ c.in_ok-places.ensures ∙ (λ i. map (spot_at (text_is i)) (offsets i))
    ∙ map_map (spot_at text) (λ (n : Noted). n.offset) c.as_slice-3.result.now in
    let is : map (note_at c.path.result.now text) c.as_slice-3.result.now ≡ loaded_notes entries one =
    (λ i. map (note_at (path_is i) text) (c.as_slice-3.ensures.value i)) ∙ noted_is entries one c.is_some-owned.result noted owned c.in_ok-noted.ensures in
    on_ok_weaker c.push_noted.result (λ e. e ∙ ap (λ (ns : List Note). c.args.notes.now.items ++ ns) is) (c.push_noted.ensures text spots)
