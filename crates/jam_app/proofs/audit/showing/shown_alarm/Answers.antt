use Rattle.std.proofs.Common.{◌≡◌, ◌<◌, arith, List, length, [], Some, ap, refl, sym, ◌∙◌}
use Rattle.std.specs.Prelude.{slice_get, unwrap_or}
use Rattle.std.proofs.lemmas.Option.{slice_get_read}
use Rattle.lock_reader.specs.declared.lock.LockEntry.{LockEntry}
use Rattle.jam_app.specs.Showing.{id_of, package_of, version_of}
use Rattle.jam_app.proofs.audit.showing.shown_alarm.Goals as goal

pub returns : goal.returns
returns c =
    let sources = c.args.sources.now in
    let found = c.args.found.now in
    let advisories = sources.advisories.now in
    let entries = sources.lock.now.entries in
    let advisory = c.index-sources-found.result in
    let entry = c.index-as_slice-found.result in
    let advisory_at : slice_get advisories found.advisory ≡ Some advisory = slice_get_read advisories (length advisories) found.advisory advisory refl c.requires.there.advisory c.index-sources-found.is in
    let bound : found.entry < length c.as_slice.result.now = omega (arith, ap length c.as_slice.ensures, c.requires.there.entry) in
    let entry_at : slice_get entries found.entry ≡ Some entry =
    sym (ap (λ (es : List LockEntry). slice_get es found.entry) c.as_slice.ensures)
    ∙ slice_get_read c.as_slice.result.now (length c.as_slice.result.now) found.entry entry refl bound c.index-as_slice-found.is in
    let id : c.in_ok-copy.field-0 ≡ advisory.id = cc (c.in_ok-copy.ensures, c.index-sources-found.is) in
    let package_ : c.in_ok-copy-2.field-0 ≡ advisory.package = cc (c.in_ok-copy-2.ensures, c.index-sources-found.is) in
    let version : c.in_ok-version_text.field-0 ≡ unwrap_or entry.version [] = cc (c.in_ok-version_text.ensures, c.index-as_slice-found.is) in
    λ i. record {
      id = (id ∙ ap id_of (sym advisory_at)) i;
      «package» = (package_ ∙ ap package_of (sym advisory_at)) i;
      version = (version ∙ ap version_of (sym entry_at)) i;
      function = c.in_ok-function_of.ensures i;
      path = (c.of.ensures ∙ c.in_ok-path.ensures) i;
    }
