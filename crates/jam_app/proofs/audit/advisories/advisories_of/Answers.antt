use Rattle.std.proofs.Common.{◌≡◌, Some, ap, arith, refl, sym, ◌∙◌}
use Rattle.std.specs.Option.{option_map}
use Rattle.jam_app.specs.declared.answers.refusal.Refusal.TheVariants as refusal
use Rattle.jam_app.specs.AuditFiles.{IsAdvisoryRefusal, no_advisories}
use Rattle.jam_app.proofs.Causes.{counts_still, counts_stop, refused_stop, told}
use Rattle.jam_app.proofs.FileLemmas.{advisories_given}
use Rattle.jam_app.proofs.audit.advisories.advisories_of.Goals as goal

pub returns-in-Some-clause-gives : goal.returns-in-Some-clause-gives
returns-in-Some-clause-gives g c =
    let files = g.F.Folder.files c.args.folder.now in
    advisories_given c.args.name.now c.as_slice.result.now files _ _ c.advisories_in.result
    (told files c.in_ok-bytes.ensures.gives (λ m e. sym e ∙ ap (option_map (λ v. v.items)) c.in-Some.is ∙ ap Some (sym c.as_slice.ensures.value))) c.advisories_in.ensures.list c.advisories_in.ensures.stop

pub returns-in-Some-clause-counts : goal.returns-in-Some-clause-counts
returns-in-Some-clause-counts g c = counts_still _ _ c.advisories_in.result c.in_ok-bytes.ensures.counts.done

pub returns-in-None-clause-gives : goal.returns-in-None-clause-gives
returns-in-None-clause-gives g c =
    let files = g.F.Folder.files c.args.folder.now in
    refused_stop (λ m owed. IsAdvisoryRefusal m c.args.name.now owed) refusal.NoAdvisories files _ _ c.no_advisories.result c.no_advisories.ensures
    (told files c.in_ok-bytes.ensures.gives (λ m e. no_advisories (sym e ∙ ap (option_map (λ v. v.items)) c.in-None.is)))

pub returns-in-None-clause-counts : goal.returns-in-None-clause-counts
returns-in-None-clause-counts g c = counts_stop _ _ c.no_advisories.result c.in_ok-bytes.ensures.counts.done
