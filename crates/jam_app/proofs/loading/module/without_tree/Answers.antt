use Rattle.std.proofs.Common.{◌≡◌, List, ℕ, false, refl, subst, sym, ◌∙◌}
use Rattle.jam_app.specs.Reading.{IsParsed}
use Rattle.jam_app.specs.Texts.{IsTheTree}
use Rattle.jam_app.proofs.Bad.{bad_stop, is_bad}
use Rattle.jam_app.proofs.loading.module.without_tree.Goals as goal

pub returns-then-not-skip-clause-err : goal.returns-then-not-skip-clause-err
returns-then-not-skip-clause-err c files before now =
    bad_stop c.args.skip c.args.source.path c.args.source.text c.args.bad files before now c.stop_for.result c.if-not-skip.true c.requires c.stop_for.ensures

pub skipped_file-requires : goal.skipped_file-requires
skipped_file-requires c = is_bad c.args.source.text c.args.bad (λ e. cc (sym c.in-TooLarge.is ∙ e)) c.requires

pub skipped_file-requires-in-At : goal.skipped_file-requires-in-At
skipped_file-requires-in-At c = is_bad c.args.source.text c.args.bad (λ e. cc (sym c.in-At.is ∙ e)) c.requires

pub skipped_file-requires-in-Construct : goal.skipped_file-requires-in-Construct
skipped_file-requires-in-Construct c = is_bad c.args.source.text c.args.bad (λ e. cc (sym c.in-Construct.is ∙ e)) c.requires
