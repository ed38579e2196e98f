use Rattle.std.proofs.Common.{refl, ap, ◌≡◌, ◌+◌, length, ◌∙◌}
use Rattle.jam_app.proofs.Causes.{counts_stop, told}
use Rattle.jam_app.proofs.Sizes.{excess_modules_stop, excess_stop, size_push}
use Rattle.jam_app.proofs.loading.source.read_next.Goals as goal

pub returns-then-modules-gt-MODULE_LIMIT-clause-gives : goal.returns-then-modules-gt-MODULE_LIMIT-clause-gives
returns-then-modules-gt-MODULE_LIMIT-clause-gives g c =
    excess_modules_stop c.args.size.now c.args.path (g.F.Folder.files c.args.folder.now) _ _ c.too_many.result c.requires.modules c.if-modules-gt-MODULE_LIMIT.true c.requires.bytes c.too_many.ensures

pub returns-then-modules-gt-MODULE_LIMIT-clause-counts : goal.returns-then-modules-gt-MODULE_LIMIT-clause-counts
returns-then-modules-gt-MODULE_LIMIT-clause-counts g c = counts_stop _ _ c.too_many.result refl

pub returns-then-total-gt-BYTE_LIMIT-clause-counts : goal.returns-then-total-gt-BYTE_LIMIT-clause-counts
returns-then-total-gt-BYTE_LIMIT-clause-counts g c = counts_stop _ _ _ c.in_ok-text.ensures.counts.done

pub returns-then-total-gt-BYTE_LIMIT-clause-gives : goal.returns-then-total-gt-BYTE_LIMIT-clause-gives
returns-then-total-gt-BYTE_LIMIT-clause-gives g c =
    excess_stop c.args.size.now c.args.path c.in_ok-text.text (g.F.Folder.files c.args.folder.now) _ _ _ _ (ap length c.as_str.ensures)
    c.if-modules-gt-MODULE_LIMIT.false c.requires.bytes c.if-total-gt-BYTE_LIMIT.true c.in_ok-text.ensures.gives c.too_many-then-total-gt-BYTE_LIMIT.ensures

pub returns-clause-gives : goal.returns-clause-gives
returns-clause-gives g c =
    let long : length c.as_str.result.now ≡ length c.in_ok-text.text = ap length c.as_str.ensures in
    told (g.F.Folder.files c.args.folder.now) c.in_ok-text.ensures.gives (λ m read. (
      λ i. (c.args.path, read i),
      λ earlier is. (λ i. record { modules = c.args.size.now.modules + 1; bytes = c.args.size.now.bytes + long i }) ∙ size_push m c.args.size.now earlier c.args.path c.in_ok-text.text is read,
    ))
