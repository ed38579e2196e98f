use Rattle.std.proofs.Common.{◌≤◌, ◌++◌, length, append-nil, sym, ap, ◌∙◌, subst}
use Rattle.std.proofs.lemmas.Option.{slice_get_past}
use Rattle.composer.specs.Ways.{callback_ways}
use Rattle.composer.proofs.noted.push_callback.Goals as goal

pub returns-in-None : goal.returns-in-None
returns-in-None c =
    let functions = c.args.system.now.functions in
    let past : length functions ≤ c.args.value = subst (λ fs. length fs ≤ c.args.value) c.as_slice.ensures c.in-None.ensures.lookup.3 in
    sym (append-nil c.args.ways.now.items) ∙ ap (λ o. c.args.ways.now.items ++ callback_ways c.args.system.now.elem c.args.site.now o) (sym (slice_get_past functions c.args.value past))
