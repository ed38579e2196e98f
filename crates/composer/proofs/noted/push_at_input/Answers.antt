use Rattle.std.proofs.Common.{◌≤◌, ◌++◌, length, append-nil, sym, ap, ◌∙◌, subst}
use Rattle.std.proofs.lemmas.Option.{slice_get_past}
use Rattle.composer.specs.Work.{ways_at_input}
use Rattle.composer.proofs.noted.push_at_input.Goals as goal

pub returns-in-None : goal.returns-in-None
returns-in-None c =
    let sites = c.args.system.now.sites in
    let past : length sites ≤ c.args.site = subst (λ xs. length xs ≤ c.args.site) c.as_slice.ensures c.in-None.ensures.lookup.3 in
    sym (append-nil c.args.ways.now.items) ∙ ap (λ o. c.args.ways.now.items ++ ways_at_input c.args.system.now c.args.natives.now c.args.value o) (sym (slice_get_past sites c.args.site past))
