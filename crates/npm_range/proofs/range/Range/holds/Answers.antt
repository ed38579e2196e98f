use Rattle.std.proofs.Common.{◌∙◌, sym, ap, List}
use Rattle.std.specs.List.{list_all, list_any}
use Rattle.semver.specs.Identifiers.{parts_of}
use Rattle.npm_range.specs.Conditions.{Condition, condition_of, holds, meets}
use Rattle.npm_range.proofs.Readings.{holds-views}
use Rattle.npm_range.proofs.range.Range.holds.Goals as goal

pub returns : goal.returns
returns c =
    let test = meets (parts_of c.args.version.now) in
    c.any_holds.ensures ∙ ap (list_any (λ v. list_all (λ x. test (condition_of x)) v.items)) c.deref.ensures.value
    ∙ sym (holds-views (λ v. v.items) test c.self.inside.alternatives.items)
    ∙ ap (λ (r : List (List Condition)). holds r (parts_of c.args.version.now)) c.self.view_is
