use Rattle.std.proofs.Common.{◌++◌, sym, ap, ◌∙◌, append-nil}
use Rattle.std.specs.List.{flat_map}
use Rattle.std.proofs.lemmas.Result.{on_ok_weaker}
use Rattle.js_scopes.specs.Indexed.{scope_starts}
use Rattle.js_scopes.specs.Brackets.{listed}
use Rattle.js_scopes.proofs.Steps.{none_more}
use Rattle.js_scopes.proofs.declared.push_own_firsts.Goals as goal

pub returns-in-None : goal.returns-in-None
returns-in-None c = none_more c.args.out.now.items _ (ap (λ o. flat_map scope_starts (listed o)) (sym (c.in_ok-scope_in.ensures {u = tt}) ∙ c.in-None.is))

pub returns-in-Some : goal.returns-in-Some
returns-in-Some c =
    on_ok_weaker c.push_firsts.result
    (λ h. h ∙ ap (λ xs. c.args.out.now.items ++ xs) (
    sym (append-nil (scope_starts c.in-Some.scope)) ∙ sym (ap (λ o. flat_map scope_starts (listed o)) (sym (c.in_ok-scope_in.ensures {u = tt}) ∙ c.in-Some.is))))
    c.push_firsts.ensures
