use Rattle.std.proofs.Common.{◌++◌, map, ap, sym, ◌∙◌}
use Rattle.std.specs.Option.{option_map}
use Rattle.std.proofs.lemmas.Result.{on_ok_weaker}
use Rattle.js_scopes.specs.Brackets.{listed}
use Rattle.js_scopes.specs.Scopes.{bound_name}
use Rattle.js_scopes.specs.Around.{around_of}
use Rattle.js_scopes.proofs.names.push_named.Goals as goal

pub returns-in-Some : goal.returns-in-Some
returns-in-Some c n same =
    on_ok_weaker c.push_name.result
    (λ h. h ∙ ap (λ o. c.args.out.now.items ++ map (bound_name n (around_of c.args.around)) (listed (option_map (λ t. t.now) o))) (sym c.in-Some.is))
    (c.push_name.ensures n same)
