use Rattle.std.proofs.Common.{◌++◌, [], ◌∷◌, ap, ◌∙◌}
use Rattle.js_scopes.proofs.names.push_name.Goals as goal

pub returns : goal.returns
returns c n same = (c.in_ok-push.ensures {u = tt}).items ∙ ap (λ b. c.args.out.now.items ++ record { start = c.args.token.now.start; binding = b } ∷ []) (c.binding_at-binding.ensures n same)
