use Rattle.std.proofs.Common.{◌∷◌, ◌++◌, [], ap, ◌∙◌}
use Rattle.js_scopes.specs.Scopes.{names_in}
use Rattle.js_tree.specs.Parts.{ABody}
use Rattle.js_scopes.specs.Walks.{scopes_of}
use Rattle.js_scopes.proofs.binder.names_in.Goals as goal

pub returns : goal.returns
returns c n functions locals =
    c.in_ok-push_node.ensures {u = tt} n (record { functions = functions; locals = locals })
    ∙ (λ i. c.new-out.ensures.items i ++ names_in n (ABody (c.as_slice-2.ensures i)) (record { scopes = scopes_of ((c.as_slice.ensures.value ∙ (c.in_ok-push.ensures {u = tt}).items ∙ ap (λ xs. xs ++ c.args.scope ∷ []) c.new-scopes.ensures.items) i); holder = 0 }))
