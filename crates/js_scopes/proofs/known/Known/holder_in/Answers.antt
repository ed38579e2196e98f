use Rattle.std.proofs.Common.{ap, sym, ◌∙◌}
use Rattle.js_tree.specs.Parts.{node_of}
use Rattle.js_scopes.specs.AtHand.{known_in}
use Rattle.js_scopes.specs.Calls.{holder_in}
use Rattle.js_scopes.proofs.known.Known.holder_in.Goals as goal

pub returns-in-Function : goal.returns-in-Function
returns-in-Function c =
    let known = known_in c.args.self.now in
    c.number.ensures ∙ ap known.number c.start_of.ensures ∙ sym (ap (λ m. holder_in known (node_of m) c.args.holder) c.in-Function.is)
