use Rattle.std.proofs.Common.{arith, length, subst}
use Rattle.js_tree.specs.Parts.{ATail}
use Rattle.js_tree.specs.Tokens.{IsInText}
use Rattle.js_scopes.specs.Brackets.{elements}
use Rattle.js_scopes.proofs.OwnTokens.{arguments_owned, few_owned, parts_owned}
use Rattle.js_scopes.proofs.call_sites.push_tail.Goals as goal

pub push_call-requires : goal.push_call-requires
push_call-requires c =
    let a = c.in-Call.arguments in
    let few = few_owned (ATail c.args.head.now c.args.before.now _) (length (elements a)) (arguments_owned c.args.head.now c.args.before.now a) (subst (λ t. IsInText (ATail c.args.head.now c.args.before.now t)) c.in-Call.is c.requires) in
    omega (arith, few)

pub push_tagged-requires : goal.push_tagged-requires
push_tagged-requires c =
    let t = c.in-Template.template in
    few_owned (ATail c.args.head.now c.args.before.now _) (length t.parts) (parts_owned c.args.head.now c.args.before.now t) (subst (λ u. IsInText (ATail c.args.head.now c.args.before.now u)) c.in-Template.is c.requires)
