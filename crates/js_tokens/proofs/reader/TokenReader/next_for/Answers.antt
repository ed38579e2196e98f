use Rattle.std.proofs.Common.{◌≡◌, sym, subst, IfNone, IfSome}
use Rattle.js_tree.specs.Lexing.{Place}
use Rattle.js_tokens.specs.Ahead.{IsNextFor, NoneFor}
use Rattle.js_tokens.specs.declared.goal.Goal.{Goal}
use Rattle.js_tokens.proofs.reader.TokenReader.next_for.Goals as goal

pub returns-in-Operator-clause-none : goal.returns-in-Operator-clause-none
returns-in-Operator-clause-none c = subst (λ (g : Goal). IfNone c.next_held.result (NoneFor g c.args.self.now)) (sym c.in-Operator.is) c.next_held.ensures.none

pub returns-in_default : goal.returns-in_default
returns-in_default c =
    let at : c.self.inside.lexer ≡ c.args.self.now = c.self.view_is in
    record {
      found = subst (λ (p : Place). IfSome c.next_cut.result (IsNextFor c.args.goal p)) at c.next_cut.ensures.found;
      none = subst (λ (p : Place). IfNone c.next_cut.result (NoneFor c.args.goal p)) at c.next_cut.ensures.none;
    }
