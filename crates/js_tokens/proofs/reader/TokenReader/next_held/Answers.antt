use Rattle.std.proofs.Common.{◌≡◌, sym, subst}
use Rattle.js_tree.specs.Lexical.{Next}
use Rattle.js_tree.specs.Lexing.{Place}
use Rattle.js_tokens.proofs.HeldLemmas.{nothing_next}
use Rattle.js_tokens.proofs.reader.TokenReader.next_held.Goals as goal

pub returns-in-End-clause-none : goal.returns-in-End-clause-none
returns-in-End-clause-none c t n a reads =
    let at : c.self.inside.lexer ≡ c.args.self.now = c.self.view_is in
    nothing_next c.self.inside.lexer c.self.inside.held.kind c.self.invariant.kind c.in-End.is t n (subst (λ (p : Place). Next p t n) (sym at) a)
