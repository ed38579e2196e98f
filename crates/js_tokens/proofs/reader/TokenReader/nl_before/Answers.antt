use Rattle.std.proofs.Common.{◌≡◌, sym, subst}
use Rattle.js_tree.specs.Lexical.{Next}
use Rattle.js_tree.specs.Lexing.{Place}
use Rattle.js_tokens.proofs.reader.TokenReader.nl_before.Goals as goal

pub returns : goal.returns
returns c t n a = let at : c.self.inside.lexer ≡ c.args.self.now = c.self.view_is in c.self.invariant.line t n (subst (λ (p : Place). Next p t n) (sym at) a)
