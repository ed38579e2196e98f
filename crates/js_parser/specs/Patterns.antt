-- Expressions that are read where a pattern turns out to stand (ECMA-262, 12.15.5).
use Rattle.std.specs.Prelude.{◌≡◌, Result, Ok, Err, true}
use Rattle.js_tree.specs.declared.token.Token.{Token}
use Rattle.js_tree.specs.declared.tree.Expr.{Expr}
use Rattle.js_tree.specs.declared.tree.Expr.TheVariants as expression
use Rattle.js_tree.specs.declared.tree.Pattern.{Pattern}
use Rattle.js_tree.specs.declared.tree.Pattern.TheVariants as bound
use Rattle.js_tree.specs.Spelling.{expr, pattern}
use Rattle.js_tree.specs.Spelling.Nodes.{CHAIN}
use Rattle.js_tokens.specs.declared.fault.TokenFault.{TokenFault}
use Rattle.js_tokens.specs.declared.fault.TokenFault.TheVariants as fault
use Rattle.js_parser.specs.declared.tall.Tall.{Tall}

-- the expression covers the pattern: the pattern has its tokens
pub data Covers : Expr → Pattern → Type 0 where
  CoversName : (t : Token) → Covers (expression.Name t) (bound.Name t)
  CoversMember : (chain : Expr) → (expr chain).rank ≡ CHAIN → (expr chain).is_target ≡ true → Covers chain (bound.Member chain)
  CoversParen : (begin end : Token) (x : Expr) (p : Pattern) → Covers x p → Covers (expression.Paren begin x end) (bound.Paren begin p end)

-- a pattern that the target covers, with its height, unless memory ran out
abbrev pub MakesPattern : Expr → Result (Tall Pattern) TokenFault → Type 0
MakesPattern x (Ok y) = Covers x y.node × (y.height ≡ (pattern y.node).height)
MakesPattern x (Err fault.OutOfMemory) = Unit {0}
MakesPattern x (Err (fault.Unexpected at)) = ⊥
