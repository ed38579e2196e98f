use Rattle.std.proofs.Common.{◌∙◌, sym}
use Rattle.js_parser.proofs.HeadLemmas.{high, no_head}
use Rattle.js_parser.proofs.ReadLemmas.{refused_here}
use Rattle.js_parser.proofs.grammar.Grammar.primary.Goals as goal

pub returns-in-Nothing : goal.returns-in-Nothing
returns-in-Nothing g c = record {
  reads = refused_here _ _ _ _ _ _ c.refusal.ensures
      (λ x rest r at s. no_head _ x.node rest (_, c.kind.ensures, sym c.primary_of.ensures ∙ c.in-Nothing.is) c.requires.told r (high _ x at));
}
