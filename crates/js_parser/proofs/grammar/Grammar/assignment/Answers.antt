use Rattle.std.proofs.Common.{◌-◌, subst}
use Rattle.js_parser.proofs.ChoiceLemmas.{AfterTest, assign_view, to_assigned, to_choice}
use Rattle.js_parser.proofs.LeadLemmas.{first_fails, read_on}
use Rattle.js_parser.proofs.PlaceLemmas.{passes_none}
use Rattle.js_parser.proofs.ReadLemmas.{failed}
use Rattle.js_parser.specs.Following.{IsStrength}
use Rattle.js_parser.specs.Nodes.{AssignsTo, Chooses}
use Rattle.js_parser.proofs.grammar.Grammar.assignment.Goals as goal

pub returns-in_err-first : goal.returns-in_err-first
returns-in_err-first g c = record {
  reads = failed _ _ _ _ _ _ _ _ (passes_none _) c.in_err-first.ensures.reads.moves
      (λ x rest r at s. first_fails _ _ _ x rest (assign_view _ _ x rest r at s) _ _ c.in_err-first.ensures.reads) c.from_residual.ensures.1;
}

pub returns-then-next_strength-eq3 : goal.returns-then-next_strength-eq3
returns-then-next_strength-eq3 g c =
    let strength : IsStrength c.binary.new.reader 3 = subst (IsStrength c.binary.new.reader) c.if-next_strength-eq3.true c.next_strength.ensures in
    record {
      reads = read_on {B = AfterTest} {After = Chooses} 3 1 _ _ _ _ _ _ c.in_ok-first.ensures.reads c.choice.ensures.reads (λ x rest r at s. assign_view _ _ x rest r at s)
          (λ x behind rest a at s r. to_choice _ strength _ x behind rest a s r);
    }

pub returns : goal.returns
returns g c = record {
  reads = read_on {B = AfterTest} {After = AssignsTo} 3 1 _ _ _ _ _ _ c.in_ok-first.ensures.reads c.assigned.ensures.reads (λ x rest r at s. assign_view _ _ x rest r at s)
      (λ x behind rest a at s r. to_assigned _ _ c.next_strength.ensures c.if-next_strength-eq3.false _ x behind rest a r);
}
