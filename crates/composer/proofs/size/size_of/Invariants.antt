use Rattle.std.proofs.Common.{◌≡◌, ◌+◌, ◌*◌, ◌≤◌, length, take, sum_by}
use Rattle.composer.specs.declared.application.Part.{Part}
use Rattle.composer.specs.Sizes.{module_size}
use Rattle.composer.proofs.size.size_of.Given as goal

abbrev pub invariant-loop-part : goal.invariant-loop-part
invariant-loop-part l = record {
  size : l.size ≡ 100 + sum_by (λ (p : Part). module_size p.summary.made p.summary.lists) (take l.part-index l.parts);
  enough : 100 + sum_by (λ (p : Part). module_size (length p.summary.lists.flows) p.summary.lists) (take l.part-index l.parts) ≤ l.size;
  bounded : l.size ≤ 100 + l.part-index * 73786976294838206464;
}
