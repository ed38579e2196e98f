use Rattle.std.proofs.Common.{◌≡◌, ◌++◌, map}
use Rattle.std.specs.Prelude.{All}
use Rattle.jam_app.specs.declared.loading.module.Parsed.{Parsed}
use Rattle.jam_app.specs.Reading.{IsParsed}
use Rattle.jam_app.proofs.loading.module.parsed_round.Given as goal

abbrev pub invariant-loop-source : goal.invariant-loop-source
invariant-loop-source g l = record {
  can : (goal.iterator-loop-source g).can_next l.source-iterator;
  finite : (goal.iterator-loop-source g).is_finite l.source-iterator;
  parts : l.fn.sources.items ≡ l.yielded ++ l.source-iterator.rest.items;
  are : map (λ (p : Parsed). p.source) l.made.items ≡ l.yielded;
  parsed : All (IsParsed l.skip) l.made.items;
}
