use Rattle.std.proofs.Common.{◌≡◌, ◌-◌, ℕ, Ok, inr, subst, arith}
use Rattle.js_parser.proofs.JoinLemmas.{binary_fails, joined_below}
use Rattle.js_parser.proofs.PlaceLemmas.{passes_none}
use Rattle.js_parser.proofs.ReadLemmas.{failed}
use Rattle.js_parser.specs.Nodes.{ReadsExpr}
use Rattle.js_parser.proofs.grammar.Grammar.binary.Goals as goal

pub returns-in_err-first : goal.returns-in_err-first
returns-in_err-first g c = record {
  reads = failed _ _ _ _ _ _ _ _ (passes_none _) c.in_err-first.ensures.reads.moves
      (λ x rest r at s. binary_fails _ 13 _ c.requires.least (omega (arith, c.requires.most)) (omega arith) _ _ _ c.in_err-first.ensures.reads x rest r at s) c.from_residual.ensures.1;
}

pub ranks-init : goal.ranks-init
ranks-init g c = record { least = c.requires.most; most = omega arith; reads = c.in_ok-first.ensures.reads }

pub returns-in_err-first-2 : goal.returns-in_err-first-2
returns-in_err-first-2 g c =
    let i = c.ranks.invariant in
    let lower = joined_below c.ranks.rank (c.ranks.rank - 1) _ (omega (arith, c.ranks-test.true)) (inr (omega (arith, c.requires.least, c.ranks-test.true), omega (arith, i.most))) _ _ _ _ _ i.reads c.in_err-first-2.ensures.reads in
    record {
      reads = failed _ _ _ _ _ _ _ _ i.reads.moves c.in_err-first-2.ensures.reads.moves
          (λ x rest r at s. binary_fails _ (c.ranks.rank - 1) _ c.requires.least (omega (arith, c.ranks-test.true)) (omega (arith, i.most)) _ _ _ lower x rest r at s) c.from_residual-in_err-first-2.ensures.1;
    }

pub ranks-preserved : goal.ranks-preserved
ranks-preserved g c =
    let i = c.ranks.invariant in
    record {
      least = omega (arith, c.ranks-test.true);
      most = omega (arith, i.most);
      reads = joined_below c.ranks.rank (c.ranks.rank - 1) _ (omega (arith, c.ranks-test.true)) (inr (omega (arith, c.requires.least, c.ranks-test.true), omega (arith, i.most))) _ _ _ _ _ i.reads c.in_ok-first-2.ensures.reads;
    }

pub returns : goal.returns
returns g c =
    let i = c.ranks.invariant in
    let same : c.ranks.rank ≡ c.args.lowest = omega (arith, i.least, c.ranks-test.false) in
    record { reads = subst (λ (k : ℕ). ReadsExpr k c.args.self.now.room c.args.reader.now c.ranks.reader (Ok c.ranks.first)) same i.reads }
