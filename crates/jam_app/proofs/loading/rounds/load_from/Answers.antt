use Rattle.std.proofs.Common.{◌≡◌, ◌<◌, [], ◌∷◌, inl, inr, ap, Bool, Option, ℕ, List, length, arith, refl, sym, subst, ◌∙◌}
use Rattle.std.specs.Option.{IfSome}
use Rattle.std.specs.Prelude.{Contains}
use Rattle.composer.proofs.Members.{here, none}
use Rattle.jam_app.specs.declared.loading.rounds.Progress.{Progress}
use Rattle.jam_app.specs.BetweenRounds.{Stands}
use Rattle.jam_app.specs.Entries.{begun}
use Rattle.jam_app.specs.Refusals.{IsLoadRefusal}
use Rattle.jam_app.proofs.Ends.{is_nothing, not_empty}
use Rattle.jam_app.proofs.Causes.{any_files, both_told, counts_on, handed_on, told}
use Rattle.jam_app.proofs.Whole.{whole_from, listed_analysed, listed_ascend, listed_has, listed_long, nothing_held, stands_first}
use Rattle.jam_app.proofs.loading.rounds.load_from.Goals as goal

pub loop-alloc-init : goal.loop-alloc-init
loop-alloc-init g c =
    let progress : Progress = record { modules = c.new.result; size = record { modules = 0; bytes = 0 } } in
    let round : c.in_ok-round.round.items ≡ c.args.first ∷ [] = c.in_ok-round.ensures.items ∙ ap (λ p. p ∷ []) c.in_ok-copy.ensures in
    record {
      stands = any_files (g.F.Folder.files c.args.folder.now) (λ m asked found. subst (Stands (begun asked c.args.skip) m progress) (sym round)
          (stands_first m (begun asked c.args.skip) c.args.first progress found c.new.ensures.empty refl));
      held = nothing_held c.new.result c.new.ensures.empty;
      few = omega (arith, c.new.ensures.len);
      there = inr (subst (λ (ps : List (List ℕ)). Contains ps c.args.first) (sym round) (here c.args.first []));
      modules = omega arith;
      bytes = omega arith;
      same = refl;
      quiet = refl;
    }

pub loop-alloc-preserved : goal.loop-alloc-preserved
loop-alloc-preserved g c =
    let inv = c.loop-alloc.invariant in
    let files = g.F.Folder.files c.args.folder.now in
    let old = c.loop-alloc.progress in
    let new = c.load_round.new.progress in
    let step : IfSome files (λ m. (entry : Option (List ℕ)) → Stands (begun entry c.args.skip) m old c.loop-alloc.round.items → Stands (begun entry c.args.skip) m new c.in_ok-round-2.round.items)
    = subst (λ fs. IfSome fs (λ m. (entry : Option (List ℕ)) → Stands (begun entry c.args.skip) m old c.loop-alloc.round.items → Stands (begun entry c.args.skip) m new c.in_ok-round-2.round.items)) inv.same c.in_ok-round-2.ensures.gives in
    record {
      stands = both_told files inv.stands step (λ m stands next asked found. next asked (stands asked found));
      held = c.in_ok-round-2.ensures.held;
      few = c.in_ok-round-2.ensures.few;
      there = inl (c.in_ok-round-2.ensures.there c.args.first inv.there);
      modules = c.in_ok-round-2.ensures.modules;
      bytes = c.in_ok-round-2.ensures.bytes;
      same = c.in_ok-round-2.ensures.same ∙ inv.same;
      quiet = c.in_ok-round-2.ensures.counts.done ∙ inv.quiet;
    }

pub loop-alloc-smaller : goal.loop-alloc-smaller
loop-alloc-smaller g c =
    let some : 0 < length c.loop-alloc.round.items = not_empty c.loop-alloc.round.items _ c.is_empty.result c.loop-alloc.round.ok.0 c.is_empty.ensures c.loop-alloc-test.true in
    omega (arith, c.in_ok-round-2.ensures.counted, c.in_ok-round-2.ensures.modules, some)

pub returns-in_err-round-2-clause-gives : goal.returns-in_err-round-2-clause-gives
returns-in_err-round-2-clause-gives g c =
    let inv = c.loop-alloc.invariant in
    let files = g.F.Folder.files c.args.folder.now in
    handed_on _ (λ m owed. (entry : Option (List ℕ)) → Stands (begun entry c.args.skip) m c.loop-alloc.progress c.loop-alloc.round.items → IsLoadRefusal (begun entry c.args.skip) m owed) _ files _ _ _ _ c.in_err-round-2.field-0.0 c.from_residual-in_err-round-2.result
    c.from_residual-in_err-round-2.ensures.1 inv.same (omega (arith, inv.quiet)) (told files inv.stands (λ m stands owed refused asked found. refused asked (stands asked found))) c.in_err-round-2.ensures.gives

pub returns-clause-gives : goal.returns-clause-gives
returns-clause-gives g c =
    let none : c.loop-alloc.round.items ≡ [] = is_nothing c.loop-alloc.round.items _ c.is_empty.result c.loop-alloc.round.ok.0 c.is_empty.ensures c.loop-alloc-test.false in
    told (g.F.Folder.files c.args.folder.now) c.loop-alloc.invariant.stands (λ m stands asked found.
    whole_from m (begun asked c.args.skip) c.loop-alloc.progress c.args.first (subst (Stands (begun asked c.args.skip) m c.loop-alloc.progress) none (stands asked found)) found c.in_ok-modules.modules.items c.loop-alloc.invariant.modules c.loop-alloc.invariant.bytes
    c.in_ok-modules.ensures.ordered c.in_ok-modules.ensures.listed)

pub returns-clause-sorted : goal.returns-clause-sorted
returns-clause-sorted g c = listed_ascend c.loop-alloc.progress.modules c.in_ok-modules.modules.items c.loop-alloc.invariant.held c.in_ok-modules.ensures.ordered c.in_ok-modules.ensures.listed

pub returns-clause-analysed : goal.returns-clause-analysed
returns-clause-analysed g c = listed_analysed c.loop-alloc.progress.modules c.in_ok-modules.modules.items c.loop-alloc.invariant.held c.in_ok-modules.ensures.ordered c.in_ok-modules.ensures.listed

pub returns-clause-entry : goal.returns-clause-entry
returns-clause-entry g c =
    let no_round : c.loop-alloc.round.items ≡ [] = is_nothing c.loop-alloc.round.items _ c.is_empty.result c.loop-alloc.round.ok.0 c.is_empty.ensures c.loop-alloc-test.false in
    listed_has c.loop-alloc.progress.modules c.in_ok-modules.modules.items c.loop-alloc.invariant.held c.in_ok-modules.ensures.ordered c.in_ok-modules.ensures.listed c.args.first
    (elim c.loop-alloc.invariant.there [ inl found ↦ found | inr in_round ↦ absurd (none c.args.first (subst (λ (ps : List (List ℕ)). Contains ps c.args.first) no_round in_round)) ])

pub returns-clause-few : goal.returns-clause-few
returns-clause-few g c =
    let long = listed_long c.loop-alloc.progress.modules c.in_ok-modules.modules.items c.loop-alloc.invariant.held c.in_ok-modules.ensures.ordered c.in_ok-modules.ensures.listed in
    omega (arith, long, c.loop-alloc.invariant.few, c.loop-alloc.invariant.modules)

pub returns-in_err-round-2-clause-counts : goal.returns-in_err-round-2-clause-counts
returns-in_err-round-2-clause-counts g c = counts_on _ _ _ c.in_err-round-2.field-0.0 c.from_residual-in_err-round-2.result c.from_residual-in_err-round-2.ensures.1 c.loop-alloc.invariant.quiet c.in_err-round-2.ensures.counts
