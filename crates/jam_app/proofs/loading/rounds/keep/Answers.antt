use Rattle.std.proofs.Common.{◌≡◌, ◌++◌, ◌∷◌, [], length, length-append, arith, ap, subst, sym, ◌∙◌}
use Rattle.std.proofs.lemmas.List.{append_assoc}
use Rattle.jam_app.specs.BetweenRounds.{found_at}
use Rattle.jam_app.proofs.Ends.{no_more}
use Rattle.jam_app.proofs.Keeping.{Kept, kept_more, kept_none}
use Rattle.jam_app.proofs.loading.rounds.keep.Goals as goal

pub loop-module-init : goal.loop-module-init
loop-module-init c = record { can = tt; finite = tt; parts = sym c.into_iter-module-iterator.ensures.into_iter_gives.0; few = omega arith; kept = kept_none (found_at c.args.kept.now) }

pub loop-module-preserved : goal.loop-module-preserved
loop-module-preserved c =
    let inv = c.loop-module.invariant in
    record {
      can = tt;
      finite = tt;
      parts = inv.parts ∙ ap (λ left. c.loop-module.yielded ++ left) c.in-Some.ensures.steps.0 ∙ sym (append_assoc c.loop-module.yielded (c.in-Some.module ∷ []) c.next.new.self.rest.items);
      few = omega (arith, inv.few, c.in_ok-put.ensures.few, length-append c.loop-module.yielded (c.in-Some.module ∷ []));
      kept = kept_more (found_at c.args.kept.now) c.loop-module.yielded c.in_ok-path.path c.in-Some.module c.in_ok-path.ensures c.loop-module.kept c.put.new.kept c.in_ok-put.ensures.updates inv.kept;
    }

pub returns-clause-here : goal.returns-clause-here
returns-clause-here c =
    let inv = c.loop-module.invariant in
    let all : c.args.modules.items ≡ c.loop-module.yielded = inv.parts ∙ no_more c.loop-module.yielded c.loop-module.module-iterator.rest.items _ c.loop-module.module-iterator.rest.ok.0 c.in-None.ensures.steps.0 in
    (subst (Kept (found_at c.args.kept.now) (found_at c.loop-module.kept)) (sym all) inv.kept).here

pub returns-clause-which : goal.returns-clause-which
returns-clause-which c =
    let inv = c.loop-module.invariant in
    let all : c.args.modules.items ≡ c.loop-module.yielded = inv.parts ∙ no_more c.loop-module.yielded c.loop-module.module-iterator.rest.items _ c.loop-module.module-iterator.rest.ok.0 c.in-None.ensures.steps.0 in
    (subst (Kept (found_at c.args.kept.now) (found_at c.loop-module.kept)) (sym all) inv.kept).which

pub returns-clause-few : goal.returns-clause-few
returns-clause-few c =
    let inv = c.loop-module.invariant in
    let all : c.args.modules.items ≡ c.loop-module.yielded = inv.parts ∙ no_more c.loop-module.yielded c.loop-module.module-iterator.rest.items _ c.loop-module.module-iterator.rest.ok.0 c.in-None.ensures.steps.0 in
    omega (arith, inv.few, ap length all)
