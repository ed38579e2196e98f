use Rattle.std.proofs.Common.{◌≡◌, ◌-◌, ◌<◌, length, get_or, drop, ap, ◌∙◌, arith, not, false}
use Rattle.std.specs.Prelude.{◌==◌}
use Rattle.std.specs.List.{suffix_len}
use Rattle.std.proofs.lemmas.List.{take_all, length-drop}
use Rattle.std.proofs.lemmas.List.Sums.{suffix_len_is}
use Rattle.std.proofs.lemmas.Bool.Decides.{nat_tests}
use Rattle.node_resolve.proofs.shape.last_part.Goals as goal
use Rattle.node_resolve.proofs.shape.last_part.Goals.{then-loop-start-test+else-text-start-ne47, else-loop-start-test}

pub returns : goal.returns
returns c =
    let text = c.args.text.now in
    let start = c.loop-start.start in
    let slash : 0 < start → not (get_or text (start - 1) 0 == 47) ≡ false = λ some.
    elim c.loop-start-test.branch [ then-loop-start-test+else-text-start-ne47 w ↦ grind (arith, nat_tests) | else-loop-start-test w ↦ absurd (omega arith) ] in
    let size : suffix_len (λ b. not (b == 47)) text ≡ length text - start =
    suffix_len_is (λ b. not (b == 47)) text start 0 c.loop-start.invariant.within c.loop-start.invariant.behind slash in
    let same : start ≡ length text - suffix_len (λ b. not (b == 47)) text = omega arith in
    take_all (length text - start) (drop start text) (omega (arith, length-drop start text)) ∙ ap (λ n. drop n text) same
