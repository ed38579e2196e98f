use Rattle.std.proofs.Common.{◌≡◌, ◌+◌, ◌/◌, ◌%◌, ◌∷◌, ◌++◌, [], ap, ◌∙◌, subst, refl, arith}
use Rattle.set_pool.specs.Chains.{HasFront, chunk}
use Rattle.set_pool.proofs.ChainWalks.{front_below, front_earlier, front_here, front_shorter}
use Rattle.set_pool.proofs.lists.push_value.Goals as goal

pub bounds-chunks-chunk : goal.bounds-chunks-chunk
bounds-chunks-chunk c = front_below c.args.chunks.now c.requires.0 c.requires.1 (c.args.place / 15 + 1) (c.args.place / 15) c.args.chunk (c.args.place + 1) (omega arith) c.requires.2

pub returns-then-place-eq0-clause-value : goal.returns-then-place-eq0-clause-value
returns-then-place-eq0-clause-value c s row w =
    let here = front_here c.args.chunks.now s row (c.args.place / 15 + 1) (c.args.place / 15) c.args.chunk (c.args.place + 1) (omega arith) w c.args.place (omega arith) refl in
    c.in_ok-push.ensures.items ∙ ap (λ x. c.args.out.now.items ++ x ∷ []) here

pub returns-then-place-eq0-clause-before : goal.returns-then-place-eq0-clause-before
returns-then-place-eq0-clause-before c s row w =
    let z = c.if-place-eq0.true in
    subst (λ n. HasFront c.args.chunks.now s row n (chunk c.args.chunks.now c.args.chunk).before c.args.place) (omega (arith, z))
    (front_earlier c.args.chunks.now s row (c.args.place / 15 + 1) (c.args.place / 15) c.args.chunk (c.args.place + 1) (omega arith) w c.args.place (omega arith) (omega (arith, z)))

pub returns-clause-value : goal.returns-clause-value
returns-clause-value c s row w =
    let here = front_here c.args.chunks.now s row (c.args.place / 15 + 1) (c.args.place / 15) c.args.chunk (c.args.place + 1) (omega arith) w c.args.place (omega arith) refl in
    c.in_ok-push.ensures.items ∙ ap (λ x. c.args.out.now.items ++ x ∷ []) here

pub returns-clause-before : goal.returns-clause-before
returns-clause-before c s row w =
    let z = c.if-place-eq0.false in
    subst (λ n. HasFront c.args.chunks.now s row n c.args.chunk c.args.place) (omega (arith, z))
    (front_shorter c.args.chunks.now s row (c.args.place / 15 + 1) (c.args.place / 15) c.args.chunk (c.args.place + 1) (omega arith) w c.args.place (omega arith))
