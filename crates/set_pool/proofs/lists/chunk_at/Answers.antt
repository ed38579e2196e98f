use Rattle.std.proofs.Common.{◌≡◌, ◌+◌, ◌-◌, ◌/◌, subst, arith}
use Rattle.set_pool.specs.Chains.{HasFront, chunk}
use Rattle.set_pool.proofs.ChainWalks.{front_below, front_earlier}
use Rattle.set_pool.proofs.lists.chunk_at.Goals as goal

pub overflow_sub-hop-end : goal.overflow_sub-hop-end
overflow_sub-hop-end c =
    let inside = c.requires.2.within in
    let few = c.requires.2.few in
    omega (arith, inside, few)

pub overflow_sub-hop-end-2 : goal.overflow_sub-hop-end-2
overflow_sub-hop-end-2 c =
    let inside = c.requires.2.within in
    let few = c.requires.2.few in
    omega (arith, inside, few)

pub loop-hop-init : goal.loop-hop-init
loop-hop-init c s row w = subst (λ n. HasFront c.args.chunks.now s row n c.args.end.chunk (c.args.place + 1)) (omega arith) w

pub bounds-chunks-chunk : goal.bounds-chunks-chunk
bounds-chunks-chunk c =
    let left = c.args.end.count - c.loop-hop._hop in
    front_below c.args.chunks.now c.requires.0 c.requires.1 left (left - 1) c.loop-hop.chunk (c.args.place + 1) (let t = c.loop-hop-test.true in omega (arith, t)) (c.loop-hop.invariant c.requires.0 c.requires.1 c.requires.2)

pub loop-hop-preserved : goal.loop-hop-preserved
loop-hop-preserved c s row w =
    let left = c.args.end.count - c.loop-hop._hop in
    let t = c.loop-hop-test.true in
    subst (λ n. HasFront c.args.chunks.now s row n (chunk c.args.chunks.now c.loop-hop.chunk).before (c.args.place + 1)) (omega arith)
    (front_earlier c.args.chunks.now s row left (left - 1) c.loop-hop.chunk (c.args.place + 1) (omega (arith, t)) (c.loop-hop.invariant s row w) (c.args.place + 1) (omega arith) (omega (arith, t)))

pub returns : goal.returns
returns c s row w =
    let f = c.loop-hop-test.false in
    let far = c.loop-hop.auto._hop-end in
    let inside = w.within in
    let few = w.few in
    subst (λ n. HasFront c.args.chunks.now s row n c.loop-hop.chunk (c.args.place + 1)) (omega (arith, f, far, inside, few)) (c.loop-hop.invariant s row w)
