use Rattle.std.proofs.Common.{◌≡◌, ◌<◌, true, length, ℕ, arith, sym, ◌∙◌, ap, refl}
use Rattle.set_pool.specs.Sets.{is_in}
use Rattle.set_pool.specs.Tables.{home_of, none, slot, taken, walk}
use Rattle.set_pool.proofs.TableLemmas.{absent_on_way}
use Rattle.set_pool.proofs.WalkLemmas.{all_taken, taken_all}
use Rattle.set_pool.proofs.table.spot_of.Goals as goal

pub returns-then-there : goal.returns-then-there
returns-then-there c =
    let i = c.loop-turn.invariant in
    let here : slot c.args.table.now (walk (length c.args.table.now) (home_of (length c.args.table.now) c.args.value) c.loop-turn._turn) ≡ none =
    ap (slot c.args.table.now) (sym i.at) ∙ c.if-there.true in
    record {
      within = i.within;
      free = c.if-there.true;
      absent = absent_on_way c.args.table.now c.args.value c.loop-turn._turn c.requires.value c.requires.probed here i.passed;
      way = record { steps = c.loop-turn._turn; ends = sym i.at; taken = i.taken };
    }

pub returns : goal.returns
returns c =
    let i = c.loop-turn.invariant in
    let below : home_of (length c.args.table.now) c.args.value < length c.args.table.now = rw (← c.home-place.ensures.home) c.home-place.ensures.within in
    let all = taken_all c.args.table.now (all_taken c.args.table.now (home_of (length c.args.table.now) c.args.value) below (λ e lt. i.taken e (omega (arith, lt, c.loop-turn-test.false)))) in
    absurd (omega (arith, all, c.requires.room))
