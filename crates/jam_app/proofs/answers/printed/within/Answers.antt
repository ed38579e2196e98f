use Rattle.std.proofs.Common.{ℕ, List, ◌<◌, refl, sym, subst, arith}
use Rattle.std.specs.Prelude.{All}
use Rattle.std.specs.Str.{IsCharBoundary}
use Rattle.std.proofs.lemmas.List.Elements.{All-push}
use Rattle.jam_app.proofs.Within.{spots_more}
use Rattle.jam_app.proofs.answers.printed.within.Goals as goal

pub loop-offset-preserved : goal.loop-offset-preserved
loop-offset-preserved c =
    let text = c.args.text.now in
    let made = c.loop-offset.made.items in
    let floor = c.floor_char_boundary.ensures in
    let r = c.floor_char_boundary.result in
    record {
      spots = spots_more text made c.push.new.self.items c.args.offsets.now c.loop-offset.offset-index _ r c.utf8.text floor.bound floor.boundary floor.nearest c.loop-offset-test.true refl c.in_ok-push.ensures.items c.loop-offset.invariant.spots;
      below = subst (All (λ (o : ℕ). o < 4294967295)) (sym {A = List ℕ} c.in_ok-push.ensures.items) (All-push (λ (o : ℕ). o < 4294967295) made r c.loop-offset.invariant.below (omega (arith, floor.boundary.0, c.requires)));
      boundaries = subst (All (IsCharBoundary text)) (sym {A = List ℕ} c.in_ok-push.ensures.items) (All-push (IsCharBoundary text) made r c.loop-offset.invariant.boundaries floor.boundary);
    }
