use Rattle.std.proofs.Common.{◌-◌, max, sym, ap, ◌∙◌, subst, arith, List}
use Rattle.js_tree.specs.Spelling.{slot}
use Rattle.js_tree.specs.Spelling.Nodes.{ASSIGN}
use Rattle.js_tree.specs.declared.lists.Further.{Further}
use Rattle.js_tree.specs.declared.tree.Slot.{Slot}
use Rattle.js_parser.proofs.ListLemmas.{Progress, begun, one_more, finished, refused, tallest-push}
use Rattle.js_parser.proofs.ReadLemmas.{want, gives, failed_maybe}
use Rattle.js_parser.proofs.SlotLemmas.{IsFurtherSlot, further_at, further_tall, no_slot, slot_stops, slots_at, slots_of, some_slot, tall_further}
use Rattle.js_parser.specs.Following.{Stops}
use Rattle.js_parser.specs.Nodes.{further_slot_line}
use Rattle.js_parser.specs.declared.tall.Tall.{Tall}
use Rattle.js_parser.proofs.grammar.Grammar.further_slots.Goals as goal

pub slots-init : goal.slots-init
slots-init g c = record {
  progress = subst (λ (body : List (Further Slot)). Progress further_slot_line (IsFurtherSlot (c.args.self.now.room - 1)) (Stops 0) c.args.reader.now body c.args.reader.now) (sym c.new-all.ensures)
      (begun further_slot_line (IsFurtherSlot (c.args.self.now.room - 1)) (Stops 0) (λ y. Stops ASSIGN) c.args.reader.now);
  height = sym (ap further_tall c.new-all.ensures);
  shorter = omega arith;
}

pub returns-in_err-node : goal.returns-in_err-node
returns-in_err-node g c = record {
  reads = failed_maybe _ _ _ _ _ _ _ _ c.slots.invariant.progress.passes c.in_err-node.ensures.reads.moves
      (λ x rest r at s. want _ _ _
      (refused further_slot_line (IsFurtherSlot (c.args.self.now.room - 1)) (Stops 0) (λ y. Stops ASSIGN) _ _ c.further_slot.new.reader _ _ c.slots.invariant.progress
      (λ y more t h after. gives y _ _ (want _ _ _ (c.in_err-node.ensures.reads.only (tall_further y) more t (further_at _ y h) after)))
      (λ more ends t. some_slot _ _ c.kind.ensures (sym c.are_same.ensures ∙ c.slots-test.true) more ends t)
      (λ y ys more each ends. slot_stops ys more ends)
      x.node rest r (slots_of _ x at) s x.node (Unit {0}))) c.from_residual.ensures.1;
}

pub slots-preserved : goal.slots-preserved
slots-preserved g c = record {
  progress = subst (λ (body : List (Further Slot)). Progress further_slot_line (IsFurtherSlot (c.args.self.now.room - 1)) (Stops 0) c.args.reader.now body c.further_slot.new.reader) (sym c.in_ok-push.ensures.ok)
      (one_more further_slot_line (IsFurtherSlot (c.args.self.now.room - 1)) (Stops 0) (λ y. Stops ASSIGN) _ _ _ _ c.in_ok-node.field-0.node c.slots.invariant.progress
      c.in_ok-node.ensures.reads.found.0
      (c.in_ok-node.ensures.reads.found.1.stands, omega (arith, c.in_ok-node.ensures.reads.found.1.height, c.in_ok-node.ensures.reads.found.1.fits))
      c.in_ok-node.ensures.reads.moves
      (λ y more t h after. let a = c.in_ok-node.ensures.reads.only (tall_further y) more t (further_at _ y h) after in (ap (λ (z : Tall (Further Slot)). z.node) a.0, a.1))
      (λ more ends t. some_slot _ _ c.kind.ensures (sym c.are_same.ensures ∙ c.slots-test.true) more ends t)
      (λ y ys more each ends. slot_stops ys more ends));
  height = c.higher-height.ensures ∙ (λ i. max (c.slots.invariant.height i) (c.in_ok-node.ensures.reads.found.1.height i))
      ∙ sym (tallest-push (λ (y : Further Slot). (slot y.item).height) c.slots.all c.in_ok-node.field-0.node) ∙ sym (ap further_tall c.in_ok-push.ensures.ok);
  shorter = omega (arith, c.slots.invariant.shorter, c.in_ok-node.ensures.reads.shorter);
}

pub slots-smaller : goal.slots-smaller
slots-smaller g c = omega (arith, c.in_ok-node.ensures.reads.shorter)

pub returns : goal.returns
returns g c = record {
  reads = record {
    found = (c.slots.invariant.progress.found, slots_at _ _ _ c.slots.invariant.progress.good c.slots.invariant.height);
    only = λ x rest r at s.
        let a = finished further_slot_line (IsFurtherSlot (c.args.self.now.room - 1)) (Stops 0) (λ y. Stops ASSIGN) _ _ _ c.slots.invariant.progress
        (λ y more t. no_slot _ _ c.kind.ensures (sym c.are_same.ensures ∙ c.slots-test.false) y more t) x.node rest r (slots_of _ x at) s in
        (λ i. record { node = a.0 i; height = (c.slots.invariant.height ∙ ap further_tall a.0 ∙ sym at.height) i }, a.1);
    moves = c.slots.invariant.progress.passes;
    shorter = c.slots.invariant.shorter;
  };
}
