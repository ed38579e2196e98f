use Rattle.std.proofs.Common.{◌-◌, max, sym, ap, ◌∙◌, subst, arith, List}
use Rattle.js_tree.specs.Pieces.{Piece}
use Rattle.js_tree.specs.Spelling.{tallest_of}
use Rattle.js_tree.specs.declared.lists.Tail.{Tail}
use Rattle.js_tree.specs.declared.tree.Expr.{Expr}
use Rattle.js_parser.proofs.ListLemmas.{Progress, begun, one_more, finished_by, refused, tallest-push}
use Rattle.js_parser.proofs.ReadLemmas.{want, gives, failed_maybe}
use Rattle.js_parser.proofs.TailLemmas.{IsTail, tail_is, may_stand, no_tail, some_tail, tail_at, tails_at, tails_of, tall_tail}
use Rattle.js_parser.specs.Following.{NoKind, begins_tail}
use Rattle.js_parser.specs.Nodes.{tail_height, tail_line}
use Rattle.js_parser.specs.declared.tall.Tall.{Tall}
use Rattle.js_parser.proofs.grammar.Grammar.tails.Goals as goal

-- any pieces may follow a tail
abbrev After : Tail Expr → List Piece → Type 0
After t rest = Unit {0}

pub tails-init : goal.tails-init
tails-init g c = record {
  progress = subst (λ (body : List (Tail Expr)). Progress tail_line (IsTail c.args.calls (c.args.self.now.room - 1)) (NoKind (begins_tail c.args.calls)) c.args.reader.now body c.args.reader.now) (sym c.new-all.ensures)
      (begun tail_line (IsTail c.args.calls (c.args.self.now.room - 1)) (NoKind (begins_tail c.args.calls)) After c.args.reader.now);
  height = sym (ap (tallest_of tail_height) c.new-all.ensures);
  shorter = omega arith;
}

pub returns-in_err-node : goal.returns-in_err-node
returns-in_err-node g c = record {
  reads = failed_maybe _ _ _ _ _ _ _ _ c.tails.invariant.progress.passes c.in_err-node.ensures.reads.moves
      (λ x rest r at s. want _ _ _
      (refused tail_line (IsTail c.args.calls (c.args.self.now.room - 1)) (NoKind (begins_tail c.args.calls)) After _ _ c.tail.new.reader _ _ c.tails.invariant.progress
      (λ y more q good after. gives y _ _ (want _ _ _ (c.in_err-node.ensures.reads.only (tall_tail y) more q (tail_at _ _ y good) tt)))
      (λ more ends q. some_tail c.args.calls _ _ c.kind.ensures (sym c.begins_tail.ensures ∙ c.tails-test.true) more ends q)
      (λ y ys more each ends. tt)
      x.node rest r (tails_of _ _ x at) s x.node (Unit {0}))) c.from_residual.ensures.1;
}

pub tails-preserved : goal.tails-preserved
tails-preserved g c =
    let i = c.tails.invariant in
    let w = c.in_ok-node.ensures.reads in
    let here = sym c.begins_tail.ensures ∙ c.tails-test.true in
    record {
      progress = subst (λ (body : List (Tail Expr)). Progress tail_line (IsTail c.args.calls (c.args.self.now.room - 1)) (NoKind (begins_tail c.args.calls)) c.args.reader.now body c.tail.new.reader) (sym c.in_ok-push.ensures.ok)
          (one_more tail_line (IsTail c.args.calls (c.args.self.now.room - 1)) (NoKind (begins_tail c.args.calls)) After _ _ _ _ c.in_ok-node.field-0.node i.progress
          w.found.0 (tail_is c.args.calls _ c.in_ok-node.field-0 w.found.1 (may_stand c.args.calls _ _ c.in_ok-node.field-0.node c.kind.ensures here c.in_ok-node.ensures.call)) w.moves
          (λ y more q good after. let a = w.only (tall_tail y) more q (tail_at _ _ y good) tt in (ap (λ (z : Tall (Tail Expr)). z.node) a.0, a.1))
          (λ more ends q. some_tail c.args.calls _ _ c.kind.ensures here more ends q)
          (λ y ys more each ends. tt));
      height = c.higher-height.ensures ∙ (λ k. max (i.height k) (w.found.1.height k)) ∙ sym (tallest-push tail_height c.tails.all c.in_ok-node.field-0.node) ∙ sym (ap (tallest_of tail_height) c.in_ok-push.ensures.ok);
      shorter = omega (arith, i.shorter, w.shorter);
    }

pub tails-smaller : goal.tails-smaller
tails-smaller g c = omega (arith, c.in_ok-node.ensures.reads.shorter)

pub returns : goal.returns
returns g c =
    let i = c.tails.invariant in
    record {
      reads = record {
        found = (i.progress.found, tails_at _ _ _ c.tails.all i.progress.good i.height);
        only = λ x rest r at s.
            let a = finished_by tail_line (IsTail c.args.calls (c.args.self.now.room - 1)) (NoKind (begins_tail c.args.calls)) After _ _ _ i.progress
            (λ y more q good. no_tail c.args.calls _ _ _ c.kind.ensures (sym c.begins_tail.ensures ∙ c.tails-test.false) y more q good) x.node rest r (tails_of _ _ x at) s in
            (λ k. record { node = a.0 k; height = (i.height ∙ ap (tallest_of tail_height) a.0 ∙ sym at.height) k }, a.1);
        moves = i.progress.passes;
        shorter = i.shorter;
      };
    }
