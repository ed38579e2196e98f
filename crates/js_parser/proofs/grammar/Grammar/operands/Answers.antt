use Rattle.std.proofs.Common.{◌≡◌, ℕ, ◌+◌, ◌-◌, List, [], ◌∷◌, ◌++◌, sym, ap, ◌∙◌, arith, subst, max}
use Rattle.js_tree.specs.Pieces.{Piece}
use Rattle.js_tree.specs.Spelling.{expr}
use Rattle.js_tree.specs.Spelling.Nodes.{is_empty}
use Rattle.js_tree.specs.declared.lists.Further.{Further}
use Rattle.js_tree.specs.declared.tree.Expr.{Expr}
use Rattle.js_parser.proofs.ListLemmas.{Progress, begun, one_more, finished, refused, tallest-push}
use Rattle.js_parser.proofs.OperandLemmas.{IsOperand, tall_operand, operand_at, operand_is, operands_of, operands_at, operand_stops, goes_on, goes_no_further, some_pushed, none_first, by_first}
use Rattle.js_parser.proofs.PlaceLemmas.{passes_none}
use Rattle.js_parser.proofs.ReadLemmas.{want, gives, failed, refused_here}
use Rattle.js_parser.specs.Following.{Stops, IsStrength}
use Rattle.js_parser.specs.Nodes.{further_line, further_height}
use Rattle.js_parser.specs.declared.tall.Tall.{Tall}
use Rattle.js_parser.proofs.grammar.Grammar.operands.Goals as goal

-- what may follow an operand
abbrev Follows : ℕ → Further Expr → List Piece → Type 0
Follows rank y rest = Stops (rank + 1) rest

pub returns-then-next_strength-rank : goal.returns-then-next_strength-rank
returns-then-next_strength-rank g c = record {
  reads = refused_here _ _ _ _ _ _ c.refusal.ensures (λ x rest r at s. none_first _ _ _ c.requires.rank _ c.next_strength.ensures c.if-next_strength-rank.true x rest at r);
}

pub returns-in_err-first : goal.returns-in_err-first
returns-in_err-first g c = record {
  reads = failed _ _ _ _ _ _ _ _ (passes_none _) c.in_err-first.ensures.reads.moves
      (λ x rest r at s. by_first _ _ c.requires.rank _ x rest at s r (λ y more q is stops. want _ _ _ (c.in_err-first.ensures.reads.only (tall_operand y) more q (operand_at _ _ y is) stops))) c.from_residual.ensures.1;
}

pub operands-init : goal.operands-init
operands-init g c =
    let first : Further Expr = c.in_ok-first.field-0.node in
    let w = c.in_ok-first.ensures.reads in
    let all_is : c.push.new.self ≡ first ∷ [] = c.in_ok-push.ensures.ok ∙ ap (λ xs. xs ++ first ∷ []) c.new-all.ensures in
    let strength : IsStrength c.args.reader.now (c.args.rank + 1) = subst (IsStrength c.args.reader.now) c.if-next_strength-rank.false c.next_strength.ensures in
    record {
      progress = subst (λ (xs : List (Further Expr)). Progress (further_line c.args.rank) (IsOperand c.args.rank (c.args.self.now.room - 1)) (Stops c.args.rank) c.args.reader.now xs c.operand.new.reader) (sym all_is)
          (one_more (further_line c.args.rank) (IsOperand c.args.rank (c.args.self.now.room - 1)) (Stops c.args.rank) (Follows c.args.rank) _ _ _ [] first
          (begun (further_line c.args.rank) (IsOperand c.args.rank (c.args.self.now.room - 1)) (Stops c.args.rank) (Follows c.args.rank) _)
          w.found.0 (operand_is _ _ _ w.found.1) w.moves
          (λ y more q is stops. let a = w.only (tall_operand y) more q (operand_at _ _ y is) stops in (ap (λ (t : Tall (Further Expr)). t.node) a.0, a.1))
          (λ rest s q. goes_on _ _ strength rest s q)
          (λ y ys rest all s. operand_stops _ c.requires.rank ys rest s));
      some = ap is_empty all_is;
      height = let h : further_height c.push.new.self ≡ max (expr first.item).height 0 = ap further_height all_is in omega (arith, w.found.1.height, h);
      shorter = w.shorter;
    }

pub returns-in_err-next : goal.returns-in_err-next
returns-in_err-next g c =
    let i = c.operands.invariant in
    let strength : IsStrength c.operands.reader (c.args.rank + 1) = subst (IsStrength c.operands.reader) c.operands-test.true c.next_strength-in-operands.ensures in
    record {
      reads = failed _ _ _ _ _ _ _ _ i.progress.passes c.in_err-next.ensures.reads.moves
          (λ x rest r at s. want x (Unit {0}) _
          (refused (further_line c.args.rank) (IsOperand c.args.rank (c.args.self.now.room - 1)) (Stops c.args.rank) (Follows c.args.rank) _ _ c.operand-in-operands.new.reader _ _ i.progress
          (λ y more q is stops. gives y _ _ (want _ _ _ (c.in_err-next.ensures.reads.only (tall_operand y) more q (operand_at _ _ y is) stops)))
          (λ more ends q. goes_on _ _ strength more ends q)
          (λ y ys more all ends. operand_stops _ c.requires.rank ys more ends)
          x.node rest r (operands_of _ _ x at) s x (Unit {0}))) c.from_residual-in_err-next.ensures.1;
    }

pub operands-smaller : goal.operands-smaller
operands-smaller g c = c.in_ok-next.ensures.reads.shorter

pub operands-preserved : goal.operands-preserved
operands-preserved g c =
    let i = c.operands.invariant in
    let next : Further Expr = c.in_ok-next.field-0.node in
    let w = c.in_ok-next.ensures.reads in
    let all_is : c.push-in-operands.new.self ≡ c.operands.all ++ next ∷ [] = c.in_ok-push-2.ensures.ok in
    let strength : IsStrength c.operands.reader (c.args.rank + 1) = subst (IsStrength c.operands.reader) c.operands-test.true c.next_strength-in-operands.ensures in
    record {
      progress = subst (λ (xs : List (Further Expr)). Progress (further_line c.args.rank) (IsOperand c.args.rank (c.args.self.now.room - 1)) (Stops c.args.rank) c.args.reader.now xs c.operand-in-operands.new.reader) (sym all_is)
          (one_more (further_line c.args.rank) (IsOperand c.args.rank (c.args.self.now.room - 1)) (Stops c.args.rank) (Follows c.args.rank) _ _ _ c.operands.all next i.progress
          w.found.0 (operand_is _ _ _ w.found.1) w.moves
          (λ y more q is stops. let a = w.only (tall_operand y) more q (operand_at _ _ y is) stops in (ap (λ (t : Tall (Further Expr)). t.node) a.0, a.1))
          (λ rest s q. goes_on _ _ strength rest s q)
          (λ y ys rest all s. operand_stops _ c.requires.rank ys rest s));
      some = ap is_empty all_is ∙ some_pushed c.operands.all next;
      height = c.higher-height.ensures ∙ (λ k. max (i.height k) (w.found.1.height k)) ∙ sym (tallest-push (λ (y : Further Expr). (expr y.item).height) c.operands.all next) ∙ sym (ap further_height all_is);
      shorter = omega (arith, i.shorter, w.shorter);
    }

pub returns : goal.returns
returns g c =
    let i = c.operands.invariant in
    record {
      reads = record {
        found = (i.progress.found, operands_at _ _ _ c.operands.all i.progress.good i.some i.height);
        only = λ x rest r at s.
            let a = finished (further_line c.args.rank) (IsOperand c.args.rank (c.args.self.now.room - 1)) (Stops c.args.rank) (Follows c.args.rank) _ _ _ i.progress
            (λ y more q. goes_no_further _ _ c.requires.rank _ c.next_strength-in-operands.ensures c.operands-test.false y more q) x.node rest r (operands_of _ _ x at) s in
            (λ k. record { node = a.0 k; height = (i.height ∙ ap further_height a.0 ∙ sym at.height) k }, a.1);
        moves = i.progress.passes;
        shorter = i.shorter;
      };
    }
