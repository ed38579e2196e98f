use Rattle.js_tokens.specs.declared.fault.TokenFault.TheVariants as fault
use Rattle.std.proofs.Common.{◌≡◌, ◌-◌, ℕ, max, sym, ap, ◌∙◌, subst, arith, List, None}
use Rattle.js_tree.specs.Pieces.{Onto}
use Rattle.js_tree.specs.declared.lists.Bracket.{Bracket}
use Rattle.js_tree.specs.declared.lists.Element.{Element}
use Rattle.js_tree.specs.declared.lists.Listed.{Listed}
use Rattle.js_tree.specs.declared.token_kind.TokenKind.TheVariants as kinds
use Rattle.js_tree.specs.declared.tree.Expr.{Expr}
use Rattle.js_parser.proofs.ArgumentLemmas.{AfterArgument, IsArgument, argument_at, argument_height, argument_line, arguments_tall, goes, no_argument, tall_argument}
use Rattle.js_parser.proofs.BeginLemmas.{with_mark}
use Rattle.js_parser.proofs.BracketLemmas.{Good, Within, both_not, bracket_good, closing, comma_refused, good_bracket, inside, inside_height, item_refused, not_both, puts_height, within_all, within_more, within_none}
use Rattle.js_parser.proofs.PlaceLemmas.{passes_none, passes_on}
use Rattle.js_parser.proofs.ReadLemmas.{want, failed}
use Rattle.js_parser.specs.Nodes.{ArgumentsAt, argument_stands}
use Rattle.js_parser.specs.declared.tall.Tall.{Tall}
use Rattle.js_parser.proofs.grammar.Grammar.arguments.Goals as goal

-- what stands behind `(`
abbrev behind_open : ℕ → Tall (Bracket Expr) → Onto
behind_open room x rest = inside argument_line (IsArgument room) AfterArgument x.node.front x.node.last (closing x.node.close rest)

good_in : (room : ℕ) (x : Tall (Bracket Expr)) → ArgumentsAt room x → Good argument_line (IsArgument room) AfterArgument x.node.front x.node.last
good_in room x at = bracket_good argument_line argument_stands argument_height room AfterArgument x.node x.height at.each (at.height ∙ arguments_tall x.node) at.fits

pub returns-in_err-open : goal.returns-in_err-open
returns-in_err-open g c = record {
  reads = failed _ _ _ _ _ _ _ _ (passes_none _) c.in_err-open.ensures.moves
      (λ x rest r at s. want _ _ _ (c.in_err-open.ensures.only x.node.«open» (behind_open (c.args.self.now.room - 1) x rest) r tt tt)) c.from_residual.ensures.1;
}

pub returns-in_err-item : goal.returns-in_err-item
returns-in_err-item g c = record {
  reads = failed _ _ _ _ _ _ _ _ (passes_on _ _ _ c.in_ok-open.ensures.moves c.arguments.invariant.within.passes) c.in_err-item.ensures.reads.moves
      (λ x rest r at s.
      let t = both_not _ _ (sym c.goes_on.ensures ∙ c.arguments-test.true) in
      let g0 = c.in_ok-open.ensures.only x.node.«open» (behind_open (c.args.self.now.room - 1) x rest) r tt tt in
      item_refused argument_line (IsArgument (c.args.self.now.room - 1)) AfterArgument _ _ _ _ _ t.0 c.arguments.invariant.within (goes (c.args.self.now.room - 1) _ _ c.kind.ensures t.1)
      (λ y more n good after. want _ _ _ (c.in_err-item.ensures.reads.only (tall_argument y) more n (argument_at (c.args.self.now.room - 1) y good) after))
      x.node.front x.node.last x.node.close rest g0.1 (good_in (c.args.self.now.room - 1) x at)) c.from_residual-in_err-item.ensures.1;
}

pub returns-in_err-comma : goal.returns-in_err-comma
returns-in_err-comma g c = record {
  reads = failed _ _ _ _ _ _ _ _ (passes_on _ _ _ (passes_on _ _ _ c.in_ok-open.ensures.moves c.arguments.invariant.within.passes) c.in_ok-item.ensures.reads.moves) c.in_err-comma.ensures.reads.moves
      (λ x rest r at s.
      let t = both_not _ _ (sym c.goes_on.ensures ∙ c.arguments-test.true) in
      let g0 = c.in_ok-open.ensures.only x.node.«open» (behind_open (c.args.self.now.room - 1) x rest) r tt tt in
      comma_refused argument_line (IsArgument (c.args.self.now.room - 1)) AfterArgument _ _ _ _ _ c.in_ok-item.field-0.node _ t.0 c.arguments.invariant.within (goes (c.args.self.now.room - 1) _ _ c.kind.ensures t.1)
      (λ y more n good after. let a = c.in_ok-item.ensures.reads.only (tall_argument y) more n (argument_at (c.args.self.now.room - 1) y good) after in (ap (λ (z : Tall (Element Expr)). z.node) a.0, a.1))
      (λ o more n after. want _ _ _ (c.in_err-comma.ensures.reads.only o more n tt after))
      x.node.front x.node.last x.node.close rest g0.1 (good_in (c.args.self.now.room - 1) x at)) c.from_residual-in_err-comma.ensures.1;
}

pub arguments-preserved : goal.arguments-preserved
arguments-preserved g c =
    let t = both_not _ _ (sym c.goes_on.ensures ∙ c.arguments-test.true) in
    let w = c.in_ok-item.ensures.reads.found.1 in
    record {
      within = within_more argument_line (IsArgument (c.args.self.now.room - 1)) AfterArgument _ _ _ _ c.arguments.front c.arguments.last c.in_ok-item.field-0.node c.in_ok-comma.comma c.put.new.front c.put.new.last t.0 c.arguments.invariant.within (goes (c.args.self.now.room - 1) _ _ c.kind.ensures t.1)
          c.in_ok-item.ensures.reads.found.0 (w.stands, omega (arith, w.height, w.fits)) c.in_ok-item.ensures.reads.moves
          (λ y more n good after. let a = c.in_ok-item.ensures.reads.only (tall_argument y) more n (argument_at (c.args.self.now.room - 1) y good) after in (ap (λ (z : Tall (Element Expr)). z.node) a.0, a.1))
          c.in_ok-comma.ensures.reads.found.0 c.in_ok-comma.ensures.reads.moves (λ o more n after. c.in_ok-comma.ensures.reads.only o more n tt after) c.in_ok-put.ensures;
      height = c.higher-height.ensures ∙ (λ i. max (c.arguments.invariant.height i) (w.height i))
          ∙ sym (puts_height argument_height c.in_ok-item.field-0.node c.in_ok-comma.comma c.arguments.front c.arguments.last c.put.new.front c.put.new.last c.in_ok-put.ensures t.0);
      shorter = omega (arith, c.arguments.invariant.shorter, c.in_ok-item.ensures.reads.shorter, c.in_ok-comma.ensures.reads.shorter);
    }

pub arguments-smaller : goal.arguments-smaller
arguments-smaller g c = omega (arith, c.in_ok-item.ensures.reads.shorter, c.in_ok-comma.ensures.reads.shorter)

pub returns-in_err-close : goal.returns-in_err-close
returns-in_err-close g c = record {
  reads = failed _ _ _ _ _ _ _ _ (passes_on _ _ _ c.in_ok-open.ensures.moves c.arguments.invariant.within.passes) c.in_err-close.ensures.moves
      (λ x rest r at s.
      let g0 = c.in_ok-open.ensures.only x.node.«open» (behind_open (c.args.self.now.room - 1) x rest) r tt tt in
      let a = within_all argument_line (IsArgument (c.args.self.now.room - 1)) AfterArgument _ _ _ _ c.arguments.invariant.within
      (λ none y more n good. no_argument _ _ c.kind.ensures (not_both _ _ (sym c.goes_on.ensures ∙ c.arguments-test.false) none) y more n)
      x.node.front x.node.last x.node.close rest g0.1 (good_in (c.args.self.now.room - 1) x at) in
      want _ _ _ (c.in_err-close.ensures.only x.node.close rest a.2 tt tt)) c.from_residual-in_err-close.ensures.1;
}

pub returns : goal.returns
returns g c =
    let b : Bracket Expr = record { «open» = c.in_ok-open.«open»; front = c.arguments.front; last = c.arguments.last; close = c.in_ok-close.close } in
    let good = good_bracket argument_line argument_stands argument_height _ AfterArgument b c.arguments.invariant.within.good in
    record {
      reads = record {
        found = (
          λ rest r.
              with_mark kinds.LeftParen _ _ _ _ c.in_ok-open.ensures.found.0 c.in_ok-open.ensures.found.1 (c.arguments.invariant.within.found (closing c.in_ok-close.close rest)
              (with_mark kinds.RightParen _ _ _ rest c.in_ok-close.ensures.found.0 c.in_ok-close.ensures.found.1 r)),
          record { each = good.0; height = c.arguments.invariant.height ∙ sym (arguments_tall b); fits = omega (arith, c.arguments.invariant.height, good.1) },
        );
        only = λ x rest r at s.
            let g0 = c.in_ok-open.ensures.only x.node.«open» (behind_open (c.args.self.now.room - 1) x rest) r tt tt in
            let a = within_all argument_line (IsArgument (c.args.self.now.room - 1)) AfterArgument _ _ _ _ c.arguments.invariant.within
            (λ none y more n good. no_argument _ _ c.kind.ensures (not_both _ _ (sym c.goes_on.ensures ∙ c.arguments-test.false) none) y more n)
            x.node.front x.node.last x.node.close rest g0.1 (good_in (c.args.self.now.room - 1) x at) in
            let g1 = c.in_ok-close.ensures.only x.node.close rest a.2 tt tt in
            let h : c.arguments.height ≡ x.height = c.arguments.invariant.height ∙ (λ i. inside_height argument_height (a.0 i) (a.1 i)) ∙ sym (at.height ∙ arguments_tall x.node) in
            (λ i. record { node = record { «open» = g0.0 i; front = a.0 i; last = a.1 i; close = g1.0 i }; height = h i }, g1.1);
        moves = passes_on _ _ _ (passes_on _ _ _ c.in_ok-open.ensures.moves c.arguments.invariant.within.passes) c.in_ok-close.ensures.moves;
        shorter = omega (arith, c.in_ok-open.ensures.shorter, c.arguments.invariant.shorter, c.in_ok-close.ensures.shorter);
      };
    }

pub arguments-init : goal.arguments-init
arguments-init g c = record {
  within = subst (λ (front : List (Listed (Element Expr))). Within argument_line (IsArgument (c.args.self.now.room - 1)) AfterArgument c.mark.new.reader front None c.mark.new.reader) (sym c.new-front.ensures)
      (within_none argument_line (IsArgument (c.args.self.now.room - 1)) AfterArgument c.mark.new.reader);
  height = sym (ap (λ (front : List (Listed (Element Expr))). inside_height argument_height front None) c.new-front.ensures);
  shorter = omega arith;
}

pub returns-in_err-put : goal.returns-in_err-put
returns-in_err-put g c = record { reads = failed _ _ _ _ c.args.reader.now _ fault.OutOfMemory _ (passes_none _) tt (λ x rest r at s. tt) c.from_residual-in_err-put.ensures.1 }
