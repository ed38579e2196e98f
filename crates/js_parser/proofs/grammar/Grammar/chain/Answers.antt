use Rattle.std.proofs.Common.{◌≡◌, ◌-◌, sym, ap, ◌∙◌, true, false, ◌&&◌, arith, List}
use Rattle.std.proofs.lemmas.Bool.{and_parts}
use Rattle.std.specs.Prelude.{codes}
use Rattle.js_tree.specs.Spelling.{expr}
use Rattle.js_tree.specs.Spelling.Nodes.{is_empty, is_named}
use Rattle.js_tree.specs.TokenKinds.{is}
use Rattle.js_tree.specs.declared.lists.Tail.{Tail}
use Rattle.js_tree.specs.declared.token_kind.TokenKind.TheVariants as kinds
use Rattle.js_tree.specs.declared.tree.Expr.TheVariants.{rolls-Chain}
use Rattle.js_tree.specs.declared.tree.Expr.{Expr}
use Rattle.js_parser.proofs.ChainLemmas.{chain_view, chain_seen, chain_read, tall_tails, alone_low, alone_empty, chain_some, none_read, eval_called, same_chain, not_direct, not_empty}
use Rattle.js_parser.proofs.ExprLemmas.{value_of, at_lower, made}
use Rattle.js_parser.proofs.PlaceLemmas.{passes_none, passes_on}
use Rattle.js_parser.proofs.ReadLemmas.{want, failed, refused_here}
use Rattle.js_parser.specs.Nodes.{tails_line}
use Rattle.js_parser.specs.declared.tall.Tall.{Tall}
use Rattle.js_parser.specs.declared.tall.Value.{Value}
use Rattle.js_parser.proofs.grammar.Grammar.chain.Goals as goal

pub returns-in_err-head : goal.returns-in_err-head
returns-in_err-head g c = record {
  reads = failed _ _ _ _ _ _ _ _ (passes_none _) c.in_err-head.ensures.reads.moves
      (λ x rest r at s.
      let v = chain_view _ _ x rest at s r in
      want _ _ _ (c.in_err-head.ensures.reads.only (value_of v.head) (tails_line v.tails rest) v.read v.at v.stops)) c.from_residual.ensures.1;
}

pub returns-then-head-lt19 : goal.returns-then-head-lt19
returns-then-head-lt19 g c = record {
  reads = record {
    found = (c.in_ok-head.ensures.reads.found.0, at_lower 18 17 _ c.in_ok-head.head (omega arith) c.in_ok-head.ensures.reads.found.1);
    only = λ x rest r at s.
        let v = chain_view _ _ x rest at s r in
        let g0 = c.in_ok-head.ensures.reads.only (value_of v.head) (tails_line v.tails rest) v.read v.at v.stops in
        let rank : c.in_ok-head.head.rank ≡ (expr v.head).rank = ap (λ (y : Value). y.rank) g0.0 in
        let a = alone_low v.head v.tails x (omega (arith, rank, c.if-head-lt19.true)) v.is in
        (g0.0 ∙ a.same, none_read _ v.tails rest a.none g0.1);
    moves = c.in_ok-head.ensures.reads.moves;
    shorter = c.in_ok-head.ensures.reads.shorter;
  };
}

pub returns-then-calls_eval : goal.returns-then-calls_eval
returns-then-calls_eval g c = record {
  reads = refused_here _ _ _ _ _ _ c.refusal-refusal.ensures
      (λ x rest r at s.
      let v = chain_view _ _ x rest at s r in
      let g0 = c.in_ok-head.ensures.reads.only (value_of v.head) (tails_line v.tails rest) v.read v.at v.stops in
      let called = and_parts _ _ (sym c.calls_eval.ensures ∙ c.if-calls_eval.true) in
      eval_called _ _ c.kind.ensures called.1 v.head v.tails x rest (ap (λ (y : Value). is_named (codes "eval") (expr y.node)) (sym g0.0) ∙ ap (λ (n : Expr). is_named (codes "eval") (expr n)) (sym c.get.ensures) ∙ called.0) v.ends g0.1 v.is);
}

pub returns-in_err-tails : goal.returns-in_err-tails
returns-in_err-tails g c = record {
  reads = failed _ _ _ _ _ _ _ _ c.in_ok-head.ensures.reads.moves c.in_err-tails.ensures.reads.moves
      (λ x rest r at s.
      let v = chain_view _ _ x rest at s r in
      let g0 = c.in_ok-head.ensures.reads.only (value_of v.head) (tails_line v.tails rest) v.read v.at v.stops in
      want _ _ _ (c.in_err-tails.ensures.reads.only (tall_tails v.tails) rest g0.1 v.tails_at v.ends)) c.from_residual-in_err-tails.ensures.1;
}

pub returns-then-is_empty : goal.returns-then-is_empty
returns-then-is_empty g c =
    let none = c.is_empty.ensures.0 c.if-is_empty.true in
    record {
      reads = record {
        found = (
          λ rest r. c.in_ok-head.ensures.reads.found.0 rest (none_read _ c.in_ok-tails.tails.node rest none (c.in_ok-tails.ensures.reads.found.0 rest r)),
          at_lower 18 17 _ c.in_ok-head.head (omega arith) c.in_ok-head.ensures.reads.found.1,
        );
        only = λ x rest r at s.
            let v = chain_view _ _ x rest at s r in
            let g0 = c.in_ok-head.ensures.reads.only (value_of v.head) (tails_line v.tails rest) v.read v.at v.stops in
            let g1 = c.in_ok-tails.ensures.reads.only (tall_tails v.tails) rest g0.1 v.tails_at v.ends in
            let a = alone_empty v.head v.tails x (ap (λ (t : Tall (List (Tail Expr))). is_empty t.node) (sym g1.0) ∙ ap is_empty none) v.is in
            (g0.0 ∙ a.same, g1.1);
        moves = passes_on _ _ _ c.in_ok-head.ensures.reads.moves c.in_ok-tails.ensures.reads.moves;
        shorter = omega (arith, c.in_ok-head.ensures.reads.shorter, c.in_ok-tails.ensures.reads.shorter);
      };
    }

pub value-requires : goal.value-requires
value-requires g c =
    let w = c.in_ok-head.ensures.reads.found.1 in
    let t = c.in_ok-tails.ensures.reads.found.1 in
    record { seen = chain_seen _ c.in_ok-head.head.node c.in_ok-tails.tails.node (rolls-Chain c.in_ok-head.head.node c.in_ok-tails.tails.node) _ _ (omega (arith, c.higher-below.ensures, w.height, t.height)) c.is_target-is_target.ensures }

pub returns : goal.returns
returns g c =
    let some = not_empty _ _ c.is_empty.ensures.1 c.if-is_empty.false in
    record {
      reads = made 17 _ 17 _ _ _ _ c.value.ensures.made (omega arith)
          (chain_read _ _ _ _ _ _ c.in_ok-head.head c.in_ok-tails.tails (rolls-Chain c.in_ok-head.head.node c.in_ok-tails.tails.node) c.in_ok-head.ensures.reads.found.0 c.in_ok-tails.ensures.reads.found.0 c.in_ok-head.ensures.reads.found.1 c.if-head-lt19.false
          c.in_ok-tails.ensures.reads.found.1 some (λ rest r. not_direct _ _ c.kind.ensures (is_named (codes "eval") (expr c.in_ok-head.head.node)) c.in_ok-tails.tails.node rest (ap (λ (n : Expr). is_named (codes "eval") (expr n) && is kinds.LeftParen c.kind.result) (sym c.get.ensures) ∙ sym c.calls_eval.ensures ∙ c.if-calls_eval.false) r))
          (passes_on _ _ _ c.in_ok-head.ensures.reads.moves c.in_ok-tails.ensures.reads.moves)
          (omega (arith, c.in_ok-head.ensures.reads.shorter, c.in_ok-tails.ensures.reads.shorter))
          (λ x rest r at s.
          let v = chain_view _ _ x rest at s r in
          let g0 = c.in_ok-head.ensures.reads.only (value_of v.head) (tails_line v.tails rest) v.read v.at v.stops in
          let g1 = c.in_ok-tails.ensures.reads.only (tall_tails v.tails) rest g0.1 v.tails_at v.ends in
          let a = chain_some v.head v.tails x (ap (λ (t : Tall (List (Tail Expr))). is_empty t.node) (sym g1.0) ∙ some) v.is in
          (same_chain x.node _ c.in_ok-head.head.node v.head c.in_ok-tails.tails.node v.tails (rolls-Chain c.in_ok-head.head.node c.in_ok-tails.tails.node) a.layer (λ i. (g0.0 i).node) (λ i. (g1.0 i).node), g1.1));
    }
