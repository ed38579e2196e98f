use Rattle.std.proofs.Common.{◌≡◌, ◌-◌, max, Bool, true, refl, sym, ap, ◌∙◌, subst, arith, List, [], ◌∷◌, ◌++◌, true≢false}
use Rattle.js_tree.specs.Pieces.{Piece, Tok}
use Rattle.js_tree.specs.Spelling.{tallest_of}
use Rattle.js_tree.specs.declared.lists.Listed.{Listed}
use Rattle.js_tree.specs.declared.tree.Expr.{Expr}
use Rattle.js_tokens.specs.Pieces.{Reads}
use Rattle.js_parser.proofs.ExprLemmas.{value_of, rests}
use Rattle.js_parser.proofs.ListLemmas.{tallest-push}
use Rattle.js_parser.proofs.PlaceLemmas.{passes_on}
use Rattle.js_parser.proofs.ReadLemmas.{want, failed}
use Rattle.js_parser.proofs.TemplateLemmas.{Parts, front_whole, part_height, part_stops, parts_more, parts_none, parts_refused, substitution_at, substitutions_at, substitutions_of}
use Rattle.js_parser.specs.Following.{Stops}
use Rattle.js_parser.specs.Nodes.{ValueStops}
use Rattle.js_parser.specs.declared.tall.Value.{Value}
use Rattle.js_parser.proofs.grammar.Grammar.substitutions.Goals as goal

ends : (x : Expr) (rest : List Piece) → Stops 0 rest → ValueStops 0 (value_of x) rest
ends x rest s = rests 0 (value_of x) rest (omega arith) s

pub substitutions-init : goal.substitutions-init
substitutions-init g c = record {
  parts = subst (λ (xs : List (Listed Expr)). Parts (c.args.self.now.room - 1) c.args.reader.now xs true c.args.reader.now) (sym c.new-all.ensures) (parts_none (c.args.self.now.room - 1) c.args.reader.now);
  height = sym (ap (tallest_of part_height) c.new-all.ensures);
  within = omega arith;
  shorter = λ e. absurd (true≢false e);
}

pub returns-in_err-value : goal.returns-in_err-value
returns-in_err-value g c =
    let i = c.substitutions.invariant in
    let before = subst (λ (more : Bool). Parts (c.args.self.now.room - 1) c.args.reader.now c.substitutions.all more c.substitutions.reader) c.substitutions-test.true i.parts in
    record {
      reads = failed _ _ _ _ _ _ _ _ i.parts.passes c.in_err-value.ensures.reads.moves
          (λ x rest r at s. parts_refused _ _ _ _ _ before
          (λ y test more part q good. want _ _ _ (c.in_err-value.ensures.reads.only (value_of y.item) (Tok y.mark test ∷ more) q (substitution_at _ y good) (ends y.item (Tok y.mark test ∷ more) (part_stops y.mark test more part))))
          x.node rest r (substitutions_of _ x at) at.some) c.from_residual.ensures.1;
    }

pub returns-in_err-mark : goal.returns-in_err-mark
returns-in_err-mark g c =
    let i = c.substitutions.invariant in
    let before = subst (λ (more : Bool). Parts (c.args.self.now.room - 1) c.args.reader.now c.substitutions.all more c.substitutions.reader) c.substitutions-test.true i.parts in
    record {
      reads = failed _ _ _ _ _ _ _ _ (passes_on _ _ _ i.parts.passes c.in_ok-value.ensures.reads.moves) c.in_err-mark.ensures.moves
          (λ x rest r at s. parts_refused _ _ _ _ _ before
          (λ y test more part q good.
          let a = c.in_ok-value.ensures.reads.only (value_of y.item) (Tok y.mark test ∷ more) q (substitution_at _ y good) (ends y.item (Tok y.mark test ∷ more) (part_stops y.mark test more part)) in
          want _ _ _ (c.in_err-mark.ensures.only test part y.mark more a.1 tt tt))
          x.node rest r (substitutions_of _ x at) at.some) c.from_residual-in_err-mark.ensures.1;
    }

pub substitutions-preserved : goal.substitutions-preserved
substitutions-preserved g c =
    let i = c.substitutions.invariant in
    let before = subst (λ (more : Bool). Parts (c.args.self.now.room - 1) c.args.reader.now c.substitutions.all more c.substitutions.reader) c.substitutions-test.true i.parts in
    let w = c.in_ok-value.ensures.reads in
    let next : Listed Expr = record { item = c.in_ok-value.value.node; mark = c.in_ok-mark.mark } in
    let all_is : c.push.new.self ≡ c.substitutions.all ++ next ∷ [] = c.in_ok-push.ensures.ok in
    record {
      parts = subst (λ (xs : List (Listed Expr)). Parts (c.args.self.now.room - 1) c.args.reader.now xs c.is_middle-more.result c.part.new.reader) (sym all_is)
          (subst (λ (more : Bool). Parts (c.args.self.now.room - 1) c.args.reader.now (c.substitutions.all ++ next ∷ []) more c.part.new.reader) (sym c.is_middle-more.ensures)
          (parts_more (c.args.self.now.room - 1) _ _ _ _ c.substitutions.all next before w.found.0 (w.found.1.stands, omega (arith, w.found.1.height, w.found.1.fits)) w.moves
          c.in_ok-mark.ensures.found.0 c.in_ok-mark.ensures.found.1 c.in_ok-mark.ensures.moves
          (λ y rest r good stops. let a = w.only (value_of y.item) rest r (substitution_at _ y good) (ends y.item rest stops) in (ap (λ (v : Value). v.node) a.0, a.1))
          (λ t test rest part r. c.in_ok-mark.ensures.only test part t rest r tt tt)));
      height = c.higher-height.ensures ∙ (λ k. max (i.height k) (w.found.1.height k)) ∙ sym (tallest-push part_height c.substitutions.all next) ∙ sym (ap (tallest_of part_height) all_is);
      within = omega (arith, i.within, w.shorter, c.in_ok-mark.ensures.shorter);
      shorter = λ e. omega (arith, i.within, w.shorter, c.in_ok-mark.ensures.shorter);
    }

pub substitutions-smaller : goal.substitutions-smaller
substitutions-smaller g c = omega (arith, c.in_ok-value.ensures.reads.shorter, c.in_ok-mark.ensures.shorter)

pub returns : goal.returns
returns g c =
    let i = c.substitutions.invariant in
    let done = subst (λ (more : Bool). Parts (c.args.self.now.room - 1) c.args.reader.now c.substitutions.all more c.substitutions.reader) c.substitutions-test.false i.parts in
    record {
      reads = record {
        found = (λ rest r. subst (λ (ps : List Piece). Reads c.args.reader.now ps) (front_whole c.substitutions.all rest) (done.found rest r), substitutions_at _ _ c.substitutions.all done.good (done.some refl) i.height);
        only = λ x rest r at s.
            let a = done.only x.node rest r (substitutions_of _ x at) at.some in
            (λ k. record { node = a.0 k; height = (i.height ∙ ap (tallest_of part_height) a.0 ∙ sym at.height) k }, a.1);
        moves = done.passes;
        shorter = i.shorter c.substitutions-test.false;
      };
    }
