use Rattle.std.proofs.Common.{◌≡◌, ◌+◌, ◌-◌, ℕ, refl, sym, ap, ◌∙◌, arith, List, Some}
use Rattle.js_tree.specs.Pieces.{Piece, Onto, one}
use Rattle.js_tree.specs.Spelling.{slot}
use Rattle.js_tree.specs.TokenKinds.{is}
use Rattle.js_tree.specs.declared.lists.Further.{Further}
use Rattle.js_tree.specs.declared.token_kind.TokenKind.TheVariants as kinds
use Rattle.js_tree.specs.declared.tree.Slot.{Slot}
use Rattle.js_tree.specs.declared.tree.Stmt.{Stmt}
use Rattle.js_tree.specs.declared.tree.Stmt.TheVariants as made
use Rattle.js_parser.proofs.BeginLemmas.{stops_before, with_mark}
use Rattle.js_parser.proofs.PlaceLemmas.{passes_none, passes_on}
use Rattle.js_parser.proofs.ReadLemmas.{want, failed}
use Rattle.js_parser.proofs.SlotLemmas.{further_tall, slot_at, slot_stops, tall_slot}
use Rattle.js_parser.proofs.StmtLemmas.{VarsView, stmt_view, vars_made, vars_tall}
use Rattle.js_parser.specs.Following.{Stops}
use Rattle.js_parser.specs.Nodes.{SlotAt, SlotsAt, StmtAt, slot_line, slots_line}
use Rattle.js_parser.specs.declared.kinds.Statement.TheVariants as sorts
use Rattle.js_parser.specs.declared.tall.Tall.{Tall}
use Rattle.js_parser.proofs.grammar.Grammar.variables.Goals as goal

abbrev tall_slots : List (Further Slot) → Tall (List (Further Slot))
tall_slots xs = record { node = xs; height = further_tall xs }

-- what stands behind the others, behind the first, and behind the word
abbrev ending : {p : _} {x : Stmt} {rest : List Piece} → VarsView p x rest → Onto
ending v = one (is kinds.Semicolon) v.semi

abbrev behind_first : {p : _} {x : Stmt} {rest : List Piece} → VarsView p x rest → Onto
behind_first v rest = slots_line v.others (ending v rest)

abbrev behind_word : {p : _} {x : Stmt} {rest : List Piece} → VarsView p x rest → Onto
behind_word v rest = slot_line v.first (behind_first v rest)

ends : (p : _) (x : Stmt) (rest : List Piece) (v : VarsView p x rest) → Stops 0 (ending v rest)
ends p x rest v = stops_before 0 0 kinds.Semicolon refl (λ nl. refl) (omega arith) v.semi rest

first_ends : (p : _) (x : Stmt) (rest : List Piece) (v : VarsView p x rest) → Stops 1 (behind_first v rest)
first_ends p x rest v = slot_stops v.others (ending v rest) (ends p x rest v)

first_at : (room : ℕ) (p : _) (x : Tall Stmt) (rest : List Piece) (v : VarsView p x.node rest) → StmtAt room x → SlotAt (room - 1) (tall_slot v.first)
first_at room p x rest v at = slot_at (room - 1) v.first v.good (omega (arith, v.height, at.height, at.fits))

others_at : (room : ℕ) (p : _) (x : Tall Stmt) (rest : List Piece) (v : VarsView p x.node rest) → StmtAt room x → SlotsAt (room - 1) (tall_slots v.others)
others_at room p x rest v at = record { each = v.each; height = refl; fits = omega (arith, v.height, at.height, at.fits) }

pub returns-in_err-word : goal.returns-in_err-word
returns-in_err-word g c = record {
  reads = failed _ _ _ _ _ _ _ _ (passes_none _) c.in_err-word.ensures.moves
      (λ x rest r at s.
      let v = stmt_view sorts.Var _ x.node rest c.requires.told r in
      want _ _ _ (c.in_err-word.ensures.only v.word (behind_word v rest) v.read tt tt)) c.from_residual.ensures.1;
}

pub returns-in_err-first : goal.returns-in_err-first
returns-in_err-first g c = record {
  reads = failed _ _ _ _ _ _ _ _ c.in_ok-word.ensures.moves c.in_err-first.ensures.reads.moves
      (λ x rest r at s.
      let v = stmt_view sorts.Var _ x.node rest c.requires.told r in
      let g0 = c.in_ok-word.ensures.only v.word (behind_word v rest) v.read tt tt in
      want _ _ _ (c.in_err-first.ensures.reads.only (tall_slot v.first) (behind_first v rest) g0.1 (first_at _ _ x rest v at) (first_ends _ x.node rest v))) c.from_residual-in_err-first.ensures.1;
}

pub returns-in_err-others : goal.returns-in_err-others
returns-in_err-others g c = record {
  reads = failed _ _ _ _ _ _ _ _ (passes_on _ _ _ c.in_ok-word.ensures.moves c.in_ok-first.ensures.reads.moves) c.in_err-others.ensures.reads.moves
      (λ x rest r at s.
      let v = stmt_view sorts.Var _ x.node rest c.requires.told r in
      let g0 = c.in_ok-word.ensures.only v.word (behind_word v rest) v.read tt tt in
      let g1 = c.in_ok-first.ensures.reads.only (tall_slot v.first) (behind_first v rest) g0.1 (first_at _ _ x rest v at) (first_ends _ x.node rest v) in
      want _ _ _ (c.in_err-others.ensures.reads.only (tall_slots v.others) (ending v rest) g1.1 (others_at _ _ x rest v at) (ends _ x.node rest v))) c.from_residual-in_err-others.ensures.1;
}

pub returns-in_err-semi : goal.returns-in_err-semi
returns-in_err-semi g c = record {
  reads = failed _ _ _ _ _ _ _ _ (passes_on _ _ _ (passes_on _ _ _ c.in_ok-word.ensures.moves c.in_ok-first.ensures.reads.moves) c.in_ok-others.ensures.reads.moves) c.in_err-semi.ensures.moves
      (λ x rest r at s.
      let v = stmt_view sorts.Var _ x.node rest c.requires.told r in
      let g0 = c.in_ok-word.ensures.only v.word (behind_word v rest) v.read tt tt in
      let g1 = c.in_ok-first.ensures.reads.only (tall_slot v.first) (behind_first v rest) g0.1 (first_at _ _ x rest v at) (first_ends _ x.node rest v) in
      let g2 = c.in_ok-others.ensures.reads.only (tall_slots v.others) (ending v rest) g1.1 (others_at _ _ x rest v at) (ends _ x.node rest v) in
      want _ _ _ (c.in_err-semi.ensures.only v.semi rest g2.1 tt tt)) c.from_residual-in_err-semi.ensures.1;
}

pub returns : goal.returns
returns g c = record {
  reads = record {
    found = (
      λ rest r.
          vars_made _ c.in_ok-word.word c.in_ok-first.first.node c.in_ok-others.others.node c.in_ok-semi.semi rest c.in_ok-first.ensures.reads.found.1.stands c.in_ok-others.ensures.reads.found.1.each
          (with_mark kinds.Var _ _ _ _ c.in_ok-word.ensures.found.0 c.in_ok-word.ensures.found.1 (c.in_ok-first.ensures.reads.found.0 _ (c.in_ok-others.ensures.reads.found.0 _
          (with_mark kinds.Semicolon _ _ _ rest c.in_ok-semi.ensures.found.0 c.in_ok-semi.ensures.found.1 r)))),
      let w = c.in_ok-first.ensures.reads.found.1 in
          let o = c.in_ok-others.ensures.reads.found.1 in
          let h = vars_tall c.in_ok-word.word c.in_ok-first.first.node c.in_ok-others.others.node c.in_ok-semi.semi in
          record { height = omega (arith, h, w.height, o.height, c.higher.ensures); fits = omega (arith, w.fits, o.fits, c.higher.ensures, c.requires.some) },
    );
    only = λ x rest r at s.
        let v = stmt_view sorts.Var _ x.node rest c.requires.told r in
        let g0 = c.in_ok-word.ensures.only v.word (behind_word v rest) v.read tt tt in
        let g1 = c.in_ok-first.ensures.reads.only (tall_slot v.first) (behind_first v rest) g0.1 (first_at _ _ x rest v at) (first_ends _ x.node rest v) in
        let g2 = c.in_ok-others.ensures.reads.only (tall_slots v.others) (ending v rest) g1.1 (others_at _ _ x rest v at) (ends _ x.node rest v) in
        let g3 = c.in_ok-semi.ensures.only v.semi rest g2.1 tt tt in
        let a : c.in_ok-first.first.height ≡ (slot v.first).height = ap (λ (t : Tall Slot). t.height) g1.0 in
        let b : c.in_ok-others.others.height ≡ further_tall v.others = ap (λ (t : Tall (List (Further Slot))). t.height) g2.0 in
        let h : c.higher.result + 1 ≡ x.height = omega (arith, a, b, v.height, at.height, c.higher.ensures) in
        let n : made.Vars c.in_ok-word.word c.in_ok-first.first.node c.in_ok-others.others.node (Some c.in_ok-semi.semi) ≡ x.node =
        (λ i. made.Vars (g0.0 i) (g1.0 i).node (g2.0 i).node (Some (g3.0 i))) ∙ sym v.node in
        (λ i. record { node = n i; height = h i }, g3.1);
    moves = passes_on _ _ _ (passes_on _ _ _ (passes_on _ _ _ c.in_ok-word.ensures.moves c.in_ok-first.ensures.reads.moves) c.in_ok-others.ensures.reads.moves) c.in_ok-semi.ensures.moves;
    shorter = omega (arith, c.in_ok-word.ensures.shorter, c.in_ok-first.ensures.reads.shorter, c.in_ok-others.ensures.reads.shorter, c.in_ok-semi.ensures.shorter);
  };
}
