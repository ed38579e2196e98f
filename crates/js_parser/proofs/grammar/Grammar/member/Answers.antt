use Rattle.std.proofs.Common.{◌≡◌, refl, sym, ap, ◌∙◌, arith, true≢false, ◌∷◌}
use Rattle.js_tree.specs.Operators.{is_member_name}
use Rattle.js_tree.specs.Pieces.{Tok}
use Rattle.js_tree.specs.declared.lists.Tail.TheVariants as tail
use Rattle.js_tree.specs.declared.token_kind.TokenKind.TheVariants as kinds
use Rattle.js_parser.proofs.BeginLemmas.{with_mark}
use Rattle.js_parser.proofs.PlaceLemmas.{passes_none, passes_on}
use Rattle.js_parser.proofs.ReadLemmas.{want, failed}
use Rattle.js_parser.proofs.TailLemmas.{line_of, as_member, member_plain, named_here, no_member, tail_begins}
use Rattle.js_parser.specs.Nodes.{tail_height}
use Rattle.js_parser.proofs.grammar.Grammar.member.Goals as goal

pub returns-in_err-dot-clause-reads : goal.returns-in_err-dot-clause-reads
returns-in_err-dot-clause-reads g c =
    failed _ _ _ _ _ _ _ _ (passes_none _) c.in_err-dot.ensures.moves
    (λ x rest r at s.
    let v = as_member x.node (tail_begins _ x.node rest _ c.requires.told r) in
    want _ _ _ (c.in_err-dot.ensures.only v.0 (Tok v.1 is_member_name ∷ rest) (line_of _ x.node _ rest v.2 r) tt tt)) c.from_residual.ensures.1

pub returns-then-not-is_member_name-clause-reads : goal.returns-then-not-is_member_name-clause-reads
returns-then-not-is_member_name-clause-reads g c =
    failed _ _ _ _ _ _ _ _ c.in_ok-dot.ensures.moves c.refusal.ensures
    (λ x rest r at s.
    let v = as_member x.node (tail_begins _ x.node rest _ c.requires.told r) in
    let g0 = c.in_ok-dot.ensures.only v.0 (Tok v.1 is_member_name ∷ rest) (line_of _ x.node _ rest v.2 r) tt tt in
    absurd (no_member _ _ c.kind.ensures (sym c.is_member_name.ensures ∙ c.if-not-is_member_name.true) v.1 rest g0.1)) refl

pub returns-in_err-name-clause-reads : goal.returns-in_err-name-clause-reads
returns-in_err-name-clause-reads g c =
    failed _ _ _ _ _ _ _ _ c.in_ok-dot.ensures.moves c.in_err-name.ensures.moves
    (λ x rest r at s.
    let v = as_member x.node (tail_begins _ x.node rest _ c.requires.told r) in
    let g0 = c.in_ok-dot.ensures.only v.0 (Tok v.1 is_member_name ∷ rest) (line_of _ x.node _ rest v.2 r) tt tt in
    want _ _ _ (c.in_err-name.ensures.only is_member_name member_plain v.1 rest g0.1 tt tt)) c.from_residual-in_err-name.ensures.1

pub returns-clause-reads : goal.returns-clause-reads
returns-clause-reads g c = record {
  found = (
    λ rest r. with_mark kinds.Dot _ _ _ (Tok c.in_ok-name.name is_member_name ∷ rest) c.in_ok-dot.ensures.found.0 c.in_ok-dot.ensures.found.1
        (named_here _ _ _ c.in_ok-name.name rest c.kind.ensures (sym c.is_member_name.ensures ∙ c.if-not-is_member_name.false) c.in_ok-name.ensures.found.0 c.in_ok-name.ensures.found.1 r),
    record { stands = refl; height = refl; fits = omega arith },
  );
  only = λ x rest r at s.
      let v = as_member x.node (tail_begins _ x.node rest _ c.requires.told r) in
      let g0 = c.in_ok-dot.ensures.only v.0 (Tok v.1 is_member_name ∷ rest) (line_of _ x.node _ rest v.2 r) tt tt in
      let g1 = c.in_ok-name.ensures.only is_member_name member_plain v.1 rest g0.1 tt tt in
      let h : 0 ≡ x.height = sym (at.height ∙ ap tail_height v.2) in
      ((λ i. record { node = tail.Member (g0.0 i) (g1.0 i); height = 0 }) ∙ (λ i. record { node = sym v.2 i; height = h i }), g1.1);
  moves = passes_on _ _ _ c.in_ok-dot.ensures.moves c.in_ok-name.ensures.moves;
  shorter = omega (arith, c.in_ok-dot.ensures.shorter, c.in_ok-name.ensures.shorter);
}

pub returns-clause-call : goal.returns-clause-call
returns-clause-call g c = λ e. absurd (true≢false (sym e))
