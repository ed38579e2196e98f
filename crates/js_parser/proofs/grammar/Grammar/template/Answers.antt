use Rattle.std.proofs.Common.{◌≡◌, ℕ, sym, ap, ◌∙◌, subst, arith, Bool, List, ◌∷◌}
use Rattle.std.specs.List.{list_all}
use Rattle.js_tree.specs.Pieces.{Tok}
use Rattle.js_tree.specs.Spelling.Nodes.{unmarked}
use Rattle.js_tree.specs.Spelling.Rows.{template_parts}
use Rattle.js_tree.specs.declared.lists.Listed.{Listed}
use Rattle.js_tree.specs.declared.lists.Template.{Template}
use Rattle.js_tree.specs.declared.token_kind.TokenKind.{TokenKind}
use Rattle.js_tree.specs.declared.token_kind.TokenKind.TheVariants as kinds
use Rattle.js_tree.specs.declared.tree.Expr.{Expr}
use Rattle.js_tokens.specs.Pieces.{Reads}
use Rattle.js_parser.proofs.BeginLemmas.{with_mark}
use Rattle.js_parser.proofs.PlaceLemmas.{passes_none, passes_on}
use Rattle.js_parser.proofs.ReadLemmas.{want, failed}
use Rattle.js_parser.proofs.TemplateLemmas.{parted, parts_in, parts_line, parts_tall, some_head, whole}
use Rattle.js_parser.specs.Nodes.{higher, substitution_stands, template_line}
use Rattle.js_parser.specs.declared.tall.Tall.{Tall}
use Rattle.js_parser.proofs.grammar.Grammar.template.Goals as goal

abbrev height_of : List (Listed Expr) → ℕ
height_of xs = template_parts unmarked higher xs 0

abbrev tall_parts : Tall (Template Expr) → Tall (List (Listed Expr))
tall_parts x = record { node = x.node.parts; height = x.height }

pub returns-in_err-head : goal.returns-in_err-head
returns-in_err-head g c = record {
  reads = failed _ _ _ _ _ _ _ _ (passes_none _) c.in_err-head.ensures.moves
      (λ x rest r at s.
      let v = whole _ _ c.kind.ensures (sym c.are_same.ensures ∙ c.if-are_same.true) x.node rest r in
      want _ _ _ (c.in_err-head.ensures.only x.node.head rest v.1 tt tt)) c.from_residual.ensures.1;
}

pub returns-then-are_same : goal.returns-then-are_same
returns-then-are_same g c = record {
  reads = record {
    found = (
      λ rest r. subst (λ (parts : List (Listed Expr)). Reads c.args.reader.now (template_line (record { head = c.in_ok-head.head; parts = parts }) rest)) (sym c.new-parts.ensures)
          (with_mark kinds.TemplateWhole _ _ _ rest c.in_ok-head.ensures.found.0 c.in_ok-head.ensures.found.1 r),
      record { each = ap (list_all substitution_stands) c.new-parts.ensures; height = sym (ap height_of c.new-parts.ensures); fits = omega arith },
    );
    only = λ x rest r at s.
        let v = whole _ _ c.kind.ensures (sym c.are_same.ensures ∙ c.if-are_same.true) x.node rest r in
        let g0 = c.in_ok-head.ensures.only x.node.head rest v.1 tt tt in
        let h : 0 ≡ x.height = sym (at.height ∙ ap height_of v.0) in
        (λ i. record { node = record { head = g0.0 i; parts = (c.new-parts.ensures ∙ sym v.0) i }; height = h i }, g0.1);
    moves = c.in_ok-head.ensures.moves;
    shorter = c.in_ok-head.ensures.shorter;
  };
}

pub returns-in_err-head-2 : goal.returns-in_err-head-2
returns-in_err-head-2 g c = record {
  reads = failed _ _ _ _ _ _ _ _ (passes_none _) c.in_err-head-2.ensures.moves
      (λ x rest r at s.
      let v = parted _ _ c.kind.ensures (sym c.are_same.ensures ∙ c.if-are_same.false) x.node rest r in
      want _ _ _ (c.in_err-head-2.ensures.only x.node.head (parts_line x.node.parts rest) v.1 tt tt)) c.from_residual-in_err-head-2.ensures.1;
}

pub returns-in_err-parts : goal.returns-in_err-parts
returns-in_err-parts g c = record {
  reads = failed _ _ _ _ _ _ _ _ c.in_ok-head-2.ensures.moves c.in_err-parts.ensures.reads.moves
      (λ x rest r at s.
      let v = parted _ _ c.kind.ensures (sym c.are_same.ensures ∙ c.if-are_same.false) x.node rest r in
      let g0 = c.in_ok-head-2.ensures.only x.node.head (parts_line x.node.parts rest) v.1 tt tt in
      want _ _ _ (c.in_err-parts.ensures.reads.only (tall_parts x) rest g0.1 (parts_in _ x v.0 at) tt)) c.from_residual-in_err-parts.ensures.1;
}

pub returns : goal.returns
returns g c =
    let w = c.in_ok-parts.ensures.reads in
    let all = c.in_ok-parts.field-0.node in
    record {
      reads = record {
        found = (
          λ rest r. subst (λ (test : TokenKind → Bool). Reads c.args.reader.now (Tok c.in_ok-head-2.head test ∷ parts_line all rest)) (sym (some_head all w.found.1.some))
              (with_mark kinds.TemplateHead _ _ _ (parts_line all rest) c.in_ok-head-2.ensures.found.0 c.in_ok-head-2.ensures.found.1 (w.found.0 rest r)),
          record { each = w.found.1.each; height = w.found.1.height ∙ sym (parts_tall all); fits = w.found.1.fits },
        );
        only = λ x rest r at s.
            let v = parted _ _ c.kind.ensures (sym c.are_same.ensures ∙ c.if-are_same.false) x.node rest r in
            let g0 = c.in_ok-head-2.ensures.only x.node.head (parts_line x.node.parts rest) v.1 tt tt in
            let g1 = w.only (tall_parts x) rest g0.1 (parts_in _ x v.0 at) tt in
            (λ i. record { node = record { head = g0.0 i; parts = (g1.0 i).node }; height = (g1.0 i).height }, g1.1);
        moves = passes_on _ _ _ c.in_ok-head-2.ensures.moves w.moves;
        shorter = omega (arith, c.in_ok-head-2.ensures.shorter, w.shorter);
      };
    }
