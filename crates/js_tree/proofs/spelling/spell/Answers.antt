use Rattle.std.proofs.Common.{◌≡◌, List, ◌++◌, ◌∷◌, [], ap, sym, ◌∙◌, append_assoc}
use Rattle.js_tree.specs.declared.line.LineItem.{LineItem as Given}
use Rattle.js_tree.specs.declared.line.LineItem.TheVariants as given
use Rattle.js_tree.specs.declared.node.Node.TheVariants as node
use Rattle.js_tree.specs.Parts.{left_in}
use Rattle.js_tree.specs.Line.{item_of, tokens_at}
use Rattle.js_tree.specs.Pieces.{tokens}
use Rattle.js_tree.specs.Spelling.{stmts}
use Rattle.js_tree.proofs.LineLemmas.{body_tokens}
use Rattle.js_tree.proofs.WalkLemmas.{left_last}
use Rattle.js_tree.proofs.spelling.spell.Goals as goal

pub loop-next-init : goal.loop-next-init
loop-next-init c =
    let give = λ (p : Given). tokens_at (item_of p) in
    let first : Given = given.Node (node.Body c.as_slice.result) in
    let begun : c.push.new.self.items ≡ first ∷ [] = (c.in_ok-push.ensures {u = tt}).items ∙ ap (λ (ps : List Given). ps ++ first ∷ []) c.new-left.ensures.items in
    record {
      empty = c.new-line.ensures.items;
      writes = (λ i. c.new-out.ensures.items i ++ left_in give (begun i))
          ∙ body_tokens c.as_slice.result.now ∙ ap (λ xs. tokens (stmts xs [])) c.as_slice.ensures;
    }

pub loop-next-preserved : goal.loop-next-preserved
loop-next-preserved c =
    let give = λ (p : Given). tokens_at (item_of p) in
    let out = c.loop-next.out.items in
    let next = give c.in-Some.next in
    let rest = c.pop.new.self.items in
    record {
      empty = c.in_ok-write_next.ensures.empty;
      writes = c.in_ok-write_next.ensures.writes ∙ append_assoc out next (left_in give rest)
          ∙ ap (λ xs. out ++ xs) (sym (ap (left_in give) c.in-Some.ensures.items ∙ left_last give rest c.in-Some.next)) ∙ c.loop-next.invariant.writes;
    }
