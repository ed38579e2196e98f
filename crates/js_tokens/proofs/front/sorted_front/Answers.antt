use Rattle.std.proofs.Common.{◌≡◌, sym, ap, ◌∙◌, subst, List, ℕ, get_or}
use Rattle.js_tree.specs.Lexical.Character.{is_quote}
use Rattle.js_tokens.specs.Fronts.{IsFound, sort_at}
use Rattle.js_tokens.specs.declared.goal.Sort.{Sort}
use Rattle.js_tokens.specs.declared.goal.Sort.TheVariants as sort
use Rattle.js_tokens.proofs.SortLemmas.{str_sort}
use Rattle.js_tokens.proofs.front.sorted_front.Goals as goal

pub string_front-requires : goal.string_front-requires
string_front-requires c = ap is_quote (sym c.byte_at.ensures) ∙ str_sort c.args.goal c.byte_at.result c.byte_at-2.result (sym c.sort_at.ensures ∙ c.in-Str.is)

pub returns-in-Str : goal.returns-in-Str
returns-in-Str c =
    let first : c.byte_at.result ≡ get_or c.args.text.now 0 0 = c.byte_at.ensures ∙ ap (λ (xs : List ℕ). get_or xs 0 0) c.as_bytes-bytes.ensures.value in
    let second : c.byte_at-2.result ≡ get_or c.args.text.now 1 0 = c.byte_at-2.ensures ∙ ap (λ (xs : List ℕ). get_or xs 1 0) c.as_bytes-bytes.ensures.value in
    let is : sort.Str ≡ sort_at c.args.goal (get_or c.args.text.now 0 0) (get_or c.args.text.now 1 0) = sym c.in-Str.is ∙ c.sort_at.ensures ∙ (λ i. sort_at c.args.goal (first i) (second i)) in
    subst (λ (s : Sort). IsFound s c.args.text.now c.string_front.result) is (subst (λ (t : List ℕ). IsFound sort.Str t c.string_front.result) c.as_bytes-bytes.ensures.value c.string_front.ensures)
