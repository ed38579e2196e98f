use Rattle.std.proofs.Common.{subst, List, ℕ}
use Rattle.js_tokens.specs.Fronts.{IsFoundFor}
use Rattle.js_tokens.proofs.PlaceLemmas.{trivia_longest, cut_found, cut_only, cut_boundary, found_boundary}
use Rattle.js_tokens.proofs.cut.cut_at.Goals as goal

pub split_at-requires : goal.split_at-requires
split_at-requires c = cut_boundary c.args.left.now c.args.at c.trivia_len-gap.result c.utf8.left (trivia_longest c.args.at c.args.left.now c.trivia_len-gap.result c.trivia_len-gap.ensures)

pub returns-clause-found : goal.returns-clause-found
returns-clause-found c =
    cut_found c.args.goal c.args.left.now c.split_at.result.0.now c.split_at.result.1.now c.args.at c.trivia_len-gap.result c.has_line_end-nl_before.result c.is_fresh.result c.token_at-found.result
    (trivia_longest c.args.at c.args.left.now c.trivia_len-gap.result c.trivia_len-gap.ensures) c.has_line_end-nl_before.ensures c.split_at.ensures.front c.split_at.ensures.back c.is_fresh.ensures c.token_at-found.ensures.found

pub returns-clause-only : goal.returns-clause-only
returns-clause-only c =
    cut_only c.args.goal c.args.left.now c.split_at.result.0.now c.split_at.result.1.now c.args.at c.trivia_len-gap.result c.has_line_end-nl_before.result c.is_fresh.result c.token_at-found.result
    c.has_line_end-nl_before.ensures c.split_at.ensures.front c.split_at.ensures.back c.is_fresh.ensures c.token_at-found.ensures.only

pub returns-clause-begin : goal.returns-clause-begin
returns-clause-begin c = cut_boundary c.args.left.now c.args.at c.trivia_len-gap.result c.utf8.left (trivia_longest c.args.at c.args.left.now c.trivia_len-gap.result c.trivia_len-gap.ensures)

pub returns-clause-end : goal.returns-clause-end
returns-clause-end c f e =
    found_boundary c.args.goal c.is_fresh.result c.args.left.now c.args.at c.trivia_len-gap.result c.token_at-found.result f c.utf8.left
    (trivia_longest c.args.at c.args.left.now c.trivia_len-gap.result c.trivia_len-gap.ensures)
    (subst (λ (t : List ℕ). IsFoundFor c.args.goal c.is_fresh.result t c.token_at-found.result) c.split_at.ensures.back c.token_at-found.ensures.found) e
