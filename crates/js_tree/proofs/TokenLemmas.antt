-- The tokens of a node are those of its spelling.
use Rattle.std.proofs.Common.{◌≡◌, ℕ, ◌+◌, Bool, List, [], ◌∷◌, ◌++◌, cond, refl, ap, ◌∙◌, arith, Some}
use Rattle.std.specs.List.{AllByRecursion, count_by, flat_map}
use Rattle.std.proofs.lemmas.List.Sums.{sum_by-append}
use Rattle.js_tree.specs.declared.token.Token.{Token}
use Rattle.js_tree.specs.declared.tree.Stmt.{Stmt}
use Rattle.js_tree.specs.Line.{LineItem, AToken, ANode, line_of, tokens_at}
use Rattle.js_tree.specs.Line.{tokens_in as spelled_in}
use Rattle.js_tree.specs.Parts.{Node, ABody, parts}
use Rattle.js_tree.specs.Pieces.{tokens}
use Rattle.js_tree.specs.Spelling.{stmts}
use Rattle.js_tree.specs.Tokens.{own_tokens, tokens_among, tokens_in}
use Rattle.js_tree.proofs.GatherLemmas.{along_parts}
use Rattle.js_tree.proofs.LineLemmas.{nodes_in, line_nodes, body_tokens}
use Rattle.js_tree.proofs.LineLemmas.{tokens_are as spelled_are}
use Rattle.js_tree.proofs.PartLemmas.{gathered_is}

-- the tokens of a node are its own and those of its parts
pub tokens_are : (n : Node) → tokens_in n ≡ own_tokens n ++ flat_map tokens_in (parts n)
tokens_are n = gathered_is (λ m (u : Unit {0}). own_tokens m) (λ m u. Some u) n tt tt refl

module _ (p : Token → Bool) where
  -- how many of the tokens pass
  abbrev pub passing : List Token → ℕ
  passing = count_by p

  abbrev weigh : Token → ℕ
  weigh t = cond (p t) 1 0

  both : (xs ys : List Token) → passing (xs ++ ys) ≡ passing xs + passing ys
  both xs ys = sum_by-append weigh xs ys

  -- tokens and nodes apart
  apart : (is : List LineItem) → passing (flat_map tokens_at is) ≡ passing (tokens_among is) + passing (flat_map spelled_in (nodes_in is))
  apart [] = refl
  apart (AToken t ∷ is) =
      let a = both (t ∷ []) (flat_map tokens_at is) in
      let b = both (t ∷ []) (tokens_among is) in
      let c = apart is in
      omega (arith, a, b, c)
  apart (ANode n ∷ is) =
      let a = both (spelled_in n) (flat_map tokens_at is) in
      let b = both (spelled_in n) (flat_map spelled_in (nodes_in is)) in
      let c = apart is in
      omega (arith, a, b, c)

  -- as many of its tokens pass as of its spelling
  abbrev Same : Node → Type 0
  Same n = passing (tokens_in n) ≡ passing (spelled_in n)

  all_same : (ns : List Node) → AllByRecursion Same ns → passing (flat_map tokens_in ns) ≡ passing (flat_map spelled_in ns)
  all_same [] each = refl
  all_same (n ∷ ns) each =
      let a = both (tokens_in n) (flat_map tokens_in ns) in
      let b = both (spelled_in n) (flat_map spelled_in ns) in
      let c = each.0 in
      let d = all_same ns each.1 in
      omega (arith, a, b, c, d)

  same_over : (n : Node) → AllByRecursion Same (parts n) → Same n
  same_over n each =
      let a = ap passing (tokens_are n) ∙ both (own_tokens n) (flat_map tokens_in (parts n)) in
      let b = ap passing (spelled_are n) ∙ apart (line_of n) in
      let c = ap (λ ns. passing (flat_map spelled_in ns)) (line_nodes n) in
      let d = all_same (parts n) each in
      omega (arith, a, b, c, d)

  pub same : (n : Node) → Same n
  same = along_parts Same same_over

  -- as many tokens of statements pass as of their spelling
  pub covered : (body : List Stmt) → passing (tokens_in (ABody body)) ≡ passing (tokens (stmts body []))
  covered body = same (ABody body) ∙ ap passing (body_tokens body)
