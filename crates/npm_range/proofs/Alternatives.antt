-- The alternative at the front of a stretch.
use Rattle.std.proofs.Common.{◌≡◌, ℕ, ◌+◌, ◌<◌, List, [], ◌∷◌, length, take, drop, Some, arith}
use Rattle.std.specs.Str.Pattern.{HasTextAt, LacksTextAt}
use Rattle.npm_range.specs.Grammar.{IsFront}

-- what `split_once` finds is the front
pub IsFront-found : (n i j : ℕ) (text front rest : List ℕ) → ((k : ℕ) → k < i → LacksTextAt (124 ∷ 124 ∷ []) text k)
    → HasTextAt (124 ∷ 124 ∷ []) text i j → front ≡ take i text → rest ≡ drop j text → length front ≡ i
    → IsFront (record { at = n; text = text }) (record { at = n; text = front }) (Some (record { at = n + length front + 2; text = rest }))
IsFront-found n i j text front rest lacks has f r w =
    let ends : j ≡ i + 2 = has.ends in
    let place : n + length front + 2 ≡ n + (i + 2) = omega arith in
    (i, (drop j text, has.split), (λ k l h. lacks k l h.0 h.1), cc, cc)
