-- The lists of arrows at longer lists.
use Rattle.std.proofs.Common.{◌≡◌, ℕ, List, [], ◌∷◌, ◌++◌, refl, ap}
use Rattle.composer.specs.Steps.{to_each}

pub to_each_push : (from : ℕ) (vs : List ℕ) (v : ℕ) → to_each from (vs ++ v ∷ []) ≡ to_each from vs ++ record { from = from; to = v } ∷ []
to_each_push from [] v = refl
to_each_push from (x ∷ vs) v = ap (λ rest. record { from = from; to = x } ∷ rest) (to_each_push from vs v)
