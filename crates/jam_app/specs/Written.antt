-- What a sink holds after some of a text.
use Rattle.std.specs.Prelude.{◌≡◌, ℕ, List, ◌++◌, take, Option, IfSome, Some}

-- where the sink tells its bytes, it has taken the whole text
abbrev pub TakesAll : Option (List ℕ) → Option (List ℕ) → List ℕ → Type 0
TakesAll old new text = IfSome old (λ bytes. new ≡ Some (bytes ++ text))

-- where the sink tells its bytes, it has taken a front of the text
abbrev pub TakesFront : Option (List ℕ) → Option (List ℕ) → List ℕ → Type 0
TakesFront old new text = IfSome old (λ bytes. (n : ℕ) × (new ≡ Some (bytes ++ take n text)))
