-- How a text spells a range (npm manual, "semver", "Ranges", in the forms that stand for themselves:
-- alternatives between `||`, pieces between spaces, an operator and a whole version).
use Rattle.std.specs.Prelude.{◌≡◌, ℕ, ◌+◌, ◌<◌, ◌==◌, ◌⊎◌, Bool, List, [], ◌∷◌, length, take, drop, Option, Some, None, Ok, if◌then◌else◌}
use Rattle.std.specs.List.{prefix_len, position_or_len}
use Rattle.semver.specs.Parse.{Parts, version_parts}
use Rattle.npm_range.specs.Conditions.{Condition, Always, Compares}
use Rattle.npm_range.specs.declared.comparator.Operator.{Operator}
use Rattle.npm_range.specs.declared.comparator.Operator.TheVariants as operator

-- a stretch of a text, and the offset in bytes at which it begins
pub record Stretch : Type 0 where
  pub at : ℕ
  pub text : List ℕ

-- a stretch without its first bytes
abbrev pub ahead : ℕ → Stretch → Stretch
ahead n s = record { at = s.at + n; text = drop n s.text }

-- the first bytes of a stretch
abbrev pub first : ℕ → Stretch → Stretch
first n s = record { at = s.at; text = take n s.text }

-- ---- pieces

-- a space, U+0020
abbrev pub is_space : ℕ → Bool
is_space b = b == 32

-- a stretch from its first byte on that is no space
unfoldable pub past_spaces : Stretch → Stretch
past_spaces s = ahead (prefix_len is_space s.text) s

-- the next piece, up to a space or the end; it is empty only where no piece is left
unfoldable pub piece : Stretch → Stretch
piece s = first (position_or_len is_space (past_spaces s).text) (past_spaces s)

-- what follows the next piece
unfoldable pub past_piece : Stretch → Stretch
past_piece s = ahead (length (piece s).text) (past_spaces s)

-- the longer of two operators, where `=` follows
abbrev pub or_equal : Operator → Operator → List ℕ → Operator × List ℕ
or_equal short long [] = (short, [])
or_equal short long (b ∷ rest) = if b == 61 then (long, rest) else (short, b ∷ rest)

-- the longest operator at the front of a piece, and what follows it; without one it is `=`
unfoldable pub split_operator : List ℕ → Operator × List ℕ
split_operator [] = (operator.Equal, [])
split_operator (b ∷ rest) =
    if b == 60 then or_equal operator.Less operator.LessEqual rest
    else if b == 62 then or_equal operator.Greater operator.GreaterEqual rest
    else if b == 61 then (operator.Equal, rest)
    else (operator.Equal, b ∷ rest)

-- the text is a whole version (SemVer 2.0.0), and the condition compares with it
abbrev pub IsBound : Operator → List ℕ → Condition → Type 0
IsBound op text c = (version : Parts) × (version_parts text ≡ Ok version) × (c ≡ Compares op version)

-- a piece that is whole by itself: `*`, or a version, after an operator or none
abbrev pub IsWhole : List ℕ → Condition → Type 0
IsWhole text c = ((text ≡ 42 ∷ []) × (c ≡ Always)) ⊎ IsBound (split_operator text).0 (split_operator text).1 c

-- a piece that is an operator alone
abbrev pub IsAlone : List ℕ → Type 0
IsAlone text = (0 < length text) × ((split_operator text).1 ≡ [])

-- the next condition of an alternative, and what follows it: an operator alone takes the piece after it as its version
abbrev pub NextCondition : Stretch → Condition → Stretch → Type 0
NextCondition s c left = (IsWhole (piece s).text c × (left ≡ past_piece s))
    ⊎ (IsAlone (piece s).text × IsBound (split_operator (piece s).text).0 (piece (past_piece s)).text c × (left ≡ past_piece (past_piece s)))

-- an alternative ends: with no piece left, or, at an offset, with a piece that begins no condition
abbrev pub EndsConditions : Stretch → Option ℕ → Type 0
EndsConditions s None = (piece s).text ≡ []
EndsConditions s (Some offset) = (0 < length (piece s).text) × (offset ≡ (piece s).at)
    × ((c : Condition) (left : Stretch) → NextCondition s c left → ⊥)

-- ---- readings

-- these items are read one after another from a place, each by a step, up to where the reading ends in this way
abbrev pub Reads : {S A F : Type 0} → (S → A → S → Type 0) → (S → F → Type 0) → S → List A → F → Type 0
Reads {S} Step Ends s [] end = Ends s end
Reads {S} Step Ends s (a ∷ items) end = (left : S) × Step s a left × Reads Step Ends left items end

-- the conditions of an alternative, or those before its first bad piece and the offset of that piece
abbrev pub ReadsAlternative : Stretch → List Condition → Option ℕ → Type 0
ReadsAlternative s conditions fault = Reads NextCondition EndsConditions s conditions fault

-- ---- alternatives

-- `||` stands at this place of a text
abbrev pub HasBars : List ℕ → ℕ → Type 0
HasBars text n = (rest : List ℕ) × (drop n text ≡ 124 ∷ 124 ∷ rest)

-- the alternative at the front of a stretch, up to the first `||` or the end, and what follows that `||`
abbrev pub IsFront : Stretch → Stretch → Option Stretch → Type 0
IsFront s alternative None = (alternative ≡ s) × ((n : ℕ) → HasBars s.text n → ⊥)
IsFront s alternative (Some left) = (n : ℕ) × HasBars s.text n × ((k : ℕ) → k < n → HasBars s.text k → ⊥)
    × (alternative ≡ first n s) × (left ≡ ahead (n + 2) s)

-- the next alternative of a range, and what follows it
abbrev pub NextAlternative : Option Stretch → List Condition → Option Stretch → Type 0
NextAlternative None conditions left = ⊥
NextAlternative (Some s) conditions left = (a : Stretch) × IsFront s a left × ReadsAlternative a conditions None

-- a range ends: after an alternative with no `||` after it, or, at an offset, within an alternative that has a bad piece
abbrev pub EndsAlternatives : Option Stretch → Option ℕ → Type 0
EndsAlternatives None None = Unit {0}
EndsAlternatives None (Some offset) = ⊥
EndsAlternatives (Some s) None = ⊥
EndsAlternatives (Some s) (Some offset) = (a : Stretch) × (left : Option Stretch) × (before : List Condition)
    × IsFront s a left × ReadsAlternative a before (Some offset)

-- the alternatives of a text, or those before its first bad piece and the offset of that piece
abbrev pub ReadsRange : List ℕ → List (List Condition) → Option ℕ → Type 0
ReadsRange text range fault = Reads NextAlternative EndsAlternatives (Some (record { at = 0; text = text })) range fault

-- the text spells the range
abbrev pub Spells : List ℕ → List (List Condition) → Type 0
Spells text range = ReadsRange text range None

-- the first bad piece of the text begins at this offset
abbrev pub IsFirstBad : List ℕ → ℕ → Type 0
IsFirstBad text offset = (before : List (List Condition)) × ReadsRange text before (Some offset)
