-- Spaces and pieces at the front of a stretch.
use Rattle.std.proofs.Common.{◌≡◌, ◌≢◌, ℕ, ◌+◌, ◌<◌, ◌≤◌, List, [], ◌∷◌, length, take, drop, get_or, refl, arith, add-zero, suc}
use Rattle.std.proofs.lemmas.Bool.{ne_eqb}
use Rattle.std.proofs.lemmas.List.{length-drop, length-take}
use Rattle.std.proofs.lemmas.List.Sums.{prefix_len_is}
use Rattle.std.specs.List.{position_or_len, prefix_len}
use Rattle.std.specs.Prelude.{not}
use Rattle.npm_range.proofs.Operators.{not_first}
use Rattle.npm_range.specs.Grammar.{Stretch, is_space, past_piece, past_spaces, piece}

-- a space at the front goes
pub past_spaces-space : (n : ℕ) (rest : List ℕ) → past_spaces (record { at = n; text = 32 ∷ rest }) ≡ past_spaces (record { at = n + 1; text = rest })
unfolding past_spaces
past_spaces-space n rest =
    let count = prefix_len is_space rest in
    let same : drop (1 + count) (32 ∷ rest) ≡ drop count rest = let e : 1 + count ≡ suc count = omega arith in rw e refl in
    let places : n + (1 + count) ≡ n + 1 + count = omega arith in
    cc

-- without one the stretch stays
pub past_spaces-none : (n : ℕ) (text : List ℕ) → ((rest : List ℕ) → text ≢ 32 ∷ rest) → past_spaces (record { at = n; text = text }) ≡ record { at = n; text = text }
unfolding past_spaces
past_spaces-none n [] h = rw add-zero refl
past_spaces-none n (b ∷ rest) h = rw (not_first 32 b rest h, add-zero) refl

-- the place of the first space, or the length
pub position-found : (text : List ℕ) (k : ℕ) → k < length text → get_or text k 0 ≡ 32 → ((i : ℕ) → i < k → get_or text i 0 ≢ 32) → position_or_len is_space text ≡ k
position-found text k l e none =
    prefix_len_is (λ b. not (is_space b)) text k 0 (omega arith) (λ i h. rw (ne_eqb _ _ (none i h)) refl) (λ _. rw e refl)

pub position-none : (text : List ℕ) → ((i : ℕ) → i < length text → get_or text i 0 ≢ 32) → position_or_len is_space text ≡ length text
position-none text none =
    prefix_len_is (λ b. not (is_space b)) text (length text) 0 (omega arith) (λ i h. rw (ne_eqb _ _ (none i h)) refl) (λ h. absurd (omega arith))

-- a piece and what follows it are parts of the stretch
pub piece-shorter : (s : Stretch) → length (past_piece s).text + length (piece s).text ≤ length s.text
unfolding past_spaces piece past_piece
piece-shorter s =
    let here = drop (prefix_len is_space s.text) s.text in
    let width = position_or_len is_space here in
    omega (arith, length-drop (length (take width here)) here, length-take width here, length-drop (prefix_len is_space s.text) s.text)

-- the piece and what follows it, where the spaces before it are skipped and it is cut off
pub piece-cut : (s t : Stretch) (front : List ℕ) → past_spaces s ≡ t → front ≡ take (position_or_len is_space t.text) t.text
    → piece s ≡ record { at = t.at; text = front }
unfolding piece
piece-cut s t front e f = rw (e, f) refl

pub past_piece-cut : (s t : Stretch) (front back : List ℕ) → past_spaces s ≡ t → front ≡ take (position_or_len is_space t.text) t.text
    → length front ≡ position_or_len is_space t.text → back ≡ drop (position_or_len is_space t.text) t.text
    → past_piece s ≡ record { at = t.at + length front; text = back }
unfolding past_piece
past_piece-cut s t front back e f w b =
    let p = piece-cut s t front e f in
    rw (p, e, b, ← w) refl
