-- What a scanner has found at the front of a text.
use Rattle.std.specs.Prelude.{◌≡◌, ℕ, ◌<◌, ◌≤◌, Bool, List, ◌++◌, length, take, drop}
use Rattle.std.specs.Char.{encode_utf8, IsScalar}
use Rattle.std.specs.List.{fold}
use Rattle.std.specs.Str.{IsUtf8, chars}
use Rattle.js_tree.specs.Lexical.{Reads, ReadsBytes}

-- the character c of the text begins at the offset
pub record IsCharAt (text : List ℕ) (at c : ℕ) : Type 0 where
  pub rest : List ℕ
  pub here : drop at text ≡ encode_utf8 c ++ rest
  pub scalar : IsScalar c

-- the fronts of the text up to n bytes lead to a part, and of those that are longer than last none is of the form
pub record Sofar {S : Type 0} (next : S → ℕ → S) (may_end : S → Bool) (from : S) (text : List ℕ) (n last : ℕ) (part : S) : Type 0 where
  pub within : n ≤ length text
  pub utf8 : IsUtf8 (take n text)
  pub reads : fold next from (chars (take n text)) ≡ part
  pub most : last ≤ n
  pub ends : 0 < last → Reads next may_end from (take last text)
  pub none : (k : ℕ) → last < k → k ≤ n → Reads next may_end from (take k text) → ⊥

-- a front of the text with n bytes is of the form, unless n is 0, and none that is longer
pub record Reached (P : List ℕ → Type 0) (text : List ℕ) (n : ℕ) : Type 0 where
  pub within : n ≤ length text
  pub ends : 0 < n → P (take n text)
  pub none : (k : ℕ) → n < k → k ≤ length text → P (take k text) → ⊥

-- the same over bytes
pub record SofarBytes {S : Type 0} (next : S → ℕ → S) (may_end : S → Bool) (from : S) (text : List ℕ) (n last : ℕ) (part : S) : Type 0 where
  pub within : n ≤ length text
  pub reads : fold next from (take n text) ≡ part
  pub most : last ≤ n
  pub ends : 0 < last → ReadsBytes next may_end from (take last text)
  pub none : (k : ℕ) → last < k → k ≤ n → ReadsBytes next may_end from (take k text) → ⊥
