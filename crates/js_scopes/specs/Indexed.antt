-- A scope whose names can be looked up.
use Rattle.std.specs.Prelude.{◌≡◌, ℕ, List, [], ◌∷◌, map, is_some, if◌then◌else◌}
use Rattle.std.specs.BTreeMap.{is_at}
use Rattle.std.specs.Borrow.{Bor}
use Rattle.std.specs.Cmp.Lexicographic.{slice_cmp}
use Rattle.std.specs.Map.{lookup}
use Rattle.std.specs.Option.{option_map}
use Rattle.std.specs.Ordering.{nat_cmp}
use Rattle.js_tree.specs.declared.token.Token.{Token}
use Rattle.js_scopes.specs.Names.{Scope, firsts, first_in}

-- where the names that a scope declares are first declared
abbrev pub scope_starts : Scope → List ℕ
scope_starts scope = map (λ (t : Token). t.start) (firsts scope)

-- where a token stands, unless a token before it declares the name
abbrev pub first_start : Token → Scope → List ℕ
first_start t before = if is_some (first_in t.text before) then [] else t.start ∷ []

-- what is kept finds the first token of each name of the scope, and has them in their order
pub record IsIndexed (starts : List (Bor (List ℕ) × ℕ)) (firsts_at : List ℕ) (scope : Scope) : Type 0 where
  pub found : (name : List ℕ) → lookup (is_at (λ (k : Bor (List ℕ)). slice_cmp nat_cmp name k.now)) starts ≡ option_map (λ (t : Token). t.start) (first_in name scope)
  pub listed : firsts_at ≡ scope_starts scope
