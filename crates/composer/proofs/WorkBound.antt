-- The work of a numbered system is no more than the uses of the system that it stands for.
use Rattle.std.proofs.Common.{◌≡◌, ℕ, ◌+◌, ◌≤◌, Bool, true, List, length, ap, sym, ◌∙◌, subst, arith}
use Rattle.std.specs.Prelude.{nat_eq}
use Rattle.std.specs.List.{IsDistinct}
use Rattle.std.proofs.lemmas.List.{length-map}
use Rattle.composer.specs.declared.system.System.{System}
use Rattle.composer.specs.Numbered.{Below, HasValues, IsSystemIn, map_system}
use Rattle.composer.specs.Rows.{IsSolution, is_in, row}
use Rattle.composer.specs.Solution.{InSolution}
use Rattle.composer.specs.Uses.{TellsSolution, bases_of, uses_of}
use Rattle.composer.specs.Work.{work_of}
use Rattle.composer.proofs.Renamed.{renamed_has}
use Rattle.composer.proofs.UseLemmas.{uses_map, work_within_uses}
use Rattle.composer.proofs.WayLemmas.{solution_in, values_upto}

pub within_uses : {V T : Type 0} (f : ℕ → V) (e : ℕ → T) (n : ℕ) (a : System V T) (b : System ℕ ℕ) (rows : List (List ℕ)) → map_system f e b ≡ a → IsSystemIn (Below n) b → HasValues b → IsSolution b rows
    → ((v : ℕ) → IsDistinct nat_eq (row rows v)) → (has : T → V → Bool) → TellsSolution a has → (before after : ℕ) → after ≡ before + bases_of b + work_of b (row rows) → after ≤ before + uses_of a has + bases_of a
within_uses {V} {T} f e n a b rows names inside values solution distinct has tells before after is =
    let least = work_within_uses b values (row rows) (λ t v. has (e t) (f v)) distinct bound held in
    let uses : uses_of a has ≡ uses_of b (λ t v. has (e t) (f v)) = ap (λ (x : System V T). uses_of x has) (sym names) ∙ uses_map f e b has in
    let functions : length a.functions ≡ length b.functions = ap (λ (x : System V T). length x.functions) (sym names) ∙ length-map b.functions _ in
    let natives : length a.native_at ≡ length b.native_at = ap (λ (x : System V T). length x.native_at) (sym names) ∙ length-map b.native_at _ in
    omega (arith, is, least, uses, functions, natives)
  where
    bound : (t v : ℕ) → is_in t (row rows v) ≡ true → t ≤ b.native
    bound t v h = (solution_in (Below n) (λ t. t ≤ b.native) b inside (values_upto b values) (omega arith) t v (solution.found t v h)).0

    held : (t v : ℕ) → is_in t (row rows v) ≡ true → has (e t) (f v) ≡ true
    held t v h = (tells (e t) (f v)).1 (subst (λ (x : System V T). InSolution x (e t) (f v)) names (renamed_has f e b t v (solution.found t v h)))
