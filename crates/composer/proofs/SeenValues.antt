-- The values of a graph are those of the least solution at interface vertices.
use Rattle.std.proofs.Common.{◌≡◌, ℕ, suc, ◌+◌, ◌<◌, Bool, true, false, cond, List, [], ◌∷◌, length, map, get_or, refl, ap, sym, ◌∙◌, subst, arith, inl, inr, Some}
use Rattle.std.specs.Prelude.{Contains, ⊤, ◌↔◌}
use Rattle.std.specs.List.{enumerate_from}
use Rattle.std.proofs.lemmas.List.{get_or_default}
use Rattle.std.proofs.lemmas.Option.{slice_get-get_or}
use Rattle.flow_rules.specs.declared.vertex.Vertex.TheVariants.{Elem}
use Rattle.flow_fold.specs.Pairs.{is_internal}
use Rattle.composer.specs.declared.application.ModuleVertex.{ModuleVertex}
use Rattle.composer.specs.declared.application.Value.{Value}
use Rattle.composer.specs.declared.system.System.{System}
use Rattle.composer.specs.Application.{at_module}
use Rattle.composer.specs.Numbered.{IsSystemIn}
use Rattle.composer.specs.Numbers.{value_at, values_at, values_of, vertex_at}
use Rattle.composer.specs.Rows.{row}
use Rattle.composer.specs.Solution.{InSolution}
use Rattle.composer.specs.Solved.{AreSolved}
use Rattle.composer.proofs.Members.{none, cons_cases, from_flat_map, into_flat_map, from_map, into_map}
use Rattle.composer.proofs.RowLemmas.{in_from_member, member_from_in}
use Rattle.composer.proofs.SolvedLemmas.{enumerated}
use Rattle.composer.proofs.WayLemmas.{solution_in}

-- a numbered item stands at its number
record IsPlaced {X : Type 0} (n : ℕ) (xs : List X) (p : ℕ × X) : Type 0 where
  pub place : ℕ
  pub number : p.0 ≡ n + place
  pub within : place < length xs
  pub is : (d : X) → get_or xs place d ≡ p.1

from_enumerated : {X : Type 0} (n : ℕ) (xs : List X) (p : ℕ × X) → Contains (enumerate_from n xs) p → IsPlaced n xs p
from_enumerated n [] p h = absurd (none p h)
from_enumerated n (y ∷ ys) p h = elim (cons_cases (n, y) (enumerate_from (n + 1) ys) p h) [
  | inl e ↦ (let z : n ≡ n + 0 = omega arith in record { place = 0; number = sym (ap (λ (q : ℕ × _). q.0) e) ∙ z; within = omega arith; is = λ d. ap (λ (q : ℕ × _). q.1) e })
  | inr g ↦ (let r = from_enumerated (n + 1) ys p g in
      let z : n + 1 + r.place ≡ n + suc r.place = omega arith in
      record { place = suc r.place; number = r.number ∙ z; within = omega (arith, r.within); is = λ d. r.is d })
]

module _ (a : System ModuleVertex Value) (vs : List ModuleVertex) (rows : List (List ℕ)) (solved : AreSolved a vs rows) where
  at_number : (n : ℕ) (u : ModuleVertex) (t : Value) (v : ModuleVertex) (b : Bool) → is_internal u.vertex ≡ b → vertex_at vs n ≡ u → Contains {X = Value × ModuleVertex} (cond b [] (map (λ k. (value_at a k, u)) (row rows n))) (t, v) → (is_internal v.vertex ≡ false) × InSolution a t v
  at_number n u t v true e at h = absurd (none (t, v) h)
  at_number n u t v false e at h =
      let p = from_map (λ k. (value_at a k, u)) (row rows n) (t, v) h in
      let here' : u ≡ v = ap (λ (q : Value × ModuleVertex). q.1) p.2 in
      let value' : value_at a p.0 ≡ t = ap (λ (q : Value × ModuleVertex). q.0) p.2 in
      let x : InSolution a (value_at a p.0) (vertex_at vs n) = solved.found p.0 n (in_from_member p.0 (row rows n) p.1) in
      (ap (λ (w : ModuleVertex). is_internal w.vertex) (sym here') ∙ e, subst (λ s. InSolution a s v) value' (subst (λ w. InSolution a (value_at a p.0) w) (at ∙ here') x))

  found : (t : Value) (v : ModuleVertex) → Contains {X = Value × ModuleVertex} (values_of a.functions vs rows) (t, v) → (is_internal v.vertex ≡ false) × InSolution a t v
  found t v h =
      let p = from_flat_map (values_at a.functions rows) (enumerate_from 0 vs) (t, v) h in
      let r = from_enumerated 0 vs p.0 p.1 in
      let z : p.0.0 ≡ r.place = omega (arith, r.number) in
      at_number p.0.0 p.0.1 t v (is_internal p.0.1.vertex) refl (ap (λ n. vertex_at vs n) z ∙ r.is (at_module 0 Elem)) p.2

  all : IsSystemIn (Contains vs) a → (t : Value) (v : ModuleVertex) → is_internal v.vertex ≡ false → InSolution a t v → Contains {X = Value × ModuleVertex} (values_of a.functions vs rows) (t, v)
  all members t v e x = at_place (solution_in (Contains vs) (λ s. ⊤) a members (λ f c. tt) tt t v x).1
    where
      with_value : (n : ℕ) → (k : ℕ) → value_at a k ≡ t → Contains (row rows n) k → Contains {X = Value × ModuleVertex} (values_at a.functions rows (n, v)) (t, v)
      with_value n k is c = rw e (subst (λ s. Contains {X = Value × ModuleVertex} (map (λ j. (value_at a j, v)) (row rows n)) (s, v)) is (into_map (λ j. (value_at a j, v)) (row rows n) k c))

      at_place : Contains vs v → Contains {X = Value × ModuleVertex} (values_of a.functions vs rows) (t, v)
      at_place (n, lt, at) =
          let is : vertex_at vs n ≡ v = get_or_default vs n (at_module 0 Elem) v lt ∙ at in
          let (k, value', h) = solved.all t n lt (subst (λ w. InSolution a t w) (sym is) x) in
          into_flat_map (values_at a.functions rows) (enumerate_from 0 vs) (n, v) (t, v)
          (let z : 0 + n ≡ n = omega arith in subst (λ j. Contains {X = ℕ × ModuleVertex} (enumerate_from 0 vs) (j, v)) z (enumerated 0 vs n v (slice_get-get_or vs n v lt ∙ ap Some at)))
          (with_value n k value' (member_from_in k (row rows n) h))

  pub values_are : IsSystemIn (Contains vs) a → (t : Value) (v : ModuleVertex) → Contains {X = Value × ModuleVertex} (values_of a.functions vs rows) (t, v) ↔ ((is_internal v.vertex ≡ false) × InSolution a t v)
  values_are members t v = (found t v, λ h. all members t v h.0 h.1)
