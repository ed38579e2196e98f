-- The ends of call edges are functions of the modules.
use Rattle.std.proofs.Common.{◌≡◌, ℕ, zero, suc, ◌+◌, ◌<◌, ◌≤◌, ◌⊎◌, inl, inr, List, [], ◌∷◌, length, map, refl, sym, ap, subst, ◌∙◌, arith, Option, Some, None}
use Rattle.std.specs.Prelude.{All, Contains, slice_get, slice_index}
use Rattle.std.specs.List.{enumerate_from, flat_map}
use Rattle.std.specs.Option.{option_map}
use Rattle.std.proofs.lemmas.List.{length-map}
use Rattle.std.proofs.lemmas.List.Elements.{All-contains, All-contains_itself, All-weaker}
use Rattle.std.proofs.lemmas.Option.{slice_get-map, slice_get_cases, slice_get_within, get_or_from_slice_get}
use Rattle.jam_base.specs.declared.edge.Edge.{Edge}
use Rattle.jam_base.specs.declared.edge.FunctionRef.{FunctionRef}
use Rattle.js_scopes.specs.declared.function.FunctionInfo.{FunctionInfo}
use Rattle.flow_rules.specs.Constraints.{ModuleConstraints}
use Rattle.flow_rules.specs.Rules.{AreFunctions, IsRequire, IsSite, KeepsRules}
use Rattle.composer.specs.declared.application.Link.{Link}
use Rattle.composer.specs.declared.application.ModuleVertex.{ModuleVertex}
use Rattle.composer.specs.declared.application.Value.{Value}
use Rattle.composer.specs.declared.application.Value.TheVariants.{Fun, Native}
use Rattle.composer.specs.declared.system.Callable.{Callable}
use Rattle.composer.specs.declared.system.System.{System}
use Rattle.composer.specs.Application.{callable_of, of_each, system_of}
use Rattle.composer.specs.Edges.{IsEdge, IsEdgeList}
use Rattle.composer.specs.Edges.IsEdge.{call, callback, require}
use Rattle.composer.specs.Parts.{AreLinks, IsNamed}
use Rattle.composer.specs.Solution.{Derives, InSolution, OneStepOn}
use Rattle.composer.specs.Solution.IsBase.{literal, native}
use Rattle.composer.specs.Solution.OneStepOn.{along, base, before}
use Rattle.composer.proofs.Members.{from_flat_map, from_map, none, cons_cases}
use Rattle.reach_path.specs.Levels.{IsBetween, IsFunction}
use Rattle.jam_app.specs.Showing.{function_counts}

-- a value that stands somewhere is the native or a function of the system
known : {V T : Type 0} (a : System V T) (n : ℕ) (t : T) (v : V) → Derives a n t v → (t ≡ a.native) ⊎ ((f : Callable V T) × Contains a.functions f × (f.value ≡ t))
known a zero t v d = absurd d
known a (suc n) t v (before d) = known a n t v d
known a (suc n) t v (base (literal f here value at)) = inr (f, here, value)
known a (suc n) t v (base (native is at)) = inl is
known a (suc n) t v (along u d why) = known a n t u d

-- an item of a list with places stands at its place
in_enumerated : {X : Type 0} (xs : List X) (n k : ℕ) (x : X) → Contains (enumerate_from n xs) (k, x) → (n ≤ k) × ((j : ℕ) → k ≡ n + j → slice_get xs j ≡ Some x)
in_enumerated {X = X} [] n k x h = absurd (none (k, x) h)
in_enumerated {X = X} (y ∷ xs) n k x h = elim (cons_cases (n, y) (enumerate_from (n + 1) xs) (k, x) h) [
  | inl is ↦ (
      let number : n ≡ k = ap (λ (p : ℕ × X). p.0) is in
      let item : y ≡ x = ap (λ (p : ℕ × X). p.1) is in
      (omega (arith, number), λ j e. at_first j (omega (arith, number, e)) item)
      )
  | inr later ↦ (
      let more = in_enumerated xs (n + 1) k x later in
      (omega (arith, more.0), λ j e. at_later j e more)
      )
]
  where
    at_first : (j : ℕ) → j ≡ 0 → y ≡ x → slice_get (y ∷ xs) j ≡ Some x
    at_first zero e item = ap Some item
    at_first (suc j) e item = absurd (omega (arith, e))

    at_later : (j : ℕ) → k ≡ n + j → (n + 1 ≤ k) × ((i : ℕ) → k ≡ n + 1 + i → slice_get xs i ≡ Some x) → slice_get (y ∷ xs) j ≡ Some x
    at_later zero e more = absurd (omega (arith, e, more.0))
    at_later (suc j) e more = more.1 j (omega (arith, e))

module _ (modules : List ModuleConstraints) (rules : All KeepsRules modules) where
  abbrev counts : List ℕ
  counts = function_counts modules

  -- a function of a module at a place
  at_place : (f : FunctionRef) (c : ModuleConstraints) → slice_get modules f.module ≡ Some c → f.function < length c.functions → IsFunction counts f
  at_place f c here lt =
      let within = slice_get_within modules f.module c here in
      let count : slice_index counts f.module ≡ length c.functions =
      get_or_from_slice_get counts f.module (length c.functions) 0 (slice_get-map (λ (c : ModuleConstraints). length c.functions) modules f.module ∙ ap (option_map (λ (c : ModuleConstraints). length c.functions)) here) in
      record { in_modules = omega (arith, within, length-map modules (λ (c : ModuleConstraints). length c.functions)); in_module = omega (arith, lt, count) }

  keeps : (m : ℕ) (c : ModuleConstraints) → slice_get modules m ≡ Some c → KeepsRules c
  keeps m c here = All-contains KeepsRules modules c rules (m, slice_get_within modules m c here, get_or_from_slice_get modules m c c here)

  -- a module has its body
  some : (fs : List FunctionInfo) → AreFunctions fs → 0 < length fs
  some [] h = absurd h
  some (f ∷ fs) h = omega arith

  module_there : (m : ℕ) → m < length modules → (c : ModuleConstraints) × (slice_get modules m ≡ Some c)
  module_there m lt = elim (slice_get_cases modules m).1 [ inl (c, below, e, g) ↦ (c, e) | inr (past, e) ↦ absurd (omega (arith, past, lt)) ]

  pub body_there : (f : FunctionRef) → f.module < length modules → f.function ≡ 0 → IsFunction counts f
  body_there f lt zero_is =
      let there = module_there f.module lt in
      at_place f there.0 there.1 (omega (arith, zero_is, some there.0.functions (keeps f.module there.0 there.1).ordered.functions))

module _ (modules : List ModuleConstraints) (links : List Link) (rules : All KeepsRules modules) (are : AreLinks modules links) where
  -- a function that is a value stands in its module
  value_there : (f : FunctionRef) (g : Callable ModuleVertex Value) → Contains (system_of modules links).functions g → g.value ≡ Fun f → IsFunction (function_counts modules) f
  value_there f g here value =
      let m = from_flat_map (λ (p : ℕ × ModuleConstraints). map (callable_of p.0) (enumerate_from 0 p.1.functions)) (enumerate_from 0 modules) g here in
      let k = from_map (callable_of m.0.0) (enumerate_from 0 m.0.1.functions) g m.2 in
      let module_at = (in_enumerated modules 0 m.0.0 m.0.1 m.1).1 m.0.0 (omega arith) in
      let function_at = (in_enumerated m.0.1.functions 0 k.0.0 k.0.1 k.1).1 k.0.0 (omega arith) in
      let is : f ≡ record { «module» = m.0.0; function = k.0.0 } = fun_is f (record { «module» = m.0.0; function = k.0.0 }) (sym value ∙ ap (λ (c : Callable ModuleVertex Value). c.value) (sym k.2)) in
      subst (IsFunction (function_counts modules)) (sym is) (at_place modules rules (record { «module» = m.0.0; function = k.0.0 }) m.0.1 module_at (slice_get_within m.0.1.functions k.0.0 k.0.1 function_at))
    where
      fun_is : (a b : FunctionRef) → ◌≡◌ {A = Value} (Fun a) (Fun b) → a ≡ b
      fun_is a b e = cc

  callee_there : (f : FunctionRef) (v : ModuleVertex) → InSolution (system_of modules links) (Fun f) v → IsFunction (function_counts modules) f
  callee_there f v (n, d) = elim (known (system_of modules links) n (Fun f) v d) [
    | inl e ↦ absurd (not_native f e)
    | inr (g, here, value) ↦ value_there f g here value
  ]
    where
      not_native : (g : FunctionRef) → ◌≡◌ {A = Value} (Fun g) Native → ⊥
      not_native g e = cc

  edge_between : (edge : Edge) → IsEdge modules links edge → IsBetween (function_counts modules) edge
  edge_between edge (call s is x) = record {
    caller = at_place modules rules edge.caller is.constraints is.here (omega (arith, (All-contains (IsSite is.constraints) is.constraints.sites s (keeps modules rules edge.caller.module is.constraints is.here).sites is.site).1, is.holder));
    callee = callee_there edge.callee _ x;
  }
  edge_between edge (callback s w is x i y) = record {
    caller = at_place modules rules edge.caller is.constraints is.here (omega (arith, (All-contains (IsSite is.constraints) is.constraints.sites s (keeps modules rules edge.caller.module is.constraints is.here).sites is.site).1, is.holder));
    callee = callee_there edge.callee w y;
  }
  edge_between edge (require r is cl zero_is) =
      let link : Link = record { «module» = edge.caller.module; offset = edge.offset; target = edge.callee.module } in
      let named = All-contains (IsNamed modules) links link are.named cl in
      record {
        caller = at_place modules rules edge.caller is.constraints is.here (omega (arith, (All-contains (IsRequire is.constraints) is.constraints.requires_ r (keeps modules rules edge.caller.module is.constraints is.here).requires_ is.require).1, is.holder));
        callee = body_there modules rules edge.callee named.target zero_is;
      }

  pub edges_between : (edges : List Edge) → IsEdgeList modules links edges → All (IsBetween (function_counts modules)) edges
  edges_between edges list =
      All-weaker (Contains edges) (IsBetween (function_counts modules)) (λ e h. edge_between e ((list.edges_are e).0 h)) edges (All-contains_itself edges)
