-- How often values go along the ways of a system, where a test tells which values stand where.
use Rattle.std.specs.Prelude.{ℕ, ◌+◌, ◌≤◌, ◌↔◌, Bool, IsTrue, cond, List, [], ◌++◌, length, flat_map}
use Rattle.std.specs.List.{sum_by}
use Rattle.composer.specs.declared.system.Arrow.{Arrow}
use Rattle.composer.specs.declared.system.Callable.{Callable}
use Rattle.composer.specs.declared.system.CallSite.{CallSite}
use Rattle.composer.specs.declared.system.System.{System}
use Rattle.flow_rules.specs.Constraints.{ModuleConstraints}
use Rattle.composer.specs.declared.application.Link.{Link}
use Rattle.composer.specs.declared.application.ModuleVertex.{ModuleVertex}
use Rattle.composer.specs.declared.application.Value.{Value}
use Rattle.composer.specs.Application.{system_of}
use Rattle.composer.specs.Solution.{InSolution}
use Rattle.composer.specs.Steps.{call_arrows, native_arrows, callback_arrows, inputs}

-- the test tells what is in the solution
abbrev pub TellsSolution : {V T : Type 0} → System V T → (T → V → Bool) → Type 0
TellsSolution a has = (t : _) (v : _) → IsTrue (has t v) ↔ InSolution a t v

-- what a list of ways gives for each function that stands at the vertex
abbrev pub for_each_at : {V T : Type 0} → System V T → (T → V → Bool) → V → (Callable V T → List (Arrow V)) → List (Arrow V)
for_each_at a has v ways = flat_map (λ f. cond (has f.value v) (ways f) []) a.functions

-- the ways of a native that a site calls: to its result, and those of each function that it is handed at one of the inputs
abbrev pub native_reasons : {V T : Type 0} → System V T → (T → V → Bool) → CallSite V → List (Arrow V)
native_reasons a has s = native_arrows s ++ flat_map (λ w. for_each_at a has w (callback_arrows a.elem s)) (inputs s)

-- the ways of a site: those of each function that it calls, and of a native
abbrev pub site_reasons : {V T : Type 0} → System V T → (T → V → Bool) → CallSite V → List (Arrow V)
site_reasons a has s = for_each_at a has s.callee (call_arrows s) ++ cond (has a.native s.callee) (native_reasons a has s) []

-- all ways, each as often as there are reasons for it
abbrev pub reasons : {V T : Type 0} → System V T → (T → V → Bool) → List (Arrow V)
reasons a has = a.flows ++ flat_map (site_reasons a has) a.sites

-- how many values stand at the vertex
abbrev pub count_at : {V T : Type 0} → System V T → (T → V → Bool) → V → ℕ
count_at a has v = sum_by (λ f. cond (has f.value v) 1 0) a.functions + cond (has a.native v) 1 0

-- each value at each vertex, with each way from there and each reason for it
abbrev pub uses_of : {V T : Type 0} → System V T → (T → V → Bool) → ℕ
uses_of a has = sum_by (λ way. count_at a has way.from) (reasons a has)

-- the values that stand somewhere from the start
abbrev pub bases_of : {V T : Type 0} → System V T → ℕ
bases_of a = length a.functions + length a.native_at

-- the count rose by no more than the uses of the application and its values that stand somewhere from the start
abbrev pub IsWithinUses : List ModuleConstraints → List Link → ℕ → ℕ → Type 0
IsWithinUses modules links before after =
    (has : Value → ModuleVertex → Bool) → TellsSolution (system_of modules links) has → after ≤ before + uses_of (system_of modules links) has + bases_of (system_of modules links)
