use Rattle.std.proofs.Common.{◌≡◌, ◌≤◌, ◌+◌, ◌↔◌, ◌∙◌, false, length, ap, subst, sym, arith}
use Rattle.std.specs.Prelude.{Contains}
use Rattle.flow_fold.specs.Pairs.{is_internal}
use Rattle.composer.specs.declared.application.ModuleVertex.{ModuleVertex}
use Rattle.composer.specs.declared.application.Value.{Value}
use Rattle.composer.specs.declared.system.System.{System}
use Rattle.composer.specs.Graphs.{AreValues, CallGraph, function_count}
use Rattle.composer.specs.Numbers.{values_of}
use Rattle.composer.specs.Solution.{InSolution}
use Rattle.composer.specs.Uses.{TellsSolution, bases_of, uses_of}
use Rattle.composer.specs.Parts.{lists_of}
use Rattle.composer.specs.Solved.{HasOneNumber}
use Rattle.composer.proofs.NumberLemmas.{system_members}
use Rattle.composer.proofs.PlaceLemmas.{count_from, has_one_number, native_number}
use Rattle.composer.proofs.SeenValues.{values_are}
use Rattle.composer.proofs.SizeLemmas.{count_below_size}
use Rattle.composer.proofs.call_graph.compose.Goals as goal

pub solved-requires-clause-members : goal.solved-requires-clause-members
solved-requires-clause-members g c = system_members c.in_ok-vertices.vertices c.in_ok-system.system c.in_ok-vertices.ensures.all

pub solved-requires-clause-native : goal.solved-requires-clause-native
solved-requires-clause-native g c = rw c.in_ok-system.ensures (native_number (lists_of c.args.parts.now) c.args.links.now)

pub solved-requires-clause-values : goal.solved-requires-clause-values
solved-requires-clause-values g c = subst HasOneNumber (sym c.in_ok-system.ensures) (has_one_number (lists_of c.args.parts.now) c.args.links.now)

pub of-requires-2 : goal.of-requires-2
of-requires-2 g c =
    let modules = lists_of c.args.parts.now in
    let count : length c.in_ok-system.system.functions ≡ function_count modules = ap (λ (a : System ModuleVertex Value). length a.functions) c.in_ok-system.ensures ∙ count_from 0 modules in
    omega (arith, count, count_below_size modules, c.requires.size)

pub returns-clause-functions : goal.returns-clause-functions
returns-clause-functions g c =
    ap (λ (x : CallGraph). x.functions) c.of-2.ensures ∙ ap (λ (a : System ModuleVertex Value). length a.functions) c.in_ok-system.ensures ∙ count_from 0 (lists_of c.args.parts.now)

pub returns-clause-values : goal.returns-clause-values
returns-clause-values g c =
    let modules = lists_of c.args.parts.now in
    let links = c.args.links.now in
    let a = c.in_ok-system.system in
    let vs = c.in_ok-vertices.vertices in
    let rows = c.in_ok-sites.field-0.sets.sets in
    let found = values_of a.functions vs rows in
    let of_system : (t : Value) (v : ModuleVertex) → Contains {X = Value × ModuleVertex} found (t, v) ↔ ((is_internal v.vertex ≡ false) × InSolution a t v)
    = values_are a vs rows c.in_ok-sites.ensures.solved (system_members vs a c.in_ok-vertices.ensures.all) in
    let are : AreValues modules links found
    = subst (λ (x : System ModuleVertex Value). (t : Value) (v : ModuleVertex) → Contains {X = Value × ModuleVertex} found (t, v) ↔ ((is_internal v.vertex ≡ false) × InSolution x t v)) c.in_ok-system.ensures of_system in
    subst (AreValues modules links) (sym (ap (λ (x : CallGraph). x.values) c.of-2.ensures)) are

pub returns-clause-work : goal.returns-clause-work
returns-clause-work g c has tells =
    subst (λ (x : System ModuleVertex Value). c.solved.new.steps ≤ c.args.steps.now + uses_of x has + bases_of x) c.in_ok-system.ensures
    (c.in_ok-sites.ensures.work has (subst (λ (x : System ModuleVertex Value). TellsSolution x has) (sym c.in_ok-system.ensures) tells))
