-- The constraints of an application: those of its modules, and the links between them.
use Rattle.std.specs.Prelude.{ℕ, cond, List, [], ◌∷◌, ◌++◌, map, flat_map}
use Rattle.std.specs.List.{range_with_len, enumerate_from}
use Rattle.js_scopes.specs.declared.function.FunctionInfo.{FunctionInfo}
use Rattle.js_scopes.specs.declared.site.SiteInfo.{SiteInfo}
use Rattle.flow_rules.specs.declared.module.Flow.{Flow}
use Rattle.flow_rules.specs.declared.vertex.Vertex.{Vertex}
use Rattle.flow_rules.specs.declared.vertex.Vertex.TheVariants.{Prop, Elem, Global, Exports, Param, Rest, Ret, Lit, Callee, Arg, More, Recv, Res, Req}
use Rattle.flow_rules.specs.Constraints.{ModuleConstraints}
use Rattle.flow_rules.specs.Vertices.{is_shared}
use Rattle.composer.specs.declared.application.Link.{Link}
use Rattle.composer.specs.declared.application.ModuleVertex.{ModuleVertex}
use Rattle.composer.specs.declared.application.Value.{Value}
use Rattle.composer.specs.declared.application.Value.TheVariants.{Fun, Native}
use Rattle.composer.specs.declared.system.Arrow.{Arrow}
use Rattle.composer.specs.declared.system.Callable.{Callable}
use Rattle.composer.specs.declared.system.CallSite.{CallSite}
use Rattle.composer.specs.declared.system.System.{System}
use Rattle.composer.specs.Natives.{native_names}

-- the vertex of module m: its own, or the one that all modules share
abbrev pub at_module : ℕ → Vertex → ModuleVertex
at_module m v = record { «module» = cond (is_shared v) 0 m; vertex = v }

-- function number f of module m
abbrev pub callable_of : ℕ → ℕ × FunctionInfo → Callable ModuleVertex Value
callable_of m (f, info) = record {
  value = Fun (record { «module» = m; function = f });
  literal = at_module m (Lit f);
  params = map (λ j. at_module m (Param f j)) (range_with_len 0 info.params);
  rest = at_module m (Rest f);
  ret = at_module m (Ret f);
}

-- a site of module m
abbrev pub site_of : ℕ → SiteInfo → CallSite ModuleVertex
site_of m s = record {
  callee = at_module m (Callee s.offset s.part);
  args = map (λ i. at_module m (Arg s.offset s.part i)) (range_with_len 0 s.args);
  more = at_module m (More s.offset s.part);
  recv = at_module m (Recv s.offset s.part);
  res = at_module m (Res s.offset s.part);
}

-- a flow of module m
abbrev pub flow_of : ℕ → Flow → Arrow ModuleVertex
flow_of m flow = record { from = at_module m flow.from; to = at_module m flow.to }

-- what the target exports comes to what the require gives
abbrev pub link_flow : Link → Arrow ModuleVertex
link_flow link = record { from = at_module link.target Exports; to = at_module link.module (Req link.offset) }

-- a property and a global of this name
abbrev pub native_places : List ℕ → List ModuleVertex
native_places name = at_module 0 (Prop name) ∷ at_module 0 (Global name) ∷ []

-- what each module has of something, each module with its number
abbrev pub of_each : {X : Type 0} → List ModuleConstraints → (ℕ → ModuleConstraints → List X) → List X
of_each modules f = flat_map (λ (m, c). f m c) (enumerate_from 0 modules)

-- the functions, sites and flows of all modules together, with the links as flows
abbrev pub system_of : List ModuleConstraints → List Link → System ModuleVertex Value
system_of modules links = record {
  functions = of_each modules (λ m c. map (callable_of m) (enumerate_from 0 c.functions));
  sites = of_each modules (λ m c. map (site_of m) c.sites);
  flows = of_each modules (λ m c. map (flow_of m) c.flows) ++ map link_flow links;
  elem = at_module 0 Elem;
  native = Native;
  native_at = flat_map native_places native_names;
}
