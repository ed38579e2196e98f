-- The rules that the lists of a module keep.
use Rattle.std.specs.Prelude.{◌≡◌, ◌≢◌, ℕ, ◌<◌, List, [], ◌∷◌, length, All, Contains, slice_index_or}
use Rattle.std.specs.List.Sorted.{IsStrictlySortedBy}
use Rattle.js_scopes.specs.declared.function.FunctionInfo.{FunctionInfo}
use Rattle.js_scopes.specs.declared.site.SiteInfo.{SiteInfo}
use Rattle.js_scopes.specs.Scopes.{function_order, site_order}
use Rattle.flow_rules.specs.declared.module.Flow.{Flow}
use Rattle.flow_rules.specs.declared.module.Require.{Require}
use Rattle.flow_rules.specs.declared.vertex.Vertex.{Vertex}
use Rattle.flow_rules.specs.declared.vertex.Vertex.TheVariants.{Prop, Elem, Global, Exports, Param, Rest, Ret, Lit, Callee, Arg, More, Recv, Res, Req, Var, Exp}
use Rattle.flow_rules.specs.Constraints.{ModuleConstraints}
use Rattle.flow_rules.specs.Flows.{require_order, note_order}
use Rattle.flow_rules.specs.Vertices.{flow_order, vertex_key}

-- 32 bits number its items, or its bytes
abbrev pub IsShort : {X : Type 0} → List X → Type 0
IsShort xs = length xs < 4294967296

-- the module's body, which starts at 0, and the other functions by their start
abbrev pub AreFunctions : List FunctionInfo → Type 0
AreFunctions [] = ⊥
AreFunctions (body ∷ others) = (body.start ≡ 0) × IsStrictlySortedBy function_order others

-- a function has this number
abbrev pub HasFunction : ModuleConstraints → ℕ → Type 0
HasFunction c f = f < length c.functions

-- the function with this number has a parameter in this place
abbrev pub HasParam : ModuleConstraints → ℕ → ℕ → Type 0
HasParam c f i = HasFunction c f × ((d : FunctionInfo) → i < (slice_index_or c.functions f d).params)

-- the site is one of the module's, with this offset and part
abbrev pub IsSiteAt : ModuleConstraints → ℕ → ℕ → SiteInfo → Type 0
IsSiteAt c offset part s = Contains c.sites s × (s.offset ≡ offset) × (s.part ≡ part)

-- there is a site with this offset and part
abbrev pub HasSite : ModuleConstraints → ℕ → ℕ → Type 0
HasSite c offset part = (s : SiteInfo) × IsSiteAt c offset part s

-- and it has an argument in this place
abbrev pub HasArg : ModuleConstraints → ℕ → ℕ → ℕ → Type 0
HasArg c offset part i = (s : SiteInfo) × IsSiteAt c offset part s × (i < s.args)

-- there is a require with this offset
abbrev pub HasRequire : ModuleConstraints → ℕ → Type 0
HasRequire c offset = (r : Require) × Contains c.requires_ r × (r.offset ≡ offset)

-- the function, parameter, site, argument or require that the vertex names is there, and its text is short
abbrev pub IsNamed : ModuleConstraints → Vertex → Type 0
IsNamed c (Prop name) = IsShort name
IsNamed c Elem = Unit {0}
IsNamed c (Global name) = IsShort name
IsNamed c Exports = Unit {0}
IsNamed c (Param f i) = HasParam c f i
IsNamed c (Rest f) = HasFunction c f
IsNamed c (Ret f) = HasFunction c f
IsNamed c (Lit f) = HasFunction c f
IsNamed c (Callee offset part) = HasSite c offset part
IsNamed c (Arg offset part i) = HasArg c offset part i
IsNamed c (More offset part) = HasSite c offset part
IsNamed c (Recv offset part) = HasSite c offset part
IsNamed c (Res offset part) = HasSite c offset part
IsNamed c (Req offset) = HasRequire c offset
IsNamed c (Var local) = Unit {0}
IsNamed c (Exp number) = Unit {0}

-- a function may have this name
abbrev pub IsFunction : FunctionInfo → Type 0
IsFunction f = IsShort f.name

-- the site's part is 0 or 1, and a function holds it
abbrev pub IsSite : ModuleConstraints → SiteInfo → Type 0
IsSite c s = (s.part < 2) × HasFunction c s.holder

-- the text of the require is short, and a function holds it
abbrev pub IsRequire : ModuleConstraints → Require → Type 0
IsRequire c r = IsShort r.spec × HasFunction c r.holder

-- the flow's ends differ, and what they name is there
abbrev pub IsFlow : ModuleConstraints → Flow → Type 0
IsFlow c f = (vertex_key f.from ≢ vertex_key f.to) × IsNamed c f.from × IsNamed c f.to

-- 32 bits number the items of each list
pub record IsNumbered (c : ModuleConstraints) : Type 0 where
  pub functions : IsShort c.functions
  pub sites : IsShort c.sites
  pub requires_ : IsShort c.requires_
  pub notes : IsShort c.notes
  pub flows : IsShort c.flows

-- each list is in its order and without repeats
pub record IsOrdered (c : ModuleConstraints) : Type 0 where
  pub functions : AreFunctions c.functions
  pub sites : IsStrictlySortedBy site_order c.sites
  pub requires_ : IsStrictlySortedBy require_order c.requires_
  pub notes : IsStrictlySortedBy note_order c.notes
  pub flows : IsStrictlySortedBy flow_order c.flows

-- the rules: the order of the lists, their lengths, and what each item names
pub record KeepsRules (c : ModuleConstraints) : Type 0 where
  pub ordered : IsOrdered c
  pub numbered : IsNumbered c
  pub functions : All IsFunction c.functions
  pub sites : All (IsSite c) c.sites
  pub requires_ : All (IsRequire c) c.requires_
  pub flows : All (IsFlow c) c.flows
