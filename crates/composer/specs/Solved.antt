-- What the rows of numbers say of an application's system, and edges that were found by them.
use Rattle.std.specs.Prelude.{◌≡◌, ◌≤◌, ◌<◌, ◌⊎◌, ℕ, List, length, map, All, Contains, slice_get, Some}
use Rattle.jam_base.specs.declared.edge.Edge.{Edge}
use Rattle.js_scopes.specs.declared.site.SiteInfo.{SiteInfo}
use Rattle.flow_rules.specs.Constraints.{ModuleConstraints}
use Rattle.flow_rules.specs.declared.module.Require.{Require}
use Rattle.composer.specs.declared.application.Link.{Link}
use Rattle.composer.specs.declared.application.ModuleVertex.{ModuleVertex}
use Rattle.composer.specs.declared.application.Value.{Value}
use Rattle.composer.specs.declared.application.Value.TheVariants.{Fun, Native}
use Rattle.composer.specs.declared.system.CallSite.{CallSite}
use Rattle.composer.specs.declared.system.System.{System}
use Rattle.composer.specs.Application.{site_of}
use Rattle.composer.specs.CallEdges.{link_edge}
use Rattle.composer.specs.Numbered.{Below, IsSiteIn, map_site}
use Rattle.composer.specs.Numbers.{value_at, vertex_at}
use Rattle.composer.specs.Rows.{Holds}
use Rattle.composer.specs.Solution.{InSolution}
use Rattle.composer.specs.Steps.{inputs}

-- a value has one number
abbrev pub HasOneNumber : System ModuleVertex Value → Type 0
HasOneNumber a = (i j : ℕ) → i ≤ length a.functions → j ≤ length a.functions → value_at a i ≡ value_at a j → i ≡ j

-- the rows hold the numbers of what comes to the vertices, and nothing else
pub record AreSolved (a : System ModuleVertex Value) (vertices : List ModuleVertex) (rows : List (List ℕ)) : Type 0 where
  pub found : (k n : ℕ) → Holds rows k n → InSolution a (value_at a k) (vertex_at vertices n)
  pub all : (t : Value) (n : ℕ) → n < length vertices → InSolution a t (vertex_at vertices n) → (k : ℕ) × (value_at a k ≡ t) × Holds rows k n

-- the numbers are those of the sites' vertices, at which rows hold what comes there
pub record AreNumbered (a : System ModuleVertex Value) (rows : List (List ℕ)) (sites : List (CallSite ModuleVertex)) (numbers : List (CallSite ℕ)) : Type 0 where
  pub vertices : List ModuleVertex
  pub solved : AreSolved a vertices rows
  pub names : map (map_site (vertex_at vertices)) numbers ≡ sites
  pub below : All (IsSiteIn (Below (length vertices))) numbers

-- an edge of one of the items
abbrev pub IsAmong : {X : Type 0} → (X → Edge → Type 0) → List X → Edge → Type 0
IsAmong {X} P items edge = (x : X) × Contains items x × P x edge

-- the edge leaves the site of module m, and leads to a function that the site or a native there calls
pub record LeavesSite (m : ℕ) (s : SiteInfo) (edge : Edge) : Type 0 where
  pub «module» : edge.caller.module ≡ m
  pub holder : edge.caller.function ≡ s.holder
  pub offset : edge.offset ≡ s.offset

pub data IsEdgeAt (a : System ModuleVertex Value) (m : ℕ) (s : SiteInfo) (edge : Edge) : Type 0 where
  called : LeavesSite m s edge → InSolution a (Fun edge.callee) (site_of m s).callee → IsEdgeAt a m s edge
  handed : (w : ModuleVertex) → LeavesSite m s edge → InSolution a Native (site_of m s).callee → Contains (inputs (site_of m s)) w → InSolution a (Fun edge.callee) w → IsEdgeAt a m s edge

abbrev pub IsEdgeAmong : System ModuleVertex Value → ℕ → List SiteInfo → Edge → Type 0
IsEdgeAmong a m sites edge = IsAmong (IsEdgeAt a m) sites edge

abbrev pub IsEdgeBelow : System ModuleVertex Value → List ModuleConstraints → ℕ → Edge → Type 0
IsEdgeBelow a modules n edge = (m : ℕ) × (c : ModuleConstraints) × (m < n) × (slice_get modules m ≡ Some c) × IsEdgeAmong a m c.sites edge

-- the edge of a link: the function that holds its require calls the body of the module that it gives
pub record IsLinkEdge (modules : List ModuleConstraints) (link : Link) (edge : Edge) : Type 0 where
  pub constraints : ModuleConstraints
  pub here : slice_get modules link.module ≡ Some constraints
  pub require : Require
  pub stands : Contains constraints.requires_ require
  pub offset : require.offset ≡ link.offset
  pub edge_is : edge ≡ link_edge link require.holder

-- the edges with the property came, and nothing else
pub record AddsEdges (P : Edge → Type 0) (old new : List Edge) : Type 0 where
  pub found : (edge : Edge) → Contains new edge → Contains old edge ⊎ P edge
  pub kept : (edge : Edge) → Contains old edge → Contains new edge
  pub all : (edge : Edge) → P edge → Contains new edge
