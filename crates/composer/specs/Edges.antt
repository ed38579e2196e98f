-- The call edges of an application.
use Rattle.std.specs.Prelude.{◌≡◌, ◌↔◌, List, Contains, slice_get, Some}
use Rattle.std.specs.List.Sorted.{IsStrictlySortedBy}
use Rattle.jam_base.specs.declared.edge.Edge.{Edge}
use Rattle.jam_base.specs.Edges.{edge_order}
use Rattle.js_scopes.specs.declared.site.SiteInfo.{SiteInfo}
use Rattle.flow_rules.specs.declared.module.Require.{Require}
use Rattle.flow_rules.specs.Constraints.{ModuleConstraints}
use Rattle.composer.specs.declared.application.Link.{Link}
use Rattle.composer.specs.declared.application.ModuleVertex.{ModuleVertex}
use Rattle.composer.specs.declared.application.Value.TheVariants.{Fun, Native}
use Rattle.composer.specs.Application.{site_of, system_of}
use Rattle.composer.specs.Solution.{InSolution}
use Rattle.composer.specs.Steps.{inputs}

-- the site stands in the edge's module at its offset, and the edge's caller holds it
pub record IsSiteOf (modules : List ModuleConstraints) (edge : Edge) (s : SiteInfo) : Type 0 where
  pub constraints : ModuleConstraints
  pub here : slice_get modules edge.caller.module ≡ Some constraints
  pub site : Contains constraints.sites s
  pub offset : s.offset ≡ edge.offset
  pub holder : s.holder ≡ edge.caller.function

-- the same of a require
pub record IsRequireOf (modules : List ModuleConstraints) (edge : Edge) (r : Require) : Type 0 where
  pub constraints : ModuleConstraints
  pub here : slice_get modules edge.caller.module ≡ Some constraints
  pub require : Contains constraints.requires_ r
  pub offset : r.offset ≡ edge.offset
  pub holder : r.holder ≡ edge.caller.function

-- a call edge: the callee comes to a site's callee, or to one of its inputs where a native is its callee; or a require has a link to the module whose body the callee is
pub data IsEdge (modules : List ModuleConstraints) (links : List Link) (edge : Edge) : Type 0 where
  call : (s : SiteInfo) → IsSiteOf modules edge s → InSolution (system_of modules links) (Fun edge.callee) (site_of edge.caller.module s).callee → IsEdge modules links edge
  callback : (s : SiteInfo) (w : ModuleVertex) → IsSiteOf modules edge s → InSolution (system_of modules links) Native (site_of edge.caller.module s).callee → Contains (inputs (site_of edge.caller.module s)) w → InSolution (system_of modules links) (Fun edge.callee) w → IsEdge modules links edge
  require : (r : Require) → IsRequireOf modules edge r → Contains links (record { «module» = edge.caller.module; offset = edge.offset; target = edge.callee.module }) → edge.callee.function ≡ 0 → IsEdge modules links edge

-- the list has each call edge once, and nothing else, by the caller's module, offset, callee and caller
pub record IsEdgeList (modules : List ModuleConstraints) (links : List Link) (edges : List Edge) : Type 0 where
  pub sorted : IsStrictlySortedBy edge_order edges
  pub edges_are : (edge : Edge) → Contains edges edge ↔ IsEdge modules links edge
