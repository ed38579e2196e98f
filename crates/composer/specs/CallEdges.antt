-- The call edges of an application, by the values that stand in rows.
use Rattle.std.specs.Prelude.{ℕ, List, [], ◌∷◌, flat_map}
use Rattle.jam_base.specs.declared.edge.Edge.{Edge}
use Rattle.js_scopes.specs.declared.site.SiteInfo.{SiteInfo}
use Rattle.composer.specs.declared.application.Link.{Link}
use Rattle.composer.specs.declared.application.ModuleVertex.{ModuleVertex}
use Rattle.composer.specs.declared.application.Value.{Value}
use Rattle.composer.specs.declared.application.Value.TheVariants.{Fun, Native}
use Rattle.composer.specs.declared.system.CallSite.{CallSite}
use Rattle.composer.specs.declared.system.System.{System}
use Rattle.composer.specs.Numbers.{value_at}
use Rattle.composer.specs.Rows.{row}
use Rattle.composer.specs.Steps.{inputs}

-- the edge from a site to a function
abbrev pub edges_to : ℕ → SiteInfo → Value → List Edge
edges_to m s Native = []
edges_to m s (Fun f) = record { caller = record { «module» = m; function = s.holder }; offset = s.offset; callee = f } ∷ []

-- the edges to the functions at an input
abbrev pub input_edges : System ModuleVertex Value → List (List ℕ) → ℕ → SiteInfo → ℕ → List Edge
input_edges a rows m s w = flat_map (λ t. edges_to m s (value_at a t)) (row rows w)

-- the edges where this value stands at the site's callee
abbrev pub called_edges : System ModuleVertex Value → List (List ℕ) → ℕ → SiteInfo → CallSite ℕ → Value → List Edge
called_edges a rows m s n Native = flat_map (input_edges a rows m s) (inputs n)
called_edges a rows m s n (Fun f) = edges_to m s (Fun f)

abbrev pub site_edges : System ModuleVertex Value → List (List ℕ) → ℕ → SiteInfo → CallSite ℕ → List Edge
site_edges a rows m s n = flat_map (λ t. called_edges a rows m s n (value_at a t)) (row rows n.callee)

-- the edge of a link whose require this function holds
abbrev pub link_edge : Link → ℕ → Edge
link_edge link holder = record { caller = record { «module» = link.module; function = holder }; offset = link.offset; callee = record { «module» = link.target; function = 0 } }
