-- The graph that loaded modules give is the one that is owed.
use Rattle.std.proofs.Common.{◌≡◌, ℕ, suc, inl, inr, List, [], ◌∷◌, map, length, Option, Some, None, refl, sym, ap, subst, ◌∙◌, arith, Bool}
use Rattle.std.specs.Prelude.{All, Contains, slice_get, unwrap_or}
use Rattle.std.specs.Option.{option_map}
use Rattle.std.proofs.lemmas.Option.{slice_get-map, slice_get_within, get_or_from_slice_get, same_Some, none-some}
use Rattle.jam_base.specs.Files.{Files}
use Rattle.jam_base.specs.declared.edge.Edge.{Edge}
use Rattle.jam_base.specs.declared.edge.FunctionRef.{FunctionRef}
use Rattle.js_scopes.specs.declared.function.FunctionInfo.{FunctionInfo}
use Rattle.js_scopes.specs.Scopes.{functions_of}
use Rattle.flow_rules.specs.Constraints.{ModuleConstraints}
use Rattle.flow_rules.specs.Flows.{constraints_of, requires_of}
use Rattle.node_resolve.specs.declared.target.Target.TheVariants.{Module}
use Rattle.node_resolve.specs.Targets.{target_of}
use Rattle.composer.specs.declared.application.Link.{Link}
use Rattle.composer.specs.Edges.{IsEdgeList}
use Rattle.report_text.specs.declared.shown.PathStep.{PathStep}
use Rattle.report_text.specs.declared.shown.Shown.{Shown}
use Rattle.report_text.specs.Graph.{graph_text_of}
use Rattle.jam_app.specs.declared.loading.loaded.Led.{Led}
use Rattle.jam_app.specs.declared.loading.loaded.Loaded.{Loaded}
use Rattle.jam_app.specs.Entries.{Start}
use Rattle.jam_app.specs.Graphs.{IsGraph, IsGraphText, constraints_all, nowhere, shown_call, shown_edge, shown_function, shown_in, shown_number}
use Rattle.jam_app.specs.Loading.{IsKept, IsWhole, Leads, module_of}
use Rattle.jam_app.specs.Links.{Adds, LinksBelow}
use Rattle.jam_app.specs.Printing.{PrintedModule, call_in, edge_among, function_among, printed_of}
use Rattle.jam_app.specs.Rounds.{AreLinks, IsLink, LoadedModule}

-- the function with a number, in a list of printed ones and as it is printed
number_shown : (m : LoadedModule) (o : Option FunctionInfo) → unwrap_or (option_map (shown_in m) o) nowhere ≡ elim o [ None ↦ nowhere | Some info ↦ shown_in m info ]
number_shown m None = refl
number_shown m (Some info) = refl

in_module : (f : ℕ) (m : LoadedModule) → unwrap_or (slice_get (printed_of m).functions f) nowhere ≡ shown_number f m
in_module f m = ap (λ o. unwrap_or o nowhere) (slice_get-map (shown_in m) (functions_of m.tree) f) ∙ number_shown m (slice_get (functions_of m.tree) f)

function_shown : (f : ℕ) (o : Option LoadedModule)
    → ◌≡◌ {A = Shown} (elim (option_map printed_of o) [ None ↦ nowhere | Some m ↦ unwrap_or (slice_get m.functions f) nowhere ]) (elim o [ None ↦ nowhere | Some m ↦ shown_number f m ])
function_shown f None = refl
function_shown f (Some m) = in_module f m

pub function_same : (modules : List LoadedModule) (f : FunctionRef) → function_among (map printed_of modules) f ≡ shown_function modules f
function_same modules f =
    ap (λ o. elim o [ None ↦ nowhere | Some m ↦ unwrap_or (slice_get m.functions f.function) nowhere ]) (slice_get-map printed_of modules f.module)
    ∙ function_shown f.function (slice_get modules f.module)

edge_shown : (offset : ℕ) (callee : Shown) (o : Option LoadedModule)
    → ◌≡◌ {A = PathStep} (elim (option_map printed_of o) [ None ↦ record { path = []; line = 1; column = 1; callee = callee } | Some m ↦ call_in offset callee m ])
    (elim o [ None ↦ record { path = []; line = 1; column = 1; callee = callee } | Some m ↦ shown_call offset callee m ])
edge_shown offset callee None = refl
edge_shown offset callee (Some m) = refl

edge_same : (modules : List LoadedModule) (edge : Edge) → edge_among (map printed_of modules) edge ≡ shown_edge modules edge
edge_same modules edge =
    ap (λ s. elim (slice_get (map printed_of modules) edge.caller.module) [ None ↦ record { path = []; line = 1; column = 1; callee = s } | Some m ↦ call_in edge.offset s m ]) (function_same modules edge.callee)
    ∙ ap (λ o. elim o [ None ↦ record { path = []; line = 1; column = 1; callee = shown_function modules edge.callee } | Some m ↦ call_in edge.offset (shown_function modules edge.callee) m ]) (slice_get-map printed_of modules edge.caller.module)
    ∙ edge_shown edge.offset (shown_function modules edge.callee) (slice_get modules edge.caller.module)

pub edges_same : (modules : List LoadedModule) (edges : List Edge) → map (edge_among (map printed_of modules)) edges ≡ map (shown_edge modules) edges
edges_same modules [] = refl
edges_same modules (e ∷ es) = λ i. edge_same modules e i ∷ edges_same modules es i

pub kept_at : (skip : Bool) (files : Files) (loaded : List Loaded) (k : ℕ) (l : Loaded) → All (IsKept skip files) loaded → slice_get loaded k ≡ Some l → IsKept skip files l
kept_at skip files loaded k l all here = subst (IsKept skip files) (get_or_from_slice_get loaded k l l here) (all k l (slice_get_within loaded k l here))

-- the constraints that are kept are those of the trees
pub constraints_same : (skip : Bool) (files : Files) (loaded : List Loaded) → All (IsKept skip files) loaded → map (λ (l : Loaded). l.summary.lists) loaded ≡ constraints_all (map module_of loaded)
constraints_same skip files [] all = refl
constraints_same skip files (l ∷ ls) all =
    let first : IsKept skip files l = all 0 l (omega arith) in
    λ i. first.summary.whole i ∷ constraints_same skip files ls (λ k d lt. all (suc k) d (omega (arith, lt))) i

-- a loaded module behind one that is seen
pub loaded_at : (loaded : List Loaded) (k : ℕ) (m : LoadedModule) → slice_get (map module_of loaded) k ≡ Some m → (l : Loaded) × (slice_get loaded k ≡ Some l) × (module_of l ≡ m)
loaded_at loaded k m e = by (slice_get loaded k) refl
  where
    by : (o : Option Loaded) → slice_get loaded k ≡ o → (l : Loaded) × (slice_get loaded k ≡ Some l) × (module_of l ≡ m)
    by None is = absurd (none-some m (ap (option_map module_of) (sym is) ∙ sym (slice_get-map module_of loaded k) ∙ e))
    by (Some l) is = (l, is, same_Some (module_of l) m (ap (option_map module_of) (sym is) ∙ sym (slice_get-map module_of loaded k) ∙ e))

module _ (skip : Bool) (files : Files) (loaded : List Loaded) (kept : All (IsKept skip files) loaded) where
  -- what links among loaded modules are
  link_of : (link : Link) → LinksBelow loaded (length loaded) link → IsLink files (map module_of loaded) link
  link_of link below =
      let among = below.links in
      let to = among.links.to in
      let leads = ((kept_at skip files loaded link.module below.from kept below.here).targets among.led).0 among.here in
      record {
        from = module_of below.from;
        to = module_of to.one;
        here = slice_get-map module_of loaded link.module ∙ ap (option_map module_of) below.here;
        there = slice_get-map module_of loaded link.target ∙ ap (option_map module_of) to.here;
        require = leads.require;
        stands = leads.here;
        offset = leads.offset ∙ sym among.links.offset;
        target_is = leads.target_is ∙ ap Module (sym to.path_is);
      }

  below_of : (link : Link) → IsLink files (map module_of loaded) link → LinksBelow loaded (length loaded) link
  below_of link l =
      let from = loaded_at loaded link.module l.from l.here in
      let to = loaded_at loaded link.target l.to l.there in
      let led : Led = record { offset = link.offset; path = l.to.path } in
      let leads : Leads files from.0 led = record {
        require = l.require;
        here = subst (λ (m : LoadedModule). Contains (requires_of m.tree) l.require) (sym from.2) l.stands;
        offset = l.offset;
        target_is = ap (λ (m : LoadedModule). target_of files m.path l.require.spec) from.2 ∙ l.target_is;
      } in
      record {
        below = slice_get_within loaded link.module from.0 from.1;
        from = from.0;
        here = from.1;
        links = record {
          led = led;
          here = ((kept_at skip files loaded link.module from.0 kept from.1).targets led).1 leads;
          links = record { from = refl; offset = refl; to = record { one = to.0; here = to.1; path_is = ap (λ (m : LoadedModule). m.path) to.2 } };
        };
      }

  links_same : (links : List Link) → Adds (LinksBelow loaded (length loaded)) [] links → AreLinks files (map module_of loaded) links
  links_same links adds link = (
    λ h. elim (adds.found link h) [ inl g ↦ absurd (omega (arith, g.1)) | inr below ↦ link_of link below ],
    λ l. adds.all link (below_of link l),
  )

-- the call graph of the loaded modules
pub graph_is : (start : Start) (files : Files) (path : List ℕ) (loaded : List Loaded) (links : List Link) (constraints : List ModuleConstraints) (edges : List Edge)
    → Adds (LinksBelow loaded (length loaded)) [] links → constraints ≡ map (λ (l : Loaded). l.summary.lists) loaded
    → IsEdgeList constraints links edges → IsWhole start files path loaded → IsGraph start.entry files path (map module_of loaded) edges
graph_is start files path loaded links constraints edges adds is_said are_edges whole = record {
  found = whole.found;
  application = whole.application;
  links = links;
  links_are = links_same start.skip files loaded whole.kept links adds;
  edges_are = subst (λ cs. IsEdgeList cs links edges) (is_said ∙ constraints_same start.skip files loaded whole.kept) are_edges;
}

-- and its text
pub graph_owed : (start : Start) (files : Files) (path : List ℕ) (loaded : List Loaded) (links : List Link) (printed : List PrintedModule) (constraints : List ModuleConstraints) (edges : List Edge) (steps : List PathStep) (text : List ℕ)
    → Adds (LinksBelow loaded (length loaded)) [] links → printed ≡ map printed_of (map module_of loaded) → constraints ≡ map (λ (l : Loaded). l.summary.lists) loaded
    → IsEdgeList constraints links edges → steps ≡ map (edge_among printed) edges → text ≡ graph_text_of steps
    → IsWhole start files path loaded → IsGraphText start.entry files text
graph_owed start files path loaded links printed constraints edges steps text adds is_printed is_said are_edges are_steps is_text whole = record {
  path = path;
  modules = map module_of loaded;
  edges = edges;
  graph = graph_is start files path loaded links constraints edges adds is_said are_edges whole;
  text_is = is_text ∙ ap graph_text_of (are_steps ∙ ap (λ ps. map (edge_among ps) edges) is_printed ∙ edges_same (map module_of loaded) edges);
}
