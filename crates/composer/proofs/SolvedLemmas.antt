-- From numbers to the vertices and values of an application, and to its edges.
use Rattle.std.proofs.Common.{◌≡◌, ℕ, zero, suc, ◌+◌, ◌<◌, ◌≤◌, ◌⊎◌, inl, inr, List, [], ◌∷◌, ◌++◌, length, map, get_or, refl, ap, sym, ◌∙◌, subst, arith, Some, None, take, drop}
use Rattle.std.proofs.lemmas.List.{length-map, length-append, take_more, take_at, drop_at, drop_more, take-map, drop-map, get_or-map}
use Rattle.std.specs.Prelude.{slice_get}
use Rattle.std.specs.List.{enumerate_from, flat_map}
use Rattle.std.specs.Prelude.{Contains}
use Rattle.std.specs.declared.cmp.Ordering.TheVariants.{Less}
use Rattle.std.specs.List.Sorted.{IsStrictlySortedBy}
use Rattle.std.proofs.lemmas.List.Elements.{All-contains, All-get_or, All-take, All-drop, Contains-append_cases, Contains-append_left, Contains-append_right, Contains-push, Contains-push_cases}
use Rattle.std.proofs.lemmas.Map.Keys.{Less-from_sorted}
use Rattle.jam_base.specs.declared.edge.Edge.{Edge}
use Rattle.js_scopes.specs.declared.site.SiteInfo.{SiteInfo}
use Rattle.composer.proofs.Members.{none, only, here, there, from_flat_map, into_flat_map, from_map, into_map}
use Rattle.flow_rules.specs.Constraints.{ModuleConstraints}
use Rattle.flow_rules.specs.declared.vertex.Vertex.TheVariants.{Elem}
use Rattle.composer.specs.declared.application.ModuleVertex.{ModuleVertex}
use Rattle.composer.specs.declared.application.Part.{Part}
use Rattle.composer.specs.declared.application.Value.{Value}
use Rattle.composer.specs.declared.application.Value.TheVariants.{Fun, Native}
use Rattle.composer.specs.declared.system.CallSite.{CallSite}
use Rattle.composer.specs.declared.system.System.{System}
use Rattle.composer.specs.Application.{at_module, site_of}
use Rattle.composer.specs.CallEdges.{called_edges, edges_to, input_edges, site_edges}
use Rattle.composer.specs.Numbered.{Below, HasValues, IsSiteIn, IsSystemIn, map_site, map_system}
use Rattle.composer.specs.Numbers.{module_vertex_order, value_at, vertex_at}
use Rattle.composer.specs.Parts.{lists_of}
use Rattle.composer.specs.Rows.{Holds, IsSolution, row}
use Rattle.composer.specs.Solution.{InSolution}
use Rattle.composer.specs.Solved.{AddsEdges, AreNumbered, AreSolved, HasOneNumber, IsAmong, IsEdgeAmong, IsEdgeAt, IsEdgeBelow, LeavesSite}
use Rattle.composer.specs.Solved.IsEdgeAt.{called, handed}
use Rattle.composer.specs.Steps.{inputs}
use Rattle.composer.proofs.NumberLemmas.{order_total}
use Rattle.composer.proofs.OrderLemmas.{not_itself}
use Rattle.composer.proofs.Renamed.{bounds, inputs-map, renamed_has, renamed_only}
use Rattle.composer.proofs.RowLemmas.{in_from_member, member_from_in}
use Rattle.composer.proofs.WayLemmas.{inputs_in}

-- a vertex has one number
one_number : (vs : List ModuleVertex) → IsStrictlySortedBy module_vertex_order vs → (i j : ℕ) → i < length vs → j < length vs → vertex_at vs i ≡ vertex_at vs j → i ≡ j
one_number vs s i j li lj e = elim (three_ways i j) [
  | inl h ↦ absurd (not_itself order_total (vertex_at vs j) (subst (λ v. module_vertex_order v (vertex_at vs j) ≡ Less) e (Less-from_sorted module_vertex_order vs i j (at_module 0 Elem) s h lj)))
  | inr (inl h) ↦ absurd (not_itself order_total (vertex_at vs j) (subst (λ v. module_vertex_order (vertex_at vs j) v ≡ Less) e (Less-from_sorted module_vertex_order vs j i (at_module 0 Elem) s h li)))
  | inr (inr h) ↦ h
]
  where
    three_ways : (i j : ℕ) → (i < j) ⊎ ((j < i) ⊎ (i ≡ j))
    three_ways i j = grind arith

pub are_solved : (a : System ModuleVertex Value) (vs : List ModuleVertex) (b : System ℕ ℕ) (rows : List (List ℕ)) → IsStrictlySortedBy module_vertex_order vs → HasOneNumber a → map_system (vertex_at vs) (value_at a) b ≡ a → IsSystemIn (Below (length vs)) b → HasValues b → IsSolution b rows → AreSolved a vs rows
are_solved a vs b rows sorted one names below values solution = record {
  found = λ k n h. subst (λ x. InSolution x (value_at a k) (vertex_at vs n)) names (renamed_has (vertex_at vs) (value_at a) b k n (solution.found k n h));
  all = all;
}
  where
    same_count : length b.functions ≡ length a.functions
    same_count = sym (length-map b.functions _) ∙ ap (λ (x : System ModuleVertex Value). length x.functions) names

    vertex_one : (x y : ℕ) → x < length vs → y < length vs → vertex_at vs x ≡ vertex_at vs y → x ≡ y
    vertex_one = one_number vs sorted

    value_one : (x y : ℕ) → x ≤ b.native → y ≤ b.native → value_at a x ≡ value_at a y → x ≡ y
    value_one x y lx ly e = one x y (omega (arith, lx, values.native, same_count)) (omega (arith, ly, values.native, same_count)) e

    all : (t : Value) (n : ℕ) → n < length vs → InSolution a t (vertex_at vs n) → (k : ℕ) × (value_at a k ≡ t) × Holds rows k n
    all t n lt h =
        let (k, m, ek, fm, g) = renamed_only (vertex_at vs) (value_at a) (length vs) b below values vertex_one value_one t (vertex_at vs n) (subst (λ x. InSolution x t (vertex_at vs n)) (sym names) h) in
        let inside = bounds (vertex_at vs) (value_at a) (length vs) b below values vertex_one value_one k m g in
        (k, ek, subst (λ x. Holds rows k x) (vertex_one m n inside.1 lt fm) (solution.all k m g))

-- what came to some edges
pub AddsEdges-none : (P : Edge → Type 0) (xs : List Edge) → ((e : Edge) → P e → ⊥) → AddsEdges P xs xs
AddsEdges-none P xs empty = record { found = λ e h. inl h; kept = λ e h. h; all = λ e p. absurd (empty e p) }

pub AddsEdges-more : (P Q R : Edge → Type 0) (xs ys zs : List Edge) → AddsEdges P xs ys → AddsEdges Q ys zs → ((e : Edge) → P e → R e) → ((e : Edge) → Q e → R e) → ((e : Edge) → R e → P e ⊎ Q e) → AddsEdges R xs zs
AddsEdges-more P Q R xs ys zs a b p q r = record {
  found = λ e h. elim (b.found e h) [ inl g ↦ elim (a.found e g) [ inl k ↦ inl k | inr k ↦ inr (p e k) ] | inr g ↦ inr (q e g) ];
  kept = λ e h. b.kept e (a.kept e h);
  all = λ e h. elim (r e h) [ inl g ↦ b.kept e (a.all e g) | inr g ↦ b.all e g ];
}

module _ (a : System ModuleVertex Value) (vs : List ModuleVertex) (rows : List (List ℕ)) (solved : AreSolved a vs rows) (m : ℕ) (s : SiteInfo) (n : CallSite ℕ) (names : map_site (vertex_at vs) n ≡ site_of m s) (below : IsSiteIn (Below (length vs)) n) where
  from_to : (v : Value) (edge : Edge) → Contains (edges_to m s v) edge → LeavesSite m s edge × (v ≡ Fun edge.callee)
  from_to Native edge h = absurd (none edge h)
  from_to (Fun f) edge h =
      let e = only (record { caller = record { «module» = m; function = s.holder }; offset = s.offset; callee = f }) edge h in
      (record { «module» = sym (ap (λ (x : Edge). x.caller.module) e); holder = sym (ap (λ (x : Edge). x.caller.function) e); offset = sym (ap (λ (x : Edge). x.offset) e) }, ap (λ (x : Edge). Fun x.callee) e)

  into_to : (v : Value) (edge : Edge) → LeavesSite m s edge → v ≡ Fun edge.callee → Contains (edges_to m s v) edge
  into_to v edge l e = subst (λ x. Contains (edges_to m s x) edge) (sym e)
      (subst (λ (x : Edge). Contains (edges_to m s (Fun edge.callee)) x) (λ i. record { caller = record { «module» = sym l.module i; function = sym l.holder i }; offset = sym l.offset i; callee = edge.callee })
      (here (record { caller = record { «module» = m; function = s.holder }; offset = s.offset; callee = edge.callee }) []))

  callee_is : vertex_at vs n.callee ≡ (site_of m s).callee
  callee_is = ap (λ (x : CallSite ModuleVertex). x.callee) names

  inputs_are : map (vertex_at vs) (inputs n) ≡ inputs (site_of m s)
  inputs_are = sym (inputs-map (vertex_at vs) n) ∙ ap inputs names

  input_found : (w : ℕ) (edge : Edge) → Contains (input_edges a rows m s w) edge → LeavesSite m s edge × InSolution a (Fun edge.callee) (vertex_at vs w)
  input_found w edge h =
      let p = from_flat_map (λ t. edges_to m s (value_at a t)) (row rows w) edge h in
      let q = from_to (value_at a p.0) edge p.2 in
      (q.0, subst (λ t. InSolution a t (vertex_at vs w)) q.1 (solved.found p.0 w (in_from_member p.0 (row rows w) p.1)))

  site_found : (edge : Edge) → Contains (site_edges a rows m s n) edge → IsEdgeAt a m s edge
  site_found edge h =
      let p = from_flat_map (λ t. called_edges a rows m s n (value_at a t)) (row rows n.callee) edge h in
      by_value (value_at a p.0) (subst (λ v. InSolution a (value_at a p.0) v) callee_is (solved.found p.0 n.callee (in_from_member p.0 (row rows n.callee) p.1))) p.2
    where
      by_value : (v : Value) → InSolution a v (site_of m s).callee → Contains (called_edges a rows m s n v) edge → IsEdgeAt a m s edge
      by_value (Fun f) x i = let q = from_to (Fun f) edge i in called q.0 (subst (λ t. InSolution a t (site_of m s).callee) q.1 x)
      by_value Native x i =
          let p = from_flat_map (input_edges a rows m s) (inputs n) edge i in
          let q = input_found p.0 edge p.2 in
          handed (vertex_at vs p.0) q.0 x (subst (λ ws. Contains ws (vertex_at vs p.0)) inputs_are (into_map (vertex_at vs) (inputs n) p.0 p.1)) q.1

  at_value : (k : ℕ) (v : Value) (edge : Edge) → value_at a k ≡ v → Holds rows k n.callee → Contains (called_edges a rows m s n v) edge → Contains (site_edges a rows m s n) edge
  at_value k v edge e h c = into_flat_map (λ t. called_edges a rows m s n (value_at a t)) (row rows n.callee) k edge (member_from_in k (row rows n.callee) h) (subst (λ x. Contains (called_edges a rows m s n x) edge) (sym e) c)

  site_all : (edge : Edge) → IsEdgeAt a m s edge → Contains (site_edges a rows m s n) edge
  site_all edge (called l x) =
      let (k, e, h) = solved.all (Fun edge.callee) n.callee below.callee (subst (λ v. InSolution a (Fun edge.callee) v) (sym callee_is) x) in
      at_value k (Fun edge.callee) edge e h (into_to (Fun edge.callee) edge l refl)
  site_all edge (handed w l x c y) =
      let (k, e, h) = solved.all Native n.callee below.callee (subst (λ v. InSolution a Native v) (sym callee_is) x) in
      let i = from_map (vertex_at vs) (inputs n) w (subst (λ ws. Contains ws w) (sym inputs_are) c) in
      let (j, g, o) = solved.all (Fun edge.callee) i.0 (All-contains (Below (length vs)) (inputs n) i.0 (inputs_in (Below (length vs)) n below) i.1) (subst (λ v. InSolution a (Fun edge.callee) v) (sym i.2) y) in
      at_value k Native edge e h (into_flat_map (input_edges a rows m s) (inputs n) i.0 edge i.1 (into_flat_map (λ t. edges_to m s (value_at a t)) (row rows i.0) j edge (member_from_in j (row rows i.0) o) (into_to (value_at a j) edge l g)))

  pub site_adds : (xs : List Edge) → AddsEdges (IsEdgeAt a m s) xs (xs ++ site_edges a rows m s n)
  site_adds xs = record {
    found = λ e h. elim (Contains-append_cases xs (site_edges a rows m s n) e h) [ inl g ↦ inl g | inr g ↦ inr (site_found e g) ];
    kept = λ e h. Contains-append_left xs (site_edges a rows m s n) e h;
    all = λ e p. Contains-append_right xs (site_edges a rows m s n) e (site_all e p);
  }

-- where sites have these numbers, so have those at the front, and those behind them
pub numbered_split : (a : System ModuleVertex Value) (rows : List (List ℕ)) (xs ys : List (CallSite ModuleVertex)) (ns : List (CallSite ℕ)) → AreNumbered a rows (xs ++ ys) ns → (length xs ≤ length ns) × AreNumbered a rows xs (take (length xs) ns) × AreNumbered a rows ys (drop (length xs) ns)
numbered_split a rows xs ys ns h = (
  omega (arith, same_length, length-append xs ys),
  record { vertices = h.vertices; solved = h.solved; names = sym (take-map F (length xs) ns) ∙ ap (take (length xs)) h.names ∙ take_at xs ys (length xs) refl; below = All-take P (length xs) ns h.below },
  record { vertices = h.vertices; solved = h.solved; names = sym (drop-map F (length xs) ns) ∙ ap (drop (length xs)) h.names ∙ drop_at xs ys (length xs) refl; below = All-drop P (length xs) ns h.below },
)
  where
    F : CallSite ℕ → CallSite ModuleVertex
    F = map_site (vertex_at h.vertices)

    P : CallSite ℕ → Type 0
    P = IsSiteIn (Below (length h.vertices))

    same_length : length ns ≡ length (xs ++ ys)
    same_length = sym (length-map ns F) ∙ ap length h.names

-- the same of a module and those behind it
pub numbered_module : (a : System ModuleVertex Value) (rows : List (List ℕ)) (parts : List Part) (m : ℕ) (part : Part) (ns : List (CallSite ℕ)) → m < length parts → get_or parts m part ≡ part
    → AreNumbered a rows (flat_map (λ (i, c). map (site_of i) c.sites) (enumerate_from m (lists_of (drop m parts)))) ns
    → (length part.summary.lists.sites ≤ length ns) × AreNumbered a rows (map (site_of m) part.summary.lists.sites) (take (length part.summary.lists.sites) ns)
    × AreNumbered a rows (flat_map (λ (i, c). map (site_of i) c.sites) (enumerate_from (m + 1) (lists_of (drop (m + 1) parts)))) (drop (length part.summary.lists.sites) ns)
numbered_module a rows parts m part ns lt is h =
    let first : drop m parts ≡ part ∷ drop (m + 1) parts = drop_more parts m part lt ∙ ap (λ p. p ∷ drop (m + 1) parts) is in
    let xs = map (site_of m) part.summary.lists.sites in
    let ys = flat_map (λ (i, c). map (site_of i) c.sites) (enumerate_from (m + 1) (lists_of (drop (m + 1) parts))) in
    let split = numbered_split a rows xs ys ns (subst (λ ps. AreNumbered a rows (flat_map (λ (i, c). map (site_of i) c.sites) (enumerate_from m (lists_of ps))) ns) first h) in
    subst (λ k. (k ≤ length ns) × AreNumbered a rows xs (take k ns) × AreNumbered a rows ys (drop k ns)) (length-map part.summary.lists.sites (site_of m)) split

-- there are as many numbered sites as sites
pub numbered_count : (a : System ModuleVertex Value) (rows : List (List ℕ)) (m : ℕ) (sites : List SiteInfo) (ns : List (CallSite ℕ)) → AreNumbered a rows (map (site_of m) sites) ns → length ns ≡ length sites
numbered_count a rows m sites ns h = sym (length-map ns (map_site (vertex_at h.vertices))) ∙ ap length h.names ∙ length-map sites (site_of m)

-- the edges of one of the sites, by its numbers
pub numbered_adds : (a : System ModuleVertex Value) (rows : List (List ℕ)) (m : ℕ) (sites : List SiteInfo) (ns : List (CallSite ℕ)) (k : ℕ) (s : SiteInfo) (n : CallSite ℕ) (xs : List Edge) → AreNumbered a rows (map (site_of m) sites) ns → k < length sites → get_or sites k s ≡ s → get_or ns k n ≡ n → AddsEdges (IsEdgeAt a m s) xs (xs ++ site_edges a rows m s n)
numbered_adds a rows m sites ns k s n xs h lt is number_is = site_adds a h.vertices rows h.solved m s n names below xs
  where
    F : CallSite ℕ → CallSite ModuleVertex
    F = map_site (vertex_at h.vertices)

    within : k < length ns
    within = omega (arith, lt, numbered_count a rows m sites ns h)

    names : F n ≡ site_of m s
    names = ap F (sym number_is) ∙ sym (get_or-map F ns k n (F n) within) ∙ ap (λ ss. get_or ss k (F n)) h.names ∙ get_or-map (site_of m) sites k s (F n) lt ∙ ap (site_of m) is

    below : IsSiteIn (Below (length h.vertices)) n
    below = subst (IsSiteIn (Below (length h.vertices))) number_is (All-get_or (IsSiteIn (Below (length h.vertices))) ns k n within h.below)

-- some items and one more
pub among_more : {X : Type 0} (P : X → Edge → Type 0) (items : List X) (i : ℕ) (x : X) (xs ys zs : List Edge) → i < length items → get_or items i x ≡ x → AddsEdges (IsAmong P (take i items)) xs ys → AddsEdges (P x) ys zs → AddsEdges (IsAmong P (take (i + 1) items)) xs zs
among_more P items i x xs ys zs lt at p q = AddsEdges-more (IsAmong P (take i items)) (P x) (IsAmong P (take (i + 1) items)) xs ys zs p q earlier last split
  where
    longer : take (i + 1) items ≡ take i items ++ x ∷ []
    longer = take_more items i x lt ∙ (λ k. take i items ++ at k ∷ [])

    earlier : (e : Edge) → IsAmong P (take i items) e → IsAmong P (take (i + 1) items) e
    earlier e (t, c, h) = (t, subst (λ ts. Contains ts t) (sym longer) (Contains-append_left (take i items) (x ∷ []) t c), h)

    last : (e : Edge) → P x e → IsAmong P (take (i + 1) items) e
    last e h = (x, subst (λ ts. Contains ts x) (sym longer) (Contains-push (take i items) x), h)

    split : (e : Edge) → IsAmong P (take (i + 1) items) e → IsAmong P (take i items) e ⊎ P x e
    split e (t, c, h) = elim (Contains-push_cases (take i items) x t (subst (λ ts. Contains ts t) longer c)) [
      | inl k ↦ inl (t, k, h)
      | inr k ↦ inr (subst (λ y. P y e) (sym k) h)
    ]

-- some modules and one more
pub below_more : (a : System ModuleVertex Value) (modules : List ModuleConstraints) (m : ℕ) (c : ModuleConstraints) (xs ys zs : List Edge) → slice_get modules m ≡ Some c → AddsEdges (IsEdgeBelow a modules m) xs ys → AddsEdges (IsEdgeAmong a m c.sites) ys zs → AddsEdges (IsEdgeBelow a modules (m + 1)) xs zs
below_more a modules m c xs ys zs at p q = AddsEdges-more (IsEdgeBelow a modules m) (IsEdgeAmong a m c.sites) (IsEdgeBelow a modules (m + 1)) xs ys zs p q earlier last split
  where
    earlier : (e : Edge) → IsEdgeBelow a modules m e → IsEdgeBelow a modules (m + 1) e
    earlier e (i, d, lt, here', h) = (i, d, omega (arith, lt), here', h)

    last : (e : Edge) → IsEdgeAmong a m c.sites e → IsEdgeBelow a modules (m + 1) e
    last e h = (m, c, omega arith, at, h)

    before_or_at : (i : ℕ) → i < m + 1 → (i < m) ⊎ (i ≡ m)
    before_or_at i lt = grind arith

    one_some : (x y : ModuleConstraints) → Some x ≡ Some y → x ≡ y
    one_some x y e = cc e

    split : (e : Edge) → IsEdgeBelow a modules (m + 1) e → IsEdgeBelow a modules m e ⊎ IsEdgeAmong a m c.sites e
    split e (i, d, lt, here', h) = elim (before_or_at i lt) [
      | inl l ↦ inl (i, d, l, here', h)
      | inr g ↦ (let same : d ≡ c = one_some d c (sym here' ∙ ap (slice_get modules) g ∙ at) in inr (subst (λ k. IsEdgeAmong a k c.sites e) g (subst (λ (x : ModuleConstraints). IsEdgeAmong a i x.sites e) same h)))
    ]

pub enumerated : {X : Type 0} (n : ℕ) (xs : List X) (i : ℕ) (x : X) → slice_get xs i ≡ Some x → Contains (enumerate_from n xs) (n + i, x)
enumerated n [] i x e = absurd (let k : None ≡ Some x = e in cc)
enumerated n (y ∷ ys) zero x e =
    let same : y ≡ x = cc e in
    let k : n ≡ n + 0 = omega arith in
    subst (λ j. Contains (enumerate_from n (y ∷ ys)) (j, x)) k (subst (λ z. Contains (enumerate_from n (y ∷ ys)) (n, z)) same (here (n, y) (enumerate_from (n + 1) ys)))
enumerated n (y ∷ ys) (suc i) x e =
    let k : n + 1 + i ≡ n + suc i = omega arith in
    there (n, y) (enumerate_from (n + 1) ys) (n + suc i, x) (subst (λ j. Contains (enumerate_from (n + 1) ys) (j, x)) k (enumerated (n + 1) ys i x e))
