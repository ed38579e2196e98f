-- The edges that were found are the call edges.
use Rattle.std.proofs.Common.{◌≡◌, ℕ, inl, inr, Bool, true, List, [], length, refl, sym, subst, Some}
use Rattle.std.specs.Prelude.{Contains, slice_get}
use Rattle.std.proofs.lemmas.Option.{slice_get_within}
use Rattle.jam_base.specs.declared.edge.Edge.{Edge}
use Rattle.js_scopes.specs.declared.site.SiteInfo.{SiteInfo}
use Rattle.composer.proofs.OneList.{edge_total}
use Rattle.composer.proofs.OrderLemmas.{both_equal, ranked_equal, tests_equal}
use Rattle.composer.proofs.Members.{none}
use Rattle.flow_rules.specs.declared.module.Require.{Require}
use Rattle.flow_rules.specs.Constraints.{ModuleConstraints}
use Rattle.composer.specs.declared.application.Link.{Link}
use Rattle.composer.specs.declared.application.Value.TheVariants.{Fun, Native}
use Rattle.composer.specs.Application.{site_of, system_of}
use Rattle.std.specs.List.{dedup}
use Rattle.std.specs.List.Sorted.{IsPermutation, IsSorted}
use Rattle.std.specs.Ordering.{eq_by_cmp, nat_cmp}
use Rattle.std.proofs.lemmas.Cmp.{eq_by_cmp_equiv}
use Rattle.std.proofs.lemmas.List.Kept.{Contains-dedup, Contains-from_dedup, IsStrictlySortedBy-dedup}
use Rattle.std.proofs.lemmas.List.Sorted.{Contains-permutation, IsPermutation-sym}
use Rattle.jam_base.specs.Edges.{edge_order}
use Rattle.composer.specs.Edges.{IsEdgeList, IsEdge, IsSiteOf, IsRequireOf}
use Rattle.composer.specs.Edges.IsEdge.{call, callback, require}
use Rattle.composer.specs.Solution.{InSolution}
use Rattle.composer.specs.Solved.{AddsEdges, IsAmong, IsEdgeBelow, IsLinkEdge, LeavesSite}
use Rattle.composer.specs.Solved.IsEdgeAt.{called, handed}
use Rattle.composer.specs.Steps.{inputs}

module _ (modules : List ModuleConstraints) (links : List Link) where
  site_is : (m : ℕ) (c : ModuleConstraints) (s : SiteInfo) (edge : Edge) → slice_get modules m ≡ Some c → Contains c.sites s → LeavesSite m s edge → IsSiteOf modules edge s
  site_is m c s edge at cs l = record { constraints = c; here = subst (λ k. slice_get modules k ≡ Some c) (sym l.module) at; site = cs; offset = sym l.offset; holder = sym l.holder }

  from_site : (edge : Edge) → IsEdgeBelow (system_of modules links) modules (length modules) edge → IsEdge modules links edge
  from_site edge (m, c, lt, at, (s, cs, called l x)) = call s (site_is m c s edge at cs l) (subst (λ k. InSolution (system_of modules links) (Fun edge.callee) (site_of k s).callee) (sym l.module) x)
  from_site edge (m, c, lt, at, (s, cs, handed w l x i y)) =
      callback s w (site_is m c s edge at cs l) (subst (λ k. InSolution (system_of modules links) Native (site_of k s).callee) (sym l.module) x) (subst (λ k. Contains (inputs (site_of k s)) w) (sym l.module) i) y

  leaves : (s : SiteInfo) (edge : Edge) → IsSiteOf modules edge s → LeavesSite edge.caller.module s edge
  leaves s edge h = record { «module» = refl; holder = sym h.holder; offset = sym h.offset }

  from_link : (edge : Edge) → IsAmong (IsLinkEdge modules) links edge → IsEdge modules links edge
  from_link edge (link, cl, h) = subst (IsEdge modules links) (sym h.edge_is)
      (require h.require (record { constraints = h.constraints; here = h.here; require = h.stands; offset = h.offset; holder = refl }) cl refl)

  into_link : (edge : Edge) (r : Require) → IsRequireOf modules edge r → Contains links (record { «module» = edge.caller.module; offset = edge.offset; target = edge.callee.module }) → edge.callee.function ≡ 0 → IsAmong (IsLinkEdge modules) links edge
  into_link edge r is cl zero_is = (
    record { «module» = edge.caller.module; offset = edge.offset; target = edge.callee.module },
    cl,
    record {
      constraints = is.constraints;
      here = is.here;
      require = r;
      stands = is.require;
      offset = is.offset;
      edge_is = λ i. record { caller = record { «module» = edge.caller.module; function = sym is.holder i }; offset = edge.offset; callee = record { «module» = edge.callee.module; function = zero_is i } };
    },
  )

  module _ (xs found : List Edge) (sites : AddsEdges (IsEdgeBelow (system_of modules links) modules (length modules)) [] xs) (requires_ : AddsEdges (IsAmong (IsLinkEdge modules) links) xs found) where
    pub edges_found : (edge : Edge) → Contains found edge → IsEdge modules links edge
    edges_found edge h = elim (requires_.found edge h) [
      | inl g ↦ elim (sites.found edge g) [ inl k ↦ absurd (none edge k) | inr k ↦ from_site edge k ]
      | inr g ↦ from_link edge g
    ]

    pub edges_all : (edge : Edge) → IsEdge modules links edge → Contains found edge
    edges_all edge (call s is x) = requires_.kept edge (sites.all edge (edge.caller.module, is.constraints, slice_get_within modules edge.caller.module is.constraints is.here, is.here, (s, is.site, called (leaves s edge is) x)))
    edges_all edge (callback s w is x i y) = requires_.kept edge (sites.all edge (edge.caller.module, is.constraints, slice_get_within modules edge.caller.module is.constraints is.here, is.here, (s, is.site, handed w (leaves s edge is) x i y)))
    edges_all edge (require r is cl z) = requires_.all edge (into_link edge r is cl z)

-- the order tells edges apart
one_edge : (x y : Edge) → eq_by_cmp edge_order x y ≡ true → x ≡ y
one_edge x y e =
    let a = both_equal (nat_cmp x.caller.module y.caller.module) _ (tests_equal (edge_order x y) e) in
    let b = both_equal (nat_cmp x.offset y.offset) _ a.1 in
    let c = both_equal (nat_cmp x.callee.module y.callee.module) _ b.1 in
    let d = both_equal (nat_cmp x.callee.function y.callee.function) (nat_cmp x.caller.function y.caller.function) c.1 in
    let m = ranked_equal x.caller.module y.caller.module a.0 in
    let o = ranked_equal x.offset y.offset b.0 in
    let n = ranked_equal x.callee.module y.callee.module c.0 in
    let f = ranked_equal x.callee.function y.callee.function d.0 in
    let g = ranked_equal x.caller.function y.caller.function d.1 in
    λ i. record { caller = record { «module» = m i; function = g i }; offset = o i; callee = record { «module» = n i; function = f i } }

-- sorted and without repeats, they are the list of call edges
pub edge_list : (modules : List ModuleConstraints) (links : List Link) (xs ys zs : List Edge) → IsPermutation xs ys → IsSorted edge_order ys → zs ≡ dedup (eq_by_cmp edge_order) ys → ((e : Edge) → Contains xs e → IsEdge modules links e) → ((e : Edge) → IsEdge modules links e → Contains xs e) → IsEdgeList modules links zs
edge_list modules links xs ys zs moved sorted is found all = rw is (record {
  sorted = IsStrictlySortedBy-dedup edge_total (λ x y. refl) ys sorted;
  edges_are = λ e. (
    λ h. found e (Contains-permutation ys xs e (IsPermutation-sym xs ys moved) (Contains-from_dedup (eq_by_cmp edge_order) ys e h)),
    λ h. Contains-dedup (eq_by_cmp_equiv edge_total) one_edge ys e (Contains-permutation xs ys e moved (all e h)),
  );
})

-- a test that agrees with the order leaves the same
pub same_dedup : (E : Edge → Edge → Bool) (ys : List Edge) → ((x y : Edge) → E x y ≡ eq_by_cmp edge_order x y) → dedup E ys ≡ dedup (eq_by_cmp edge_order) ys
same_dedup E ys ties = λ i. dedup (λ x y. ties x y i) ys
