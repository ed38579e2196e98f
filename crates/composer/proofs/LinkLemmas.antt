-- The edges of links.
use Rattle.std.proofs.Common.{◌≡◌, ℕ, inl, inr, List, [], ◌∷◌, ◌++◌, map, sym, ◌∙◌, subst, Some}
use Rattle.std.specs.Prelude.{Contains, slice_get}
use Rattle.std.specs.Option.{option_map}
use Rattle.std.specs.List.Sorted.{IsStrictlySortedBy}
use Rattle.std.proofs.lemmas.List.Elements.{All-nil, Contains-append_cases, Contains-append_left, Contains-append_right}
use Rattle.std.proofs.lemmas.Option.{slice_get-map}
use Rattle.jam_base.specs.declared.edge.Edge.{Edge}
use Rattle.flow_rules.specs.Constraints.{ModuleConstraints}
use Rattle.flow_rules.specs.declared.module.Require.{Require}
use Rattle.composer.specs.declared.application.Link.{Link}
use Rattle.composer.specs.declared.application.Part.{Part}
use Rattle.composer.specs.CallEdges.{link_edge}
use Rattle.composer.specs.Parts.{AreByPath, AreLinks, IsNamed, lists_of}
use Rattle.composer.specs.Solved.{AddsEdges, IsLinkEdge}
use Rattle.composer.proofs.Members.{here, only}

-- the lists of a part stand at its place
pub lists_at : (parts : List Part) (m : ℕ) (part : Part) → slice_get parts m ≡ Some part → slice_get (lists_of parts) m ≡ Some part.summary.lists
lists_at parts m part e = slice_get-map (λ (p : Part). p.summary.lists) parts m ∙ (λ i. option_map (λ (p : Part). p.summary.lists) (e i))

-- the one edge of a link, whose require this function holds
pub link_adds : (modules : List ModuleConstraints) (link : Link) (c : ModuleConstraints) (holder : ℕ) (r : Require) (xs : List Edge) → slice_get modules link.module ≡ Some c → Contains c.requires_ r → r.offset ≡ link.offset → ((s : Require) → Contains c.requires_ s → s.offset ≡ link.offset → holder ≡ s.holder) → AddsEdges (IsLinkEdge modules link) xs (xs ++ link_edge link holder ∷ [])
link_adds modules link c holder r xs at stands offset holds = record {
  found = λ e h. elim (Contains-append_cases xs (link_edge link holder ∷ []) e h) [
    | inl g ↦ inl g
    | inr g ↦ inr (record { constraints = c; here = at; require = r; stands = stands; offset = offset; edge_is = sym (only (link_edge link holder) e g) ∙ (λ i. link_edge link (holds r stands offset i)) })
  ];
  kept = λ e h. Contains-append_left xs (link_edge link holder ∷ []) e h;
  all = λ e h. Contains-append_right xs (link_edge link holder ∷ []) e (subst (λ x. Contains (link_edge link holder ∷ []) x) (same e h) (here (link_edge link holder) []));
}
  where
    one_some : (x y : ModuleConstraints) → Some x ≡ Some y → x ≡ y
    one_some x y e = cc e

    same : (e : Edge) → IsLinkEdge modules link e → link_edge link holder ≡ e
    same e h =
        let c_is : h.constraints ≡ c = one_some h.constraints c (sym h.here ∙ at) in
        (λ i. link_edge link (holds h.require (subst (λ (d : ModuleConstraints). Contains d.requires_ h.require) c_is h.stands) h.offset i)) ∙ sym h.edge_is

-- a part alone goes by its path, and there are no links
pub alone_by_path : (part : Part) → AreByPath (part ∷ [])
unfolding IsStrictlySortedBy
alone_by_path part = (tt, tt)

pub no_links : (modules : List ModuleConstraints) → AreLinks modules []
unfolding IsStrictlySortedBy
no_links modules = record { sorted = tt; named = All-nil (IsNamed modules) }
