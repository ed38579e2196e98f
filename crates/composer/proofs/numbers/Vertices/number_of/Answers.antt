use Rattle.std.proofs.Common.{◌≡◌, ◌∙◌, sym, subst}
use Rattle.std.specs.Prelude.{Contains}
use Rattle.std.specs.List.Sorted.{IsStrictlySortedBy}
use Rattle.flow_rules.specs.declared.vertex.Vertex.TheVariants.{Elem}
use Rattle.composer.specs.Application.{at_module}
use Rattle.composer.specs.Numbers.{module_vertex_order, vertex_at}
use Rattle.composer.proofs.NumberLemmas.{is_searchable, found_member, one_module_vertex}
use Rattle.composer.proofs.numbers.Vertices.number_of.Goals as goal

pub returns-in-Ok-clause-names : goal.returns-in-Ok-clause-names
returns-in-Ok-clause-names c =
    subst (λ vs. vertex_at vs c.in-Ok.place ≡ c.args.vertex.now) (c.as_slice.ensures.value ∙ c.self.view_is) (one_module_vertex _ c.args.vertex.now (c.in-Ok.ensures.ok (at_module 0 Elem)))

pub returns-in-Err-clause-names : goal.returns-in-Err-clause-names
returns-in-Err-clause-names c =
    let vs = c.as_slice.result.now in
    let sorted : IsStrictlySortedBy module_vertex_order vs = subst (IsStrictlySortedBy module_vertex_order) (sym c.as_slice.ensures.value) c.self.invariant.sorted in
    let member : Contains vs c.args.vertex.now = subst (λ xs. Contains xs c.args.vertex.now) (sym (c.as_slice.ensures.value ∙ c.self.view_is)) c.requires in
    absurd (found_member vs c.args.vertex.now c.in-Err.field-0 member (c.in-Err.ensures.position (is_searchable vs c.args.vertex.now sorted)))

pub returns-in-Err-clause-below : goal.returns-in-Err-clause-below
returns-in-Err-clause-below c =
    let vs = c.as_slice.result.now in
    let sorted : IsStrictlySortedBy module_vertex_order vs = subst (IsStrictlySortedBy module_vertex_order) (sym c.as_slice.ensures.value) c.self.invariant.sorted in
    let member : Contains vs c.args.vertex.now = subst (λ xs. Contains xs c.args.vertex.now) (sym (c.as_slice.ensures.value ∙ c.self.view_is)) c.requires in
    absurd (found_member vs c.args.vertex.now c.in-Err.field-0 member (c.in-Err.ensures.position (is_searchable vs c.args.vertex.now sorted)))
