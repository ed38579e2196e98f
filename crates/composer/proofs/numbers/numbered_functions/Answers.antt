use Rattle.std.proofs.Common.{◌≡◌, ◌<◌, ◌≤◌, length, get_or, sym, ◌∙◌, ap, subst, arith}
use Rattle.std.specs.Prelude.{Contains}
use Rattle.std.proofs.lemmas.List.Elements.{All-get_or}
use Rattle.composer.specs.Numbered.{Below, IsCallableIn, map_callable}
use Rattle.composer.specs.Numbers.{value_at, vertex_at}
use Rattle.composer.proofs.NumberLemmas.{Numbers-none, Numbers-more, Numbers-whole, HasPlaces-none, HasPlaces-more, value_at_place}
use Rattle.composer.proofs.numbers.numbered_functions.Goals as goal

pub loop-k-init : goal.loop-k-init
loop-k-init c =
    let vs = c.args.vertices.now in
    rw c.new-out.ensures.items (Numbers-none (map_callable (vertex_at vs) (value_at c.args.system.now)) (IsCallableIn (Below (length vs))) c.args.system.now.functions, HasPlaces-none)

pub numbered_callable-requires : goal.numbered_callable-requires
numbered_callable-requires c =
    let vs = c.args.vertices.now in
    let fs = c.args.system.now.functions in
    let f = c.index-functions-k.result in
    let lt : c.loop-k.k < length fs = subst (λ xs. c.loop-k.k < length xs) c.as_slice-functions.ensures c.loop-k-test.true in
    let is : f ≡ get_or fs c.loop-k.k f = c.index-functions-k.is ∙ ap (λ xs. get_or xs c.loop-k.k f) c.as_slice-functions.ensures in
    subst (IsCallableIn (Contains vs)) (sym is) (All-get_or (IsCallableIn (Contains vs)) fs c.loop-k.k f lt c.requires)

pub loop-k-preserved : goal.loop-k-preserved
loop-k-preserved c =
    let vs = c.args.vertices.now in
    let a = c.args.system.now in
    let f = c.index-functions-k.result in
    let k = c.loop-k.k in
    let made = c.in_ok-made.made in
    let F = map_callable (vertex_at vs) (value_at a) in
    let P = IsCallableIn (Below (length vs)) in
    let lt : k < length a.functions = subst (λ xs. k < length xs) c.as_slice-functions.ensures c.loop-k-test.true in
    let is : f ≡ get_or a.functions k f = c.index-functions-k.is ∙ ap (λ xs. get_or xs k f) c.as_slice-functions.ensures in
    let named : F made ≡ get_or a.functions k f = c.in_ok-made.ensures.names (value_at a) (value_at_place a k f lt (sym is)) ∙ is in
    rw c.in_ok-push.ensures.items
    (Numbers-more F P c.loop-k.out.items made a.functions k f lt c.loop-k.invariant.0 named c.in_ok-made.ensures.below, HasPlaces-more c.loop-k.out.items made k c.loop-k.invariant.1 c.in_ok-made.ensures.value)

pub returns-clause-names : goal.returns-clause-names
returns-clause-names c =
    let vs = c.args.vertices.now in
    let a = c.args.system.now in
    Numbers-whole (map_callable (vertex_at vs) (value_at a)) (IsCallableIn (Below (length vs))) c.loop-k.out.items a.functions c.loop-k.k (subst (λ xs. length xs ≤ c.loop-k.k) c.as_slice-functions.ensures c.loop-k-test.false) c.loop-k.invariant.0

pub returns-clause-values : goal.returns-clause-values
returns-clause-values c = c.loop-k.invariant.1.places

pub returns-clause-few : goal.returns-clause-few
returns-clause-few c = omega (arith, c.loop-k.invariant.1.count, c.loop-k.auto.k-end, c.if-functions-ge-MOST.false)
