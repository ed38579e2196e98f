-- The order of vertices and flows tells them apart.
use Rattle.std.proofs.Common.{◌≡◌, ◌<◌, ℕ, zero, suc, List, [], ◌∷◌, refl, sym, ap, subst, ◌∙◌}
use Rattle.std.specs.declared.cmp.Ordering.{Ordering}
use Rattle.std.specs.declared.cmp.Ordering.TheVariants.{Less, Equal, Greater}
use Rattle.std.specs.Prelude.{slice_index}
use Rattle.std.specs.Cmp.{IsTotalOrder, on_total, then_total}
use Rattle.std.specs.Cmp.Lexicographic.{slice_cmp, nat_list_cmp_total}
use Rattle.std.specs.Ordering.{ordering_then, nat_cmp, eq_by_cmp, MatchOrdering}
use Rattle.std.specs.Str.{bytes_eq}
use Rattle.std.proofs.lemmas.Map.Text.{is_eq-slice_cmp}
use Rattle.std.proofs.lemmas.Cmp.{ranked}
use Rattle.flow_rules.specs.declared.vertex.Vertex.{Vertex}
use Rattle.flow_rules.specs.declared.vertex.Vertex.TheVariants.{Prop, Elem, Global, Exports, Param, Rest, Ret, Lit, Callee, Arg, More, Recv, Res, Req, Var, Exp}
use Rattle.flow_rules.specs.Vertices.{vertex_key, vertex_order, flow_order, name_of, numbers_of}

-- the first field of a key, and what stands behind it
abbrev first : List ℕ → ℕ
first [] = 0
first (x ∷ xs) = x

abbrev behind : List ℕ → List ℕ
behind [] = []
behind (x ∷ xs) = xs

-- the vertex of the kind with the fields
abbrev of_kind : ℕ → List ℕ → Vertex
of_kind zero xs = Prop xs
of_kind (suc zero) xs = Elem
of_kind (suc (suc zero)) xs = Global xs
of_kind (suc (suc (suc zero))) xs = Exports
of_kind (suc (suc (suc (suc zero)))) xs = Param (first xs) (first (behind xs))
of_kind (suc (suc (suc (suc (suc zero))))) xs = Rest (first xs)
of_kind (suc (suc (suc (suc (suc (suc zero)))))) xs = Ret (first xs)
of_kind (suc (suc (suc (suc (suc (suc (suc zero))))))) xs = Lit (first xs)
of_kind (suc (suc (suc (suc (suc (suc (suc (suc zero)))))))) xs = Callee (first xs) (first (behind xs))
of_kind (suc (suc (suc (suc (suc (suc (suc (suc (suc zero))))))))) xs = Arg (first xs) (first (behind xs)) (first (behind (behind xs)))
of_kind (suc (suc (suc (suc (suc (suc (suc (suc (suc (suc zero)))))))))) xs = More (first xs) (first (behind xs))
of_kind (suc (suc (suc (suc (suc (suc (suc (suc (suc (suc (suc zero))))))))))) xs = Recv (first xs) (first (behind xs))
of_kind (suc (suc (suc (suc (suc (suc (suc (suc (suc (suc (suc (suc zero)))))))))))) xs = Res (first xs) (first (behind xs))
of_kind (suc (suc (suc (suc (suc (suc (suc (suc (suc (suc (suc (suc (suc zero))))))))))))) xs = Req (first xs)
of_kind (suc (suc (suc (suc (suc (suc (suc (suc (suc (suc (suc (suc (suc (suc zero)))))))))))))) xs = Var (first xs)
of_kind _ xs = Exp (first xs)

-- the vertex with the key
abbrev of_key : List ℕ → Vertex
of_key [] = Elem
of_key (k ∷ xs) = of_kind k xs

key_back : (v : Vertex) → of_key (vertex_key v) ≡ v
key_back (Prop n) = refl
key_back Elem = refl
key_back (Global n) = refl
key_back Exports = refl
key_back (Param f i) = refl
key_back (Rest f) = refl
key_back (Ret f) = refl
key_back (Lit f) = refl
key_back (Callee o p) = refl
key_back (Arg o p i) = refl
key_back (More o p) = refl
key_back (Recv o p) = refl
key_back (Res o p) = refl
key_back (Req o) = refl
key_back (Var n) = refl
key_back (Exp n) = refl

-- two vertices with one key are one
pub one_vertex : (u v : Vertex) → vertex_key u ≡ vertex_key v → u ≡ v
one_vertex u v e = sym (key_back u) ∙ ap of_key e ∙ key_back v

-- keys are a total order, and so are vertices and flows
pub vertex_total : IsTotalOrder vertex_order
vertex_total = on_total vertex_key nat_list_cmp_total

pub flow_total : IsTotalOrder flow_order
flow_total = then_total (on_total (λ f. f.from) vertex_total) (on_total (λ f. f.to) vertex_total)

then_equal : (o : Ordering) → ordering_then o Equal ≡ o
then_equal Less = refl
then_equal Equal = refl
then_equal Greater = refl

abbrev numbers_order : ℕ × ℕ × ℕ → ℕ × ℕ × ℕ → Ordering
numbers_order (a, b, c) (x, y, z) = ordering_then (ordering_then (nat_cmp a x) (nat_cmp b y)) (nat_cmp c z)

pub ranked_equal : (x y : ℕ) → nat_cmp x y ≡ Equal → x ≡ y
ranked_equal x y e = subst (λ o. MatchOrdering o (x < y) (x ≡ y) (y < x)) e (ranked x y (nat_cmp x y) refl)

-- by kind, by name and by numbers
abbrev pub parts_order : Vertex → Vertex → Ordering
parts_order u v = ordering_then (ordering_then (nat_cmp (slice_index (vertex_key u) 0) (slice_index (vertex_key v) 0)) (slice_cmp nat_cmp (name_of u) (name_of v))) (numbers_order (numbers_of u) (numbers_of v))

then_assoc : (a b c : Ordering) → ordering_then (ordering_then a b) c ≡ ordering_then a (ordering_then b c)
then_assoc Less b c = refl
then_assoc Equal b c = refl
then_assoc Greater b c = refl

one_number : (a x : ℕ) → ordering_then (nat_cmp a x) Equal ≡ ordering_then (ordering_then (nat_cmp a x) Equal) Equal
one_number a x = sym (then_equal (ordering_then (nat_cmp a x) Equal))

two_numbers : (a x b y : ℕ) → ordering_then (nat_cmp a x) (ordering_then (nat_cmp b y) Equal) ≡ ordering_then (ordering_then (nat_cmp a x) (nat_cmp b y)) Equal
two_numbers a x b y = sym (then_assoc (nat_cmp a x) (nat_cmp b y) Equal)

three_numbers : (a x b y c z : ℕ) → ordering_then (nat_cmp a x) (ordering_then (nat_cmp b y) (ordering_then (nat_cmp c z) Equal)) ≡ ordering_then (ordering_then (nat_cmp a x) (nat_cmp b y)) (nat_cmp c z)
three_numbers a x b y c z = ap (λ o. ordering_then (nat_cmp a x) (ordering_then (nat_cmp b y) o)) (then_equal (nat_cmp c z)) ∙ sym (then_assoc (nat_cmp a x) (nat_cmp b y) (nat_cmp c z))

-- within a kind the parts decide
in_kind : (k : ℕ) (xs ys : List ℕ) → vertex_order (of_kind k xs) (of_kind k ys) ≡ parts_order (of_kind k xs) (of_kind k ys)
in_kind zero xs ys = sym (then_equal (slice_cmp nat_cmp xs ys))
in_kind (suc zero) xs ys = refl
in_kind (suc (suc zero)) xs ys = sym (then_equal (slice_cmp nat_cmp xs ys))
in_kind (suc (suc (suc zero))) xs ys = refl
in_kind (suc (suc (suc (suc zero)))) xs ys = two_numbers (first xs) (first ys) (first (behind xs)) (first (behind ys))
in_kind (suc (suc (suc (suc (suc zero))))) xs ys = one_number (first xs) (first ys)
in_kind (suc (suc (suc (suc (suc (suc zero)))))) xs ys = one_number (first xs) (first ys)
in_kind (suc (suc (suc (suc (suc (suc (suc zero))))))) xs ys = one_number (first xs) (first ys)
in_kind (suc (suc (suc (suc (suc (suc (suc (suc zero)))))))) xs ys = two_numbers (first xs) (first ys) (first (behind xs)) (first (behind ys))
in_kind (suc (suc (suc (suc (suc (suc (suc (suc (suc zero))))))))) xs ys = three_numbers (first xs) (first ys) (first (behind xs)) (first (behind ys)) (first (behind (behind xs))) (first (behind (behind ys)))
in_kind (suc (suc (suc (suc (suc (suc (suc (suc (suc (suc zero)))))))))) xs ys = two_numbers (first xs) (first ys) (first (behind xs)) (first (behind ys))
in_kind (suc (suc (suc (suc (suc (suc (suc (suc (suc (suc (suc zero))))))))))) xs ys = two_numbers (first xs) (first ys) (first (behind xs)) (first (behind ys))
in_kind (suc (suc (suc (suc (suc (suc (suc (suc (suc (suc (suc (suc zero)))))))))))) xs ys = two_numbers (first xs) (first ys) (first (behind xs)) (first (behind ys))
in_kind (suc (suc (suc (suc (suc (suc (suc (suc (suc (suc (suc (suc (suc zero))))))))))))) xs ys = one_number (first xs) (first ys)
in_kind (suc (suc (suc (suc (suc (suc (suc (suc (suc (suc (suc (suc (suc (suc zero)))))))))))))) xs ys = one_number (first xs) (first ys)
in_kind (suc (suc (suc (suc (suc (suc (suc (suc (suc (suc (suc (suc (suc (suc (suc k))))))))))))))) xs ys = one_number (first xs) (first ys)

-- each key has a kind in front
key_parts : (v : Vertex) → vertex_key v ≡ slice_index (vertex_key v) 0 ∷ behind (vertex_key v)
key_parts (Prop n) = refl
key_parts Elem = refl
key_parts (Global n) = refl
key_parts Exports = refl
key_parts (Param f i) = refl
key_parts (Rest f) = refl
key_parts (Ret f) = refl
key_parts (Lit f) = refl
key_parts (Callee o p) = refl
key_parts (Arg o p i) = refl
key_parts (More o p) = refl
key_parts (Recv o p) = refl
key_parts (Res o p) = refl
key_parts (Req o) = refl
key_parts (Var n) = refl
key_parts (Exp n) = refl

-- the order by parts is that by keys
pub by_parts : (u v : Vertex) → parts_order u v ≡ vertex_order u v
by_parts u v = by_kind (nat_cmp (slice_index (vertex_key u) 0) (slice_index (vertex_key v) 0)) refl
  where
    keys : vertex_order u v ≡ ordering_then (nat_cmp (slice_index (vertex_key u) 0) (slice_index (vertex_key v) 0)) (slice_cmp nat_cmp (behind (vertex_key u)) (behind (vertex_key v)))
    keys = λ i. slice_cmp nat_cmp (key_parts u i) (key_parts v i)

    of_its_kind : (w : Vertex) → of_kind (slice_index (vertex_key w) 0) (behind (vertex_key w)) ≡ w
    of_its_kind w = sym (ap of_key (key_parts w)) ∙ key_back w

    same : slice_index (vertex_key u) 0 ≡ slice_index (vertex_key v) 0 → parts_order u v ≡ vertex_order u v
    same e =
        let a = of_its_kind u in
        let b : of_kind (slice_index (vertex_key u) 0) (behind (vertex_key v)) ≡ v = subst (λ k. of_kind k (behind (vertex_key v)) ≡ v) (sym e) (of_its_kind v) in
        sym (λ i. parts_order (a i) (b i)) ∙ sym (in_kind (slice_index (vertex_key u) 0) (behind (vertex_key u)) (behind (vertex_key v))) ∙ (λ i. vertex_order (a i) (b i))

    by_kind : (o : Ordering) → nat_cmp (slice_index (vertex_key u) 0) (slice_index (vertex_key v) 0) ≡ o → parts_order u v ≡ vertex_order u v
    by_kind Less e = rw (keys, e) refl
    by_kind Greater e = rw (keys, e) refl
    by_kind Equal e = same (ranked_equal _ _ e)

pub both_equal : (a b : Ordering) → ordering_then a b ≡ Equal → (a ≡ Equal) × (b ≡ Equal)
both_equal Equal b e = (refl, e)
both_equal Less b e = absurd (cc)
both_equal Greater b e = absurd (cc)

-- two vertices that the order doesn't tell apart have one key
pub same_key : (u v : Vertex) → eq_by_cmp vertex_order u v ≡ bytes_eq (vertex_key u) (vertex_key v)
same_key u v = is_eq-slice_cmp (vertex_key u) (vertex_key v)
