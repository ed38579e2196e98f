-- Numbers for vertices: places in an ascending list.
use Rattle.std.proofs.Common.{◌≡◌, ℕ, zero, suc, ◌+◌, ◌<◌, ◌≤◌, ◌⊎◌, inl, inr, true, false, List, [], ◌∷◌, ◌++◌, length, map, get_or, take, refl, ap, sym, ◌∙◌, subst, arith}
use Rattle.std.specs.Prelude.{Contains, All, flat_map}
use Rattle.std.specs.declared.cmp.Ordering.{Ordering}
use Rattle.std.specs.declared.cmp.Ordering.TheVariants.{Less, Equal, Greater}
use Rattle.std.specs.Cmp.{IsTotalOrder, on_total, then_total, nat_cmp_total}
use Rattle.std.specs.Cmp.Lexicographic.{nat_list_cmp_total}
use Rattle.std.specs.List.Sorted.{IsStrictlySortedBy, IsSorted, IsNonDecreasingBy, IsPartitionPoint}
use Rattle.std.specs.Ordering.{ordering_index, ordering_reverse, is_lt, nat_cmp, eq_by_cmp}
use Rattle.std.proofs.lemmas.Cmp.{tied_itself}
use Rattle.std.proofs.lemmas.List.{map-append, take_more, take_all, length_push, get_or_push, get_or_append_left}
use Rattle.std.proofs.lemmas.List.Elements.{All-push, All-nil, Contains-get_or, Contains-append_left, Contains-append_right}
use Rattle.std.proofs.lemmas.List.Sorted.{searchable_from_sorted}
use Rattle.std.proofs.lemmas.Map.Keys.{Less-from_sorted}
use Rattle.std.proofs.lemmas.Map.Lookups.{exact_bytes}
use Rattle.composer.proofs.OrderLemmas.{both_equal, ranked_equal, tests_equal}
use Rattle.composer.proofs.Members.{here, there, into_flat_map}
use Rattle.flow_rules.specs.Vertices.{vertex_key, vertex_order}
use Rattle.flow_rules.proofs.Order.{one_vertex}
use Rattle.composer.specs.declared.application.ModuleVertex.{ModuleVertex}
use Rattle.composer.specs.declared.system.Arrow.{Arrow}
use Rattle.composer.specs.declared.system.Callable.{Callable}
use Rattle.composer.specs.declared.system.CallSite.{CallSite}
use Rattle.composer.specs.declared.system.System.{System}
use Rattle.composer.specs.Numbered.{IsCallableIn, IsSiteIn, IsSystemIn, all_vertices, arrow_vertices, callable_vertices, site_vertices}
use Rattle.composer.specs.declared.application.Value.{Value}
use Rattle.composer.specs.declared.application.Value.TheVariants.{Native}
use Rattle.composer.specs.Numbers.{module_vertex_order, value_at}

-- the first i of the items are what the function gives of the numbers, which have the property
pub record Numbers {X Y : Type 0} (f : X → Y) (P : X → Type 0) (xs : List X) (ys : List Y) (i : ℕ) : Type 0 where
  pub names : map f xs ≡ take i ys
  pub all : All P xs

pub Numbers-none : {X Y : Type 0} (f : X → Y) (P : X → Type 0) (ys : List Y) → Numbers f P [] ys 0
Numbers-none f P ys = record { names = refl; all = All-nil P }

pub Numbers-more : {X Y : Type 0} (f : X → Y) (P : X → Type 0) (xs : List X) (x : X) (ys : List Y) (i : ℕ) (d : Y) → i < length ys → Numbers f P xs ys i → f x ≡ get_or ys i d → P x → Numbers f P (xs ++ x ∷ []) ys (i + 1)
Numbers-more f P xs x ys i d lt n e p = record {
  names = map-append f xs (x ∷ []) ∙ (λ k. n.names k ++ e k ∷ []) ∙ sym (take_more ys i d lt);
  all = All-push P xs x n.all p;
}

pub Numbers-whole : {X Y : Type 0} (f : X → Y) (P : X → Type 0) (xs : List X) (ys : List Y) (i : ℕ) → length ys ≤ i → Numbers f P xs ys i → map f xs ≡ ys
Numbers-whole f P xs ys i le n = n.names ∙ take_all i ys le

-- the values are the places
pub record HasPlaces (xs : List (Callable ℕ ℕ)) (n : ℕ) : Type 0 where
  pub count : length xs ≡ n
  pub places : (k : ℕ) (f : Callable ℕ ℕ) → k < length xs → (get_or xs k f).value ≡ k

pub HasPlaces-none : HasPlaces [] 0
HasPlaces-none = record { count = refl; places = λ k f lt. absurd (omega (arith, lt)) }

pub HasPlaces-more : (xs : List (Callable ℕ ℕ)) (x : Callable ℕ ℕ) (n : ℕ) → HasPlaces xs n → x.value ≡ n → HasPlaces (xs ++ x ∷ []) (n + 1)
HasPlaces-more xs x n p e = record {
  count = length_push xs x ∙ ap (λ m. m + 1) p.count;
  places = λ k f lt. elim (front_or_end k (omega (arith, lt, length_push xs x))) [
    | inl l ↦ ap (λ (g : Callable ℕ ℕ). g.value) (get_or_append_left xs (x ∷ []) f k l) ∙ p.places k f l
    | inr g ↦ ap (λ (g : Callable ℕ ℕ). g.value) (get_or_push xs x f k (sym g)) ∙ e ∙ sym p.count ∙ sym g
  ];
}
  where
    front_or_end : (k : ℕ) → k < length xs + 1 → (k < length xs) ⊎ (k ≡ length xs)
    front_or_end k lt = grind arith

-- the order tells vertices apart
pub order_total : IsTotalOrder module_vertex_order
order_total = then_total (on_total (λ v. v.module) nat_cmp_total) (on_total (λ v. vertex_key v.vertex) nat_list_cmp_total)

pub one_module_vertex : (u v : ModuleVertex) → module_vertex_order u v ≡ Equal → u ≡ v
one_module_vertex u v e =
    let b = both_equal (nat_cmp u.module v.module) (vertex_order u.vertex v.vertex) e in
    let m = ranked_equal u.module v.module b.0 in
    let w = one_vertex u.vertex v.vertex (exact_bytes (vertex_key u.vertex) (vertex_key v.vertex) b.1) in
    λ i. record { «module» = m i; vertex = w i }

pub same_vertex : (u v : ModuleVertex) → eq_by_cmp module_vertex_order u v ≡ true → u ≡ v
same_vertex u v e = one_module_vertex u v (tests_equal (module_vertex_order u v) e)

-- a member is found
not_less : (a b : Ordering) → a ≡ ordering_reverse b → b ≡ Less → is_lt a ≡ false
not_less a b e h = ap is_lt (e ∙ ap ordering_reverse h)

sorted_weakly : (vs : List ModuleVertex) → IsStrictlySortedBy module_vertex_order vs → IsSorted module_vertex_order vs
sorted_weakly vs s k d low lt =
    not_less (module_vertex_order (get_or vs (k + 1) d) (get_or vs k d)) (module_vertex_order (get_or vs k d) (get_or vs (k + 1) d)) (order_total.antisymm (get_or vs (k + 1) d) (get_or vs k d)) (Less-from_sorted module_vertex_order vs k (k + 1) d s (omega arith) lt)

pub is_searchable : (vs : List ModuleVertex) (v : ModuleVertex) → IsStrictlySortedBy module_vertex_order vs → IsNonDecreasingBy (λ y. ordering_index (module_vertex_order y v)) vs
is_searchable vs v s = searchable_from_sorted order_total (λ y. y) vs v (sorted_weakly vs s)

no_order : (o : Ordering) → o ≡ Equal → (o ≡ Less) ⊎ (o ≡ Greater) → ⊥
no_order o e (inl h) = let k : Equal ≡ Less = sym e ∙ h in cc
no_order o e (inr h) = let k : Equal ≡ Greater = sym e ∙ h in cc

pub found_member : (vs : List ModuleVertex) (v : ModuleVertex) (i : ℕ) → Contains vs v → IsPartitionPoint (λ y. module_vertex_order y v ≡ Less) (λ y. module_vertex_order y v ≡ Greater) vs i → ⊥
found_member vs v i (k, lt, e) p =
    no_order (module_vertex_order (get_or vs k v) v) (subst (λ y. module_vertex_order y v ≡ Equal) (sym e) (tied_itself order_total v)) (side (less_or_not k i))
  where
    less_or_not : (k i : ℕ) → (k < i) ⊎ (i ≤ k)
    less_or_not k i = grind arith

    side : (k < i) ⊎ (i ≤ k) → (module_vertex_order (get_or vs k v) v ≡ Less) ⊎ (module_vertex_order (get_or vs k v) v ≡ Greater)
    side (inl h) = inl (p.0 k v (omega arith) h)
    side (inr h) = inr (p.1 k v h lt)

-- where all vertices are members of a list, so are those of each part
every : {V : Type 0} (xs ys : List V) → ((v : V) → Contains ys v → Contains xs v) → All (Contains xs) ys
every xs ys h = λ k d lt. h (get_or ys k d) (Contains-get_or ys k d lt)

module _ {V T : Type 0} (xs : List V) where
  callable_members : (f : Callable V T) → ((v : V) → Contains (callable_vertices f) v → Contains xs v) → IsCallableIn (Contains xs) f
  callable_members f h = record {
    literal = h f.literal (here f.literal (f.params ++ f.rest ∷ f.ret ∷ []));
    params = every xs f.params (λ v c. h v (there f.literal (f.params ++ f.rest ∷ f.ret ∷ []) v (Contains-append_left f.params (f.rest ∷ f.ret ∷ []) v c)));
    rest = h f.rest (there f.literal (f.params ++ f.rest ∷ f.ret ∷ []) f.rest (Contains-append_right f.params (f.rest ∷ f.ret ∷ []) f.rest (here f.rest (f.ret ∷ []))));
    ret = h f.ret (there f.literal (f.params ++ f.rest ∷ f.ret ∷ []) f.ret (Contains-append_right f.params (f.rest ∷ f.ret ∷ []) f.ret (there f.rest (f.ret ∷ []) f.ret (here f.ret []))));
  }

module _ {V : Type 0} (xs : List V) where
  site_members : (s : CallSite V) → ((v : V) → Contains (site_vertices s) v → Contains xs v) → IsSiteIn (Contains xs) s
  site_members s h =
      let rest = s.more ∷ s.recv ∷ s.res ∷ [] in
      record {
        callee = h s.callee (here s.callee (s.args ++ s.more ∷ s.recv ∷ s.res ∷ []));
        args = every xs s.args (λ v c. h v (there s.callee (s.args ++ s.more ∷ s.recv ∷ s.res ∷ []) v (Contains-append_left s.args (s.more ∷ s.recv ∷ s.res ∷ []) v c)));
        more = h s.more (there s.callee (s.args ++ s.more ∷ s.recv ∷ s.res ∷ []) s.more (Contains-append_right s.args (s.more ∷ s.recv ∷ s.res ∷ []) s.more (here s.more (s.recv ∷ s.res ∷ []))));
        recv = h s.recv (there s.callee (s.args ++ s.more ∷ s.recv ∷ s.res ∷ []) s.recv (Contains-append_right s.args (s.more ∷ s.recv ∷ s.res ∷ []) s.recv (there s.more (s.recv ∷ s.res ∷ []) s.recv (here s.recv (s.res ∷ [])))));
        res = h s.res (there s.callee (s.args ++ s.more ∷ s.recv ∷ s.res ∷ []) s.res (Contains-append_right s.args (s.more ∷ s.recv ∷ s.res ∷ []) s.res (there s.more (s.recv ∷ s.res ∷ []) s.res (there s.recv (s.res ∷ []) s.res (here s.res [])))));
      }

pub system_members : {V T : Type 0} (xs : List V) (a : System V T) → ((v : V) → Contains (all_vertices a) v → Contains xs v) → IsSystemIn (Contains xs) a
system_members {V} xs a h = record {
  functions = λ k d lt. callable_members xs (get_or a.functions k d) (λ v c. h v (in_three v (Contains-append_left (flat_map callable_vertices a.functions) (flat_map site_vertices a.sites) v (into_flat_map callable_vertices a.functions (get_or a.functions k d) v (Contains-get_or a.functions k d lt) c))));
  sites = λ k d lt. site_members xs (get_or a.sites k d) (λ v c. h v (in_three v (Contains-append_right (flat_map callable_vertices a.functions) (flat_map site_vertices a.sites) v (into_flat_map site_vertices a.sites (get_or a.sites k d) v (Contains-get_or a.sites k d lt) c))));
  flows = λ k d lt. (
    flow_end (get_or a.flows k d) (get_or a.flows k d).from (Contains-get_or a.flows k d lt) (here (get_or a.flows k d).from ((get_or a.flows k d).to ∷ [])),
    flow_end (get_or a.flows k d) (get_or a.flows k d).to (Contains-get_or a.flows k d lt) (there (get_or a.flows k d).from ((get_or a.flows k d).to ∷ []) (get_or a.flows k d).to (here (get_or a.flows k d).to [])),
  );
  elem = h a.elem (Contains-append_right three (a.elem ∷ a.native_at) a.elem (here a.elem a.native_at));
  native_at = every xs a.native_at (λ v c. h v (Contains-append_right three (a.elem ∷ a.native_at) v (there a.elem a.native_at v c)));
}
  where
    three : List V
    three = flat_map callable_vertices a.functions ++ flat_map site_vertices a.sites ++ flat_map arrow_vertices a.flows

    in_three : (v : V) → Contains (flat_map callable_vertices a.functions ++ flat_map site_vertices a.sites) v → Contains (all_vertices a) v
    in_three v c = Contains-append_left (flat_map callable_vertices a.functions ++ flat_map site_vertices a.sites ++ flat_map arrow_vertices a.flows) (a.elem ∷ a.native_at) v (Contains-append_left (flat_map callable_vertices a.functions ++ flat_map site_vertices a.sites) (flat_map arrow_vertices a.flows) v c)

    flow_end : (x : Arrow V) (v : V) → Contains a.flows x → Contains (arrow_vertices x) v → Contains xs v
    flow_end x v c e = h v (Contains-append_left (flat_map callable_vertices a.functions ++ flat_map site_vertices a.sites ++ flat_map arrow_vertices a.flows) (a.elem ∷ a.native_at) v
        (Contains-append_right (flat_map callable_vertices a.functions ++ flat_map site_vertices a.sites) (flat_map arrow_vertices a.flows) v (into_flat_map arrow_vertices a.flows x v c e)))

-- the value of a place
pub value_at_place : (a : System ModuleVertex Value) (k : ℕ) (f : Callable ModuleVertex Value) → k < length a.functions → get_or a.functions k f ≡ f → value_at a k ≡ f.value
value_at_place a k f lt e = at_place a.functions k lt e
  where
    at_place : (fs : List (Callable ModuleVertex Value)) (k : ℕ) → k < length fs → get_or fs k f ≡ f → get_or (map (λ g. g.value) fs) k Native ≡ f.value
    at_place [] k lt e = absurd (omega (arith, lt))
    at_place (g ∷ fs) zero lt e = ap (λ (x : Callable ModuleVertex Value). x.value) e
    at_place (g ∷ fs) (suc k) lt e = at_place fs k (omega (arith, lt)) e
