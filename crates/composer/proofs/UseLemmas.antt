-- The work of a solution that rows hold is no more than its uses.
use Rattle.std.proofs.Common.{◌≡◌, ◌≢◌, ℕ, zero, suc, ◌+◌, ◌<◌, ◌≤◌, ◌⊎◌, inl, inr, Bool, true, false, ◌||◌, cond, List, [], ◌∷◌, ◌++◌, length, map, get_or, refl, ap, sym, ◌∙◌, subst, arith, Option, Some, None}
use Rattle.std.specs.Prelude.{Contains, IsTrue, flat_map, nat_eq, slice_get}
use Rattle.std.specs.List.{AllByRecursion, IsDistinct, sum_by}
use Rattle.std.proofs.lemmas.Bool.{cases_eq, eq-eqb, eqb-true, ne_eqb}
use Rattle.std.proofs.lemmas.Bool.Decides.{eqb_tells}
use Rattle.std.proofs.lemmas.List.{map-append}
use Rattle.std.proofs.lemmas.List.Sums.{sum_by-cons, sum_by-append}
use Rattle.std.proofs.lemmas.Option.{slice_get-get_or, slice_get_past}
use Rattle.composer.specs.declared.system.Arrow.{Arrow}
use Rattle.composer.specs.declared.system.Callable.{Callable}
use Rattle.composer.specs.declared.system.CallSite.{CallSite}
use Rattle.composer.specs.declared.system.System.{System}
use Rattle.composer.specs.Numbered.{HasValues, map_arrow, map_callable, map_site, map_system}
use Rattle.composer.specs.Rows.{is_in}
use Rattle.composer.specs.Steps.{inputs, call_arrows, native_arrows, callback_arrows}
use Rattle.composer.specs.Uses.{count_at, for_each_at, native_reasons, reasons, site_reasons, uses_of}
use Rattle.composer.specs.Ways.{all_ways, called_ways, callback_ways, input_ways, site_ways}
use Rattle.composer.specs.Work.{total}
use Rattle.composer.proofs.Members.{here, there}
use Rattle.composer.proofs.Renamed.{calls-map, callbacks-map, inputs-map}
use Rattle.composer.proofs.RowLemmas.{apart}
use Rattle.composer.proofs.WayLemmas.{native_has_none, value_is_place}

pub total_le : (k n : ℕ) (g h : ℕ → ℕ) → ((i : ℕ) → k ≤ i → i < k + n → g i ≤ h i) → total k n g ≤ total k n h
total_le k zero g h le = omega arith
total_le k (suc n) g h le =
    let here : g k ≤ h k = le k (omega arith) (omega arith) in
    let later : total (suc k) n g ≤ total (suc k) n h = total_le (suc k) n g h (λ i a b. le i (omega (arith, a)) (omega (arith, b))) in
    omega (arith, here, later)

pub total_zero : (k n : ℕ) → total k n (λ i. 0) ≡ 0
total_zero k zero = refl
total_zero k (suc n) = let e = total_zero (suc k) n in omega (arith, e)

-- sums that differ at one number
pub total_more : (k n x d : ℕ) (g h : ℕ → ℕ) → k ≤ x → x < k + n → ((i : ℕ) → i ≢ x → h i ≡ g i) → h x ≡ g x + d → total k n h ≡ total k n g + d
total_more k zero x d g h le lt same more = absurd (omega (arith, le, lt))
total_more k (suc n) x d g h le lt same more = elim (cases_eq x k) [
  | inl e ↦
      let here : h k ≡ g k + d = subst (λ i. h i ≡ g i + d) e more in
      let later : total (suc k) n h ≡ total (suc k) n g = total_same (suc k) n g h (λ i a b. same i (λ f. omega (arith, a, e, f))) in
      omega (arith, here, later)
  | inr ne ↦
      let here : h k ≡ g k = same k (λ f. ne (sym f)) in
      let later : total (suc k) n h ≡ total (suc k) n g + d = total_more (suc k) n x d g h (above x k le ne) (omega (arith, lt)) same more in
      omega (arith, here, later)
]
  where
    above : (x k : ℕ) → k ≤ x → x ≢ k → suc k ≤ x
    above x k le ne = grind arith

    total_same : (k n : ℕ) (g h : ℕ → ℕ) → ((i : ℕ) → k ≤ i → i < k + n → h i ≡ g i) → total k n h ≡ total k n g
    total_same k zero g h same = refl
    total_same k (suc n) g h same =
        let here : h k ≡ g k = same k (omega arith) (omega arith) in
        let later : total (suc k) n h ≡ total (suc k) n g = total_same (suc k) n g h (λ i a b. same i (omega (arith, a)) (omega (arith, b))) in
        omega (arith, here, later)

-- a sum over a list of different numbers
pub new_in : (x : ℕ) (xs : List ℕ) → AllByRecursion (λ y. nat_eq x y ≡ false) xs → is_in x xs ≡ false
new_in x [] all = refl
new_in x (y ∷ ys) all = elim (eqb_tells y x) [
  | inl e ↦ absurd (apart (eq-eqb x y (sym e.1)) all.0)
  | inr e ↦ rw e.0 (new_in x ys all.1)
]

pub distinct_total : (n : ℕ) (xs : List ℕ) (g : ℕ → ℕ) → IsDistinct nat_eq xs → ((t : ℕ) → is_in t xs ≡ true → t < n) → sum_by g xs ≡ total 0 n (λ k. cond (is_in k xs) (g k) 0)
unfolding IsDistinct
distinct_total n [] g distinct below = sym (total_zero 0 n)
distinct_total n (x ∷ xs) g distinct below =
    let later : sum_by g xs ≡ total 0 n (λ k. cond (is_in k xs) (g k) 0) = distinct_total n xs g distinct.1 (λ t h. below t (rw h (or_true (nat_eq x t)))) in
    let lt : x < n = below x (rw (eq-eqb x x refl) refl) in
    let more : total 0 n (λ k. cond (is_in k (x ∷ xs)) (g k) 0) ≡ total 0 n (λ k. cond (is_in k xs) (g k) 0) + g x
    = total_more 0 n x (g x) (λ k. cond (is_in k xs) (g k) 0) (λ k. cond (is_in k (x ∷ xs)) (g k) 0) (omega arith) (omega (arith, lt)) (other x xs g) (this x xs g (new_in x xs distinct.0)) in
    omega (arith, sum_by-cons g x xs, later, more)
  where
    or_true : (b : Bool) → (b || true) ≡ true
    or_true true = refl
    or_true false = refl

    other : (x : ℕ) (xs : List ℕ) (g : ℕ → ℕ) (i : ℕ) → i ≢ x → ◌≡◌ {A = ℕ} (cond (is_in i (x ∷ xs)) (g i) 0) (cond (is_in i xs) (g i) 0)
    other x xs g i ne = rw (ne_eqb x i (λ e. ne (sym e))) refl

    this : (x : ℕ) (xs : List ℕ) (g : ℕ → ℕ) → is_in x xs ≡ false → ◌≡◌ {A = ℕ} (cond (is_in x (x ∷ xs)) (g x) 0) (cond (is_in x xs) (g x) 0 + g x)
    this x xs g absent = rw (eq-eqb x x refl, absent) (omega arith)

-- a sum over a list, by its places
total_of : {X : Type 0} (xs : List X) (k : ℕ) (g : X → ℕ) (h : ℕ → ℕ) → ((i : ℕ) (x : X) → i < length xs → get_or xs i x ≡ x → g x ≡ h (k + i)) → sum_by g xs ≡ total k (length xs) h
total_of [] k g h same = refl
total_of (x ∷ xs) k g h same =
    let zero_is : k + 0 ≡ k = omega arith in
    let here : g x ≡ h k = same 0 x (omega arith) refl ∙ ap h zero_is in
    let later : sum_by g xs ≡ total (suc k) (length xs) h = total_of xs (suc k) g h (λ i y lt e. let plus : k + suc i ≡ suc k + i = omega arith in same (suc i) y (omega (arith, lt)) e ∙ ap h plus) in
    omega (arith, sum_by-cons g x xs, here, later)

-- the sum over what stands at a vertex is no more than that over all functions and the native that the test has there
module _ (a : System ℕ ℕ) (values : HasValues a) (at : ℕ → List ℕ) (has : ℕ → ℕ → Bool) (distinct : (v : ℕ) → IsDistinct nat_eq (at v)) (bound : (t v : ℕ) → is_in t (at v) ≡ true → t ≤ a.native)
    (held : (t v : ℕ) → is_in t (at v) ≡ true → has t v ≡ true) where
  abbrev over : ℕ → (ℕ → ℕ) → ℕ
  over v g = sum_by (λ (f : Callable ℕ ℕ). cond (has f.value v) (g f.value) 0) a.functions + cond (has a.native v) (g a.native) 0

  at_most : (v : ℕ) (g : ℕ → ℕ) → sum_by g (at v) ≤ over v g
  at_most v g =
      let n : a.native ≡ length a.functions = values.native in
      let places : 0 + length a.functions ≡ a.native = omega (arith, n) in
      let all : sum_by g (at v) ≡ total 0 (suc (length a.functions)) (λ k. cond (is_in k (at v)) (g k) 0) = distinct_total (suc (length a.functions)) (at v) g (distinct v) (λ t h. let b = bound t v h in omega (arith, b, n)) in
      let le : total 0 (suc (length a.functions)) (λ k. cond (is_in k (at v)) (g k) 0) ≤ total 0 (suc (length a.functions)) (λ k. cond (has k v) (g k) 0)
      = total_le 0 (suc (length a.functions)) _ _ (λ i _ _. cond_le (is_in i (at v)) (has i v) (g i) (held i v)) in
      let last : total 0 (suc (length a.functions)) (λ k. cond (has k v) (g k) 0) ≡ total 0 (length a.functions) (λ k. cond (has k v) (g k) 0) + cond (has a.native v) (g a.native) 0
      = total_last 0 (length a.functions) (λ k. cond (has k v) (g k) 0) ∙ ap (λ m. total 0 (length a.functions) (λ k. cond (has k v) (g k) 0) + cond (has m v) (g m) 0) places in
      let is : sum_by (λ (f : Callable ℕ ℕ). cond (has f.value v) (g f.value) 0) a.functions ≡ total 0 (length a.functions) (λ k. cond (has k v) (g k) 0)
      = total_of a.functions 0 (λ (f : Callable ℕ ℕ). cond (has f.value v) (g f.value) 0) (λ k. cond (has k v) (g k) 0) (λ i f lt e. let w : f.value ≡ i = subst (λ (x : Callable ℕ ℕ). x.value ≡ i) e (values.values i f lt) in let z : f.value ≡ 0 + i = omega (arith, w) in ap (λ m. cond (has m v) (g m) 0) z) in
      omega (arith, all, le, last, is)
    where
      cond_le : (b c : Bool) (x : ℕ) → (b ≡ true → c ≡ true) → cond b x 0 ≤ cond c x 0
      cond_le true c x more = rw (more refl) (omega arith)
      cond_le false c x more = omega arith

      total_last : (k n : ℕ) (g : ℕ → ℕ) → total k (suc n) g ≡ total k n g + g (k + n)
      total_last k zero g = let z : k + 0 ≡ k = omega arith in let e = ap g z in omega (arith, e)
      total_last k (suc n) g =
          let later : total (suc k) (suc n) g ≡ total (suc k) n g + g (suc k + n) = total_last (suc k) n g in
          let plus : k + suc n ≡ suc k + n = omega arith in
          let e = ap g plus in
          omega (arith, later, e)

-- sums over lists that are put together
pub sum_flat : {X Y : Type 0} (g : Y → ℕ) (make : X → List Y) (xs : List X) → sum_by g (flat_map make xs) ≡ sum_by (λ x. sum_by g (make x)) xs
sum_flat g make [] = refl
sum_flat g make (x ∷ xs) =
    let e = sum_by-append g (make x) (flat_map make xs) in
    let f = sum_by-cons (λ x. sum_by g (make x)) x xs in
    let later = sum_flat g make xs in
    omega (arith, e, f, later)

pub sum_cond : {Y : Type 0} (g : Y → ℕ) (b : Bool) (ys : List Y) → sum_by g (cond b ys []) ≡ cond b (sum_by g ys) 0
sum_cond g true ys = refl
sum_cond g false ys = refl

pub sum_le : {X : Type 0} (g h : X → ℕ) (xs : List X) → ((x : X) → Contains xs x → g x ≤ h x) → sum_by g xs ≤ sum_by h xs
sum_le g h [] le = omega arith
sum_le g h (x ∷ xs) le =
    let e = sum_by-cons g x xs in
    let f = sum_by-cons h x xs in
    let first = le x (here x xs) in
    let later = sum_le g h xs (λ y c. le y (there x xs y c)) in
    omega (arith, e, f, first, later)

pub sum_same : {X : Type 0} (g h : X → ℕ) (xs : List X) → ((x : X) → g x ≡ h x) → sum_by g xs ≡ sum_by h xs
sum_same g h [] same = refl
sum_same g h (x ∷ xs) same =
    let e = sum_by-cons g x xs in
    let f = sum_by-cons h x xs in
    let first = same x in
    let later = sum_same g h xs same in
    omega (arith, e, f, first, later)

pub sum_ones : {X : Type 0} (xs : List X) → sum_by (λ x. 1) xs ≡ length xs
sum_ones [] = refl
sum_ones {X} (x ∷ xs) = let e = sum_by-cons (λ (y : X). 1) x xs in let later = sum_ones xs in omega (arith, e, later)

-- where the values that stand at the vertices are among those that the test has there, their work is no more than the uses
module _ (a : System ℕ ℕ) (values : HasValues a) (at : ℕ → List ℕ) (has : ℕ → ℕ → Bool) (distinct : (v : ℕ) → IsDistinct nat_eq (at v)) (bound : (t v : ℕ) → is_in t (at v) ≡ true → t ≤ a.native)
    (held : (t v : ℕ) → is_in t (at v) ≡ true → has t v ≡ true) where
  most : (v : ℕ) (g : ℕ → ℕ) → sum_by g (at v) ≤ over a values at has distinct bound held v g
  most v g = at_most a values at has distinct bound held v g

  abbrev work : Arrow ℕ → ℕ
  work way = length (at way.from)

  abbrev used : Arrow ℕ → ℕ
  used way = count_at a has way.from

  work_le : (ways : List (Arrow ℕ)) → sum_by work ways ≤ sum_by used ways
  work_le ways = sum_le work used ways (λ way c. let e = sum_ones (at way.from) in let f = most way.from (λ t. 1) in omega (arith, e, f))

  -- what stands at a vertex gives no more ways than what the test has there
  each_at : (v : ℕ) (s : CallSite ℕ) (given : Callable ℕ ℕ → List (Arrow ℕ)) (by_value : ℕ → List (Arrow ℕ)) → ((f : Callable ℕ ℕ) → Contains a.functions f → by_value f.value ≡ given f)
      → sum_by (λ t. sum_by work (by_value t)) (at v) ≤ sum_by used (for_each_at a has v given) + cond (has a.native v) (sum_by work (by_value a.native)) 0
  each_at v s given by_value same =
      let m : sum_by (λ t. sum_by work (by_value t)) (at v) ≤ sum_by (λ (f : Callable ℕ ℕ). cond (has f.value v) (sum_by work (by_value f.value)) 0) a.functions + cond (has a.native v) (sum_by work (by_value a.native)) 0
      = most v (λ t. sum_by work (by_value t)) in
      let each = sum_le (λ (f : Callable ℕ ℕ). cond (has f.value v) (sum_by work (by_value f.value)) 0) (λ (f : Callable ℕ ℕ). sum_by used (cond (has f.value v) (given f) [])) a.functions one in
      let flat : sum_by used (for_each_at a has v given) ≡ sum_by (λ (f : Callable ℕ ℕ). sum_by used (cond (has f.value v) (given f) [])) a.functions = sum_flat used (λ (f : Callable ℕ ℕ). cond (has f.value v) (given f) []) a.functions in
      omega (arith, m, each, flat)
    where
      by_test : (b : Bool) (x : ℕ) (ways : List (Arrow ℕ)) → x ≤ sum_by used ways → cond b x 0 ≤ sum_by used (cond b ways [])
      by_test true x ways le = le
      by_test false x ways le = omega arith

      one : (f : Callable ℕ ℕ) → Contains a.functions f → cond (has f.value v) (sum_by work (by_value f.value)) 0 ≤ sum_by used (cond (has f.value v) (given f) [])
      one f c =
          let e : sum_by work (by_value f.value) ≡ sum_by work (given f) = ap (sum_by work) (same f c) in
          let le = work_le (given f) in
          by_test (has f.value v) (sum_by work (by_value f.value)) (given f) (omega (arith, e, le))

  native_le : (s : CallSite ℕ) → sum_by work (called_ways a at s None) ≤ sum_by used (native_reasons a has s)
  native_le s =
      let e : sum_by work (called_ways a at s None) ≡ sum_by work (native_arrows s) + sum_by work (flat_map (input_ways a at s) (inputs s)) = sum_by-append work (native_arrows s) (flat_map (input_ways a at s) (inputs s)) in
      let f : sum_by used (native_reasons a has s) ≡ sum_by used (native_arrows s) + sum_by used (flat_map (λ w. for_each_at a has w (callback_arrows a.elem s)) (inputs s))
      = sum_by-append used (native_arrows s) (flat_map (λ w. for_each_at a has w (callback_arrows a.elem s)) (inputs s)) in
      let first = work_le (native_arrows s) in
      let flat = sum_flat work (input_ways a at s) (inputs s) in
      let flat_use = sum_flat used (λ w. for_each_at a has w (callback_arrows a.elem s)) (inputs s) in
      let each = sum_le (λ w. sum_by work (input_ways a at s w)) (λ w. sum_by used (for_each_at a has w (callback_arrows a.elem s))) (inputs s) (λ w c. input_le w) in
      omega (arith, e, f, first, flat, flat_use, each)
    where
      no_ways : (o : Option (Callable ℕ ℕ)) → o ≡ None → sum_by work (callback_ways a.elem s o) ≡ 0
      no_ways o is = ap (λ p. sum_by work (callback_ways a.elem s p)) is

      input_le : (w : ℕ) → sum_by work (input_ways a at s w) ≤ sum_by used (for_each_at a has w (callback_arrows a.elem s))
      input_le w =
          let flat : sum_by work (input_ways a at s w) ≡ sum_by (λ t. sum_by work (callback_ways a.elem s (slice_get a.functions t))) (at w) = sum_flat work (λ t. callback_ways a.elem s (slice_get a.functions t)) (at w) in
          let each = each_at w s (callback_arrows a.elem s) (λ t. callback_ways a.elem s (slice_get a.functions t)) (λ f c. ap (callback_ways a.elem s) (value_is_place a values f c).0) in
          let none = no_ways (slice_get a.functions a.native) (native_has_none a values) in
          let last : cond (has a.native w) (sum_by work (callback_ways a.elem s (slice_get a.functions a.native))) 0 ≡ 0 = at_zero (has a.native w) _ none in
          omega (arith, flat, each, last)
        where
          at_zero : (b : Bool) (x : ℕ) → x ≡ 0 → cond b x 0 ≡ 0
          at_zero true x is = is
          at_zero false x is = refl

  site_le : (s : CallSite ℕ) → sum_by work (site_ways a at s) ≤ sum_by used (site_reasons a has s)
  site_le s =
      let flat : sum_by work (site_ways a at s) ≡ sum_by (λ t. sum_by work (called_ways a at s (slice_get a.functions t))) (at s.callee) = sum_flat work (λ t. called_ways a at s (slice_get a.functions t)) (at s.callee) in
      let each = each_at s.callee s (call_arrows s) (λ t. called_ways a at s (slice_get a.functions t)) (λ f c. ap (called_ways a at s) (value_is_place a values f c).0) in
      let f : sum_by used (site_reasons a has s) ≡ sum_by used (for_each_at a has s.callee (call_arrows s)) + sum_by used (cond (has a.native s.callee) (native_reasons a has s) [])
      = sum_by-append used (for_each_at a has s.callee (call_arrows s)) (cond (has a.native s.callee) (native_reasons a has s) []) in
      let at_native : sum_by work (called_ways a at s (slice_get a.functions a.native)) ≡ sum_by work (called_ways a at s None) = ap (λ o. sum_by work (called_ways a at s o)) (native_has_none a values) in
      let le = native_le s in
      let last = by_test (has a.native s.callee) (sum_by work (called_ways a at s (slice_get a.functions a.native))) (native_reasons a has s) (omega (arith, at_native, le)) in
      omega (arith, flat, each, f, last)
    where
      by_test : (b : Bool) (x : ℕ) (ways : List (Arrow ℕ)) → x ≤ sum_by used ways → cond b x 0 ≤ sum_by used (cond b ways [])
      by_test true x ways le = le
      by_test false x ways le = omega arith

  pub work_within_uses : sum_by (λ (way : Arrow ℕ). length (at way.from)) (all_ways a at) ≤ uses_of a has
  work_within_uses =
      let e : sum_by work (all_ways a at) ≡ sum_by work a.flows + sum_by work (flat_map (site_ways a at) a.sites) = sum_by-append work a.flows (flat_map (site_ways a at) a.sites) in
      let f : uses_of a has ≡ sum_by used a.flows + sum_by used (flat_map (site_reasons a has) a.sites) = sum_by-append used a.flows (flat_map (site_reasons a has) a.sites) in
      let first = work_le a.flows in
      let flat = sum_flat work (site_ways a at) a.sites in
      let flat_use = sum_flat used (site_reasons a has) a.sites in
      let each = sum_le (λ s. sum_by work (site_ways a at s)) (λ s. sum_by used (site_reasons a has s)) a.sites (λ s c. site_le s) in
      omega (arith, e, f, first, flat, flat_use, each)

sum_map : {X Y : Type 0} (h : X → Y) (g : Y → ℕ) (xs : List X) → sum_by g (map h xs) ≡ sum_by (λ x. g (h x)) xs
sum_map h g [] = refl
sum_map h g (x ∷ xs) =
    let e = sum_by-cons g (h x) (map h xs) in
    let f = sum_by-cons (λ x. g (h x)) x xs in
    let later = sum_map h g xs in
    omega (arith, e, f, later)

-- the uses of a system with other vertices and values
module _ {V W T S : Type 0} (f : V → W) (e : T → S) (a : System V T) (has : S → W → Bool) where
  abbrev under : T → V → Bool
  under t v = has (e t) (f v)

  each_map : {X Y : Type 0} (h : X → Y) (one : Y → List (Arrow W)) (was : X → List (Arrow V)) (xs : List X) → ((x : X) → one (h x) ≡ map (map_arrow f) (was x)) → flat_map one (map h xs) ≡ map (map_arrow f) (flat_map was xs)
  each_map h one was [] same = refl
  each_map h one was (x ∷ xs) same =
      (λ i. same x i ++ each_map h one was xs same i) ∙ sym (map-append (map_arrow f) (was x) (flat_map was xs))

  test_map : (b : Bool) (xs : List (Arrow V)) → cond b (map (map_arrow f) xs) [] ≡ map (map_arrow f) (cond b xs [])
  test_map true xs = refl
  test_map false xs = refl

  for_each_map : (v : V) (one : Callable W S → List (Arrow W)) (was : Callable V T → List (Arrow V)) → ((g : Callable V T) → one (map_callable f e g) ≡ map (map_arrow f) (was g))
      → for_each_at (map_system f e a) has (f v) one ≡ map (map_arrow f) (for_each_at a under v was)
  for_each_map v one was same =
      each_map (map_callable f e) (λ g. cond (has g.value (f v)) (one g) []) (λ g. cond (has (e g.value) (f v)) (was g) []) a.functions
      (λ g. ap (λ xs. cond (has (e g.value) (f v)) xs []) (same g) ∙ test_map (has (e g.value) (f v)) (was g))

  native_map : (s : CallSite V) → native_reasons (map_system f e a) has (map_site f s) ≡ map (map_arrow f) (native_reasons a under s)
  native_map s =
      (λ i. native_arrows (map_site f s) ++ flat_map (λ w. for_each_at (map_system f e a) has w (callback_arrows (f a.elem) (map_site f s))) (inputs-map f s i))
      ∙ ap (λ xs. native_arrows (map_site f s) ++ xs) (each_map f (λ w. for_each_at (map_system f e a) has w (callback_arrows (f a.elem) (map_site f s))) (λ w. for_each_at a under w (callback_arrows a.elem s)) (inputs s)
      (λ w. for_each_map w (callback_arrows (f a.elem) (map_site f s)) (callback_arrows a.elem s) (callbacks-map f e a.elem s)))
      ∙ sym (map-append (map_arrow f) (native_arrows s) (flat_map (λ w. for_each_at a under w (callback_arrows a.elem s)) (inputs s)))

  site_map : (s : CallSite V) → site_reasons (map_system f e a) has (map_site f s) ≡ map (map_arrow f) (site_reasons a under s)
  site_map s =
      (λ i. for_each_map s.callee (call_arrows (map_site f s)) (call_arrows s) (calls-map f e s) i ++ cond (has (e a.native) (f s.callee)) (native_map s i) [])
      ∙ ap (λ xs. map (map_arrow f) (for_each_at a under s.callee (call_arrows s)) ++ xs) (test_map (has (e a.native) (f s.callee)) (native_reasons a under s))
      ∙ sym (map-append (map_arrow f) (for_each_at a under s.callee (call_arrows s)) (cond (has (e a.native) (f s.callee)) (native_reasons a under s) []))

  reasons_map : reasons (map_system f e a) has ≡ map (map_arrow f) (reasons a under)
  reasons_map =
      ap (λ xs. map (map_arrow f) a.flows ++ xs) (each_map (map_site f) (site_reasons (map_system f e a) has) (site_reasons a under) a.sites site_map)
      ∙ sym (map-append (map_arrow f) a.flows (flat_map (site_reasons a under) a.sites))

  count_map : (v : V) → count_at (map_system f e a) has (f v) ≡ count_at a under v
  count_map v = ap (λ n. n + cond (has (e a.native) (f v)) 1 0) (sum_map (map_callable f e) (λ (g : Callable W S). cond (has g.value (f v)) 1 0) a.functions)

  pub uses_map : uses_of (map_system f e a) has ≡ uses_of a under
  uses_map =
      ap (sum_by (λ (way : Arrow W). count_at (map_system f e a) has way.from)) reasons_map
      ∙ sum_map (map_arrow f) (λ (way : Arrow W). count_at (map_system f e a) has way.from) (reasons a under)
      ∙ sum_same (λ (way : Arrow V). count_at (map_system f e a) has (f way.from)) (λ (way : Arrow V). count_at a under way.from) (reasons a under) (λ way. count_map way.from)
