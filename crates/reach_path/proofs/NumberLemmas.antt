-- Numbers of functions, and the functions of numbers.
use Rattle.std.proofs.Common.{◌≡◌, ℕ, zero, suc, ◌+◌, ◌-◌, ◌<◌, ◌≤◌, inl, inr, Bool, true, false, cond, List, [], ◌∷◌, length, get_or, slice_index, nat_le, nat_lt, sum, refl, sym, ◌∙◌, ap, arith, le-leb, lt-ltb, ltb-true, leb-true}
use Rattle.std.specs.List.{count_by}
use Rattle.std.specs.List.Sorted.{IsNonDecreasing, IsPartitionPoint}
use Rattle.std.proofs.lemmas.Bool.{and_from, and_parts, cases_lt, false_from_ne_true}
use Rattle.std.proofs.lemmas.List.{get_or_default, get_or_past}
use Rattle.std.proofs.lemmas.List.Sums.{sum_by-cons}
use Rattle.jam_base.specs.declared.edge.FunctionRef.{FunctionRef}
use Rattle.reach_path.specs.Levels.{IsFunction}
use Rattle.reach_path.specs.Numbers.{AreStarts, function_at, is_numbered, module_at, number_of, starts_from}

abbrev one_if : Bool → ℕ
one_if b = cond b 1 0

-- where just the first items pass, they are counted
pub count_at : {X : Type 0} (p : X → Bool) (xs : List X) (i : ℕ) → i ≤ length xs → ((k : ℕ) (d : X) → k < i → p (get_or xs k d) ≡ true) → ((k : ℕ) (d : X) → i ≤ k → k < length xs → p (get_or xs k d) ≡ false) → count_by p xs ≡ i
count_at p [] i le passes fails = omega (arith, le)
count_at p (x ∷ xs) zero le passes fails =
    let first = ap one_if (fails zero x (omega arith) (omega arith)) in
    let rest = count_at p xs zero (omega arith) (λ k d h. absurd (omega (arith, h))) (λ k d l h. fails (suc k) d (omega arith) (omega (arith, h))) in
    omega (arith, sum_by-cons (λ y. cond (p y) 1 0) x xs, first, rest)
count_at p (x ∷ xs) (suc i) le passes fails =
    let first = ap one_if (passes zero x (omega arith)) in
    let rest = count_at p xs i (omega (arith, le)) (λ k d h. passes (suc k) d (omega (arith, h))) (λ k d l h. fails (suc k) d (omega (arith, l)) (omega (arith, h))) in
    omega (arith, sum_by-cons (λ y. cond (p y) 1 0) x xs, first, rest)

pub count_point : {X : Type 0} (p : X → Bool) (xs : List X) (i : ℕ) → i ≤ length xs → IsPartitionPoint (λ y. p y ≡ true) (λ y. p y ≡ false) xs i → count_by p xs ≡ i
count_point p xs i le h = count_at p xs i le (λ k d l. h.0 k d (omega arith) l) (λ k d l m. h.1 k d l m)

pub length-starts_from : (n : ℕ) (counts : List ℕ) → length (starts_from n counts) ≡ length counts + 1
length-starts_from n [] = omega arith
length-starts_from n (count ∷ counts) = omega (arith, length-starts_from (n + count) counts)

first_start : (n : ℕ) (counts : List ℕ) (d : ℕ) → get_or (starts_from n counts) 0 d ≡ n
first_start n [] d = refl
first_start n (count ∷ counts) d = refl

next_start : (n : ℕ) (counts : List ℕ) (m : ℕ) → m < length counts → slice_index (starts_from n counts) (suc m) ≡ slice_index (starts_from n counts) m + slice_index counts m
next_start n [] m lt = absurd (omega (arith, lt))
next_start n (count ∷ counts) zero lt = first_start (n + count) counts 0
next_start n (count ∷ counts) (suc m) lt = next_start (n + count) counts m (omega (arith, lt))

pub last_start : (n : ℕ) (counts : List ℕ) → slice_index (starts_from n counts) (length counts) ≡ n + sum counts
last_start n [] = omega arith
last_start n (count ∷ counts) = omega (arith, last_start (n + count) counts, sum_by-cons (λ x. x) count counts)

above : (n : ℕ) (counts : List ℕ) (j d : ℕ) → j < length (starts_from n counts) → n ≤ get_or (starts_from n counts) j d
above n [] zero d lt = omega arith
above n [] (suc j) d lt = absurd (omega (arith, lt))
above n (count ∷ counts) zero d lt = omega arith
above n (count ∷ counts) (suc j) d lt = omega (arith, above (n + count) counts j d (omega (arith, lt)))

pub starts_rise : (n : ℕ) (counts : List ℕ) → IsNonDecreasing (starts_from n counts)
starts_rise n counts zero j d le lt = omega (arith, first_start n counts d, above n counts j d lt)
starts_rise n counts (suc i) zero d le lt = absurd (omega (arith, le))
starts_rise n [] (suc i) (suc j) d le lt = absurd (omega (arith, lt))
starts_rise n (count ∷ counts) (suc i) (suc j) d le lt = starts_rise (n + count) counts i j d (omega (arith, le)) (omega (arith, lt))

-- no module begins behind the end
pub starts_within : (counts : List ℕ) (m : ℕ) → slice_index (starts_from 0 counts) m ≤ sum counts
starts_within counts m = elim (cases_lt m (length (starts_from 0 counts))) [
  | inl lt ↦ omega (arith, starts_rise 0 counts m (length counts) 0 (omega (arith, lt, length-starts_from 0 counts)) (omega (arith, length-starts_from 0 counts)), last_start 0 counts)
  | inr le ↦ omega (arith, get_or_past (starts_from 0 counts) m 0 le)
]

pub AreStarts-from : (counts : List ℕ) → length counts ≤ 4294967294 → AreStarts (starts_from 0 counts)
AreStarts-from counts few = record {
  some = omega (arith, length-starts_from 0 counts);
  few = omega (arith, length-starts_from 0 counts, few);
  begin = first_start 0 counts 0;
  rising = starts_rise 0 counts;
}

-- the functions of a module end where those of the next one begin
pub number_below : (counts : List ℕ) (f : FunctionRef) → IsFunction counts f → number_of (starts_from 0 counts) f < slice_index (starts_from 0 counts) (suc f.module)
number_below counts f h = omega (arith, next_start 0 counts f.module h.in_modules, h.in_module)

pub number_fits : (counts : List ℕ) (f : FunctionRef) → IsFunction counts f → number_of (starts_from 0 counts) f < sum counts
number_fits counts f h = omega (arith, number_below counts f h, starts_within counts (suc f.module))

pub module_there : (counts : List ℕ) (f : FunctionRef) → IsFunction counts f → f.module < length (starts_from 0 counts)
module_there counts f h = omega (arith, length-starts_from 0 counts, h.in_modules)

-- a function is numbered where it is one of the modules
pub numbered : (counts : List ℕ) (f : FunctionRef) → IsFunction counts f → is_numbered (starts_from 0 counts) f ≡ true
numbered counts f h =
    let starts = starts_from 0 counts in
    let below : number_of starts f < slice_index starts (f.module + 1) = omega (arith, number_below counts f h, ap (slice_index starts) (one_more f.module)) in
    and_from _ _ (lt-ltb (f.module + 1) (length starts) (omega (arith, length-starts_from 0 counts, h.in_modules))) (lt-ltb (number_of starts f) (slice_index starts (f.module + 1)) below)
  where
    one_more : (m : ℕ) → suc m ≡ m + 1
    one_more m = omega arith

pub function_there : (counts : List ℕ) (f : FunctionRef) → is_numbered (starts_from 0 counts) f ≡ true → IsFunction counts f
function_there counts f e =
    let starts = starts_from 0 counts in
    let both = and_parts (nat_lt (f.module + 1) (length starts)) (nat_lt (number_of starts f) (slice_index starts (f.module + 1))) e in
    let inside : f.module < length counts = omega (arith, ltb-true (f.module + 1) (length starts) both.0, length-starts_from 0 counts) in
    let below = ltb-true (number_of starts f) (slice_index starts (f.module + 1)) both.1 in
    record { in_modules = inside; in_module = omega (arith, below, next_start 0 counts f.module inside, ap (slice_index starts) (one_more f.module)) }
  where
    one_more : (m : ℕ) → suc m ≡ m + 1
    one_more m = omega arith

-- the module of a function's number is its own
pub module_at-number : (counts : List ℕ) (f : FunctionRef) → IsFunction counts f → module_at (starts_from 0 counts) (number_of (starts_from 0 counts) f) ≡ f.module
module_at-number counts f h =
    let starts = starts_from 0 counts in
    let n = number_of starts f in
    let size = length-starts_from 0 counts in
    let before : (k : ℕ) (d : ℕ) → k < f.module + 1 → nat_le (get_or starts k d) n ≡ true = λ k d lt.
    le-leb (get_or starts k d) n (omega (arith, starts_rise 0 counts k f.module d (omega (arith, lt)) (omega (arith, size, h.in_modules)), get_or_default starts f.module d 0 (omega (arith, size, h.in_modules)))) in
    let behind : (k : ℕ) (d : ℕ) → f.module + 1 ≤ k → k < length starts → nat_le (get_or starts k d) n ≡ false = λ k d le lt.
    above_number (get_or starts k d) n (omega (arith, starts_rise 0 counts (suc f.module) k d (omega (arith, le)) lt, get_or_default starts (suc f.module) d 0 (omega (arith, size, h.in_modules)), number_below counts f h)) in
    omega (arith, count_at (λ s. nat_le s n) starts (f.module + 1) (omega (arith, size, h.in_modules)) before behind)
  where
    above_number : (s n : ℕ) → n < s → nat_le s n ≡ false
    above_number s n lt = false_from_ne_true (nat_le s n) (λ e. absurd (omega (arith, lt, leb-true s n e)))

-- the function of a function's number is that function
pub function_at-number : (counts : List ℕ) (f : FunctionRef) → IsFunction counts f → function_at (starts_from 0 counts) (number_of (starts_from 0 counts) f) ≡ f
function_at-number counts f h =
    let starts = starts_from 0 counts in
    let same = module_at-number counts f h in
    let rest : number_of starts f - slice_index starts (module_at starts (number_of starts f)) ≡ f.function = omega (arith, ap (slice_index starts) same) in
    λ i. record { «module» = same i; function = rest i }

-- functions with one number are one
pub one_number : (counts : List ℕ) (f h : FunctionRef) → IsFunction counts f → IsFunction counts h → number_of (starts_from 0 counts) f ≡ number_of (starts_from 0 counts) h → f ≡ h
one_number counts f h is_f is_h e = sym (function_at-number counts f is_f) ∙ ap (function_at (starts_from 0 counts)) e ∙ function_at-number counts h is_h
