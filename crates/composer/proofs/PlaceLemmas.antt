-- Each function of an application has one number.
use Rattle.std.proofs.Common.{◌≡◌, ℕ, zero, suc, ◌+◌, ◌-◌, ◌<◌, ◌≤◌, ◌⊎◌, inl, inr, cond, List, [], ◌∷◌, ◌++◌, length, map, get_or, refl, ap, sym, ◌∙◌, subst, arith}
use Rattle.std.specs.Prelude.{flat_map, nat_eq, ⊤}
use Rattle.std.specs.List.{enumerate_from}
use Rattle.std.proofs.lemmas.Bool.{eq-eqb, ne_eqb}
use Rattle.std.proofs.lemmas.List.{map-append, length-map, get_or_append_left, get_or-append_right, get_or_past, length-append}
use Rattle.std.proofs.lemmas.List.FromFn.{length-enumerate_from}
use Rattle.std.proofs.lemmas.List.Sums.{sum_by-cons}
use Rattle.js_scopes.specs.declared.function.FunctionInfo.{FunctionInfo}
use Rattle.flow_rules.specs.Constraints.{ModuleConstraints}
use Rattle.composer.specs.declared.application.Link.{Link}
use Rattle.composer.specs.declared.application.ModuleVertex.{ModuleVertex}
use Rattle.composer.specs.declared.application.Value.{Value}
use Rattle.composer.specs.declared.application.Value.TheVariants.{Fun, Native}
use Rattle.composer.specs.declared.system.Callable.{Callable}
use Rattle.composer.specs.Application.{callable_of, system_of}
use Rattle.composer.specs.Numbers.{value_at}
use Rattle.composer.specs.Graphs.{function_count}
use Rattle.composer.specs.Solved.{HasOneNumber}

abbrev pub functions_from : ℕ → List ModuleConstraints → List (Callable ModuleVertex Value)
functions_from n modules = flat_map (λ (m, c). map (callable_of m) (enumerate_from 0 c.functions)) (enumerate_from n modules)

abbrev values_from : ℕ → List ModuleConstraints → List Value
values_from n modules = map (λ (f : Callable ModuleVertex Value). f.value) (functions_from n modules)

abbrev own_values : ℕ → ModuleConstraints → List Value
own_values n c = map (λ (f : Callable ModuleVertex Value). f.value) (map (callable_of n) (enumerate_from 0 c.functions))

-- the number of a value: its place among the functions of its module, behind those of the modules before
number_in : ℕ → List ModuleConstraints → Value → ℕ
number_in n [] v = 0
number_in n (c ∷ cs) Native = length c.functions + number_in (n + 1) cs Native
number_in n (c ∷ cs) (Fun r) = cond (nat_eq r.module n) r.function (length c.functions + number_in (n + 1) cs (Fun r))

values_split : (n : ℕ) (c : ModuleConstraints) (cs : List ModuleConstraints) → values_from n (c ∷ cs) ≡ own_values n c ++ values_from (n + 1) cs
values_split n c cs = map-append (λ (f : Callable ModuleVertex Value). f.value) (map (callable_of n) (enumerate_from 0 c.functions)) (functions_from (n + 1) cs)

own_at : (n : ℕ) (k : ℕ) (fs : List FunctionInfo) (i : ℕ) → i < length fs → get_or (map (λ (f : Callable ModuleVertex Value). f.value) (map (callable_of n) (enumerate_from k fs))) i Native ≡ Fun (record { «module» = n; function = k + i })
own_at n k [] i lt = absurd (omega (arith, lt))
own_at n k (f ∷ fs) zero lt = let e : k ≡ k + 0 = omega arith in ap (λ j. Fun (record { «module» = n; function = j })) e
own_at n k (f ∷ fs) (suc i) lt = let e : k + 1 + i ≡ k + suc i = omega arith in own_at n (k + 1) fs i (omega (arith, lt)) ∙ ap (λ j. Fun (record { «module» = n; function = j })) e

own_count : (n : ℕ) (c : ModuleConstraints) → length (own_values n c) ≡ length c.functions
own_count n c = length-map (map (callable_of n) (enumerate_from 0 c.functions)) _ ∙ length-map (enumerate_from 0 c.functions) _ ∙ length-enumerate_from 0 c.functions

-- a value from the module n on
abbrev IsFrom : ℕ → Value → Type 0
IsFrom n Native = ⊤
IsFrom n (Fun r) = n ≤ r.module

from_less : (n : ℕ) (v : Value) → IsFrom (n + 1) v → IsFrom n v
from_less n Native h = tt
from_less n (Fun r) h = omega (arith, h)

inside : (k m : ℕ) → (k < m) ⊎ (m ≤ k)
inside k m = grind arith

value_from : (n : ℕ) (cs : List ModuleConstraints) (k : ℕ) → IsFrom n (get_or (values_from n cs) k Native)
value_from n [] k = tt
value_from n (c ∷ cs) k = elim (inside k (length c.functions)) [
  | inl lt ↦ subst (IsFrom n) (sym (ap (λ vs. get_or vs k Native) (values_split n c cs) ∙ get_or_append_left (own_values n c) (values_from (n + 1) cs) Native k (omega (arith, lt, own_count n c)) ∙ own_at n 0 c.functions k lt)) (let le : n ≤ n = omega arith in le)
  | inr ge ↦ subst (IsFrom n) (sym (ap (λ vs. get_or vs k Native) (values_split n c cs) ∙ get_or-append_right (own_values n c) (values_from (n + 1) cs) (length c.functions) k Native (own_count n c) ge))
      (from_less n (get_or (values_from (n + 1) cs) (k - length c.functions) Native) (value_from (n + 1) cs (k - length c.functions)))
]

later : (n : ℕ) (c : ModuleConstraints) (cs : List ModuleConstraints) (v : Value) → IsFrom (n + 1) v → number_in n (c ∷ cs) v ≡ length c.functions + number_in (n + 1) cs v
unfolding number_in
later n c cs Native h = refl
later n c cs (Fun r) h = rw (ne_eqb r.module n (λ e. omega (arith, h, e))) refl

number_back : (n : ℕ) (cs : List ModuleConstraints) (k : ℕ) → k ≤ length (functions_from n cs) → number_in n cs (get_or (values_from n cs) k Native) ≡ k
unfolding number_in
number_back n [] k le = let l : k ≤ 0 = le in let z : 0 ≡ k = omega (arith, l) in z
number_back n (c ∷ cs) k le = elim (inside k (length c.functions)) [
  | inl lt ↦ (let at : get_or (values_from n (c ∷ cs)) k Native ≡ Fun (record { «module» = n; function = 0 + k }) = ap (λ vs. get_or vs k Native) (values_split n c cs) ∙ get_or_append_left (own_values n c) (values_from (n + 1) cs) Native k (omega (arith, lt, own_count n c)) ∙ own_at n 0 c.functions k lt in
      let z : 0 + k ≡ k = omega arith in
      ap (number_in n (c ∷ cs)) at ∙ (rw (eq-eqb n n refl) z))
  | inr ge ↦ (let at : get_or (values_from n (c ∷ cs)) k Native ≡ get_or (values_from (n + 1) cs) (k - length c.functions) Native = ap (λ vs. get_or vs k Native) (values_split n c cs) ∙ get_or-append_right (own_values n c) (values_from (n + 1) cs) (length c.functions) k Native (own_count n c) ge in
      let total : length (functions_from n (c ∷ cs)) ≡ length c.functions + length (functions_from (n + 1) cs) = count_split in
      let back = number_back (n + 1) cs (k - length c.functions) (omega (arith, le, total, ge)) in
      ap (number_in n (c ∷ cs)) at ∙ later n c cs (get_or (values_from (n + 1) cs) (k - length c.functions) Native) (value_from (n + 1) cs (k - length c.functions)) ∙ ap (λ j. length c.functions + j) back ∙ (let s : length c.functions + (k - length c.functions) ≡ k = omega (arith, ge) in s))
]
  where
    count_split : length (functions_from n (c ∷ cs)) ≡ length c.functions + length (functions_from (n + 1) cs)
    count_split = length-append (map (callable_of n) (enumerate_from 0 c.functions)) (functions_from (n + 1) cs) ∙ ap (λ j. j + length (functions_from (n + 1) cs)) (length-map (enumerate_from 0 c.functions) _ ∙ length-enumerate_from 0 c.functions)

pub has_one_number : (modules : List ModuleConstraints) (links : List Link) → HasOneNumber (system_of modules links)
has_one_number modules links i j li lj e = sym (number_back 0 modules i li) ∙ ap (number_in 0 modules) e ∙ number_back 0 modules j lj

pub native_number : (modules : List ModuleConstraints) (links : List Link) → Native ≡ value_at (system_of modules links) (length (system_of modules links).functions)
native_number modules links = sym (get_or_past (values_from 0 modules) (length (functions_from 0 modules)) Native (omega (arith, length-map (functions_from 0 modules) (λ (f : Callable ModuleVertex Value). f.value))))

-- so many functions has the system of the modules from number n on
pub count_from : (n : ℕ) (modules : List ModuleConstraints) → length (functions_from n modules) ≡ function_count modules
count_from n [] = refl
count_from n (c ∷ cs) =
    length-append (map (callable_of n) (enumerate_from 0 c.functions)) (functions_from (n + 1) cs)
    ∙ (λ i. (length-map (enumerate_from 0 c.functions) (callable_of n) ∙ length-enumerate_from 0 c.functions) i + count_from (n + 1) cs i)
    ∙ sym (sum_by-cons (λ (d : ModuleConstraints). length d.functions) c cs)
