-- The steps of the worklist keep what it keeps, and at its end all values are there.
use Rattle.std.proofs.Common.{◌≡◌, ◌≢◌, ℕ, zero, suc, ◌+◌, ◌-◌, ◌*◌, ◌<◌, ◌≤◌, ◌⊎◌, inl, inr, Bool, true, false, cond, ◌||◌, List, [], ◌∷◌, ◌++◌, length, get_or, set, take, drop, refl, ap, sym, ◌∙◌, subst, arith, get_or-set_same, get_or-set_other, length-append, length-drop, length-set}
use Rattle.std.specs.Prelude.{Contains, IsTrue, nat_eq, slice_set}
use Rattle.std.specs.List.{IsDistinct, slice_range, sum_by}
use Rattle.std.proofs.lemmas.Bool.{cases_eq, cases_lt, eq-eqb, or_cases}
use Rattle.std.proofs.lemmas.Bool.Decides.{eqb_tells}
use Rattle.std.proofs.lemmas.List.{take-append-drop, take-append-le, take_all}
use Rattle.std.proofs.lemmas.List.Elements.{Contains-append_cases, Contains-append_left, Contains-push, Contains-push_cases}
use Rattle.std.proofs.lemmas.List.Sums.{sum_by-cons, sum_by_push}
use Rattle.composer.proofs.CarryLemmas.{is_in_both, kept_by}
use Rattle.composer.proofs.LeastSolution.{least, solution_closed}
use Rattle.std.proofs.Math.Bool.{or-true}
use Rattle.composer.proofs.Members.{none, here, only}
use Rattle.composer.proofs.RowLemmas.{in_from_member, member_from_in, row-set_same, row-set_other}
use Rattle.composer.proofs.WayLemmas.{reason_in, solution_in, values_upto, ways_from_reason}
use Rattle.composer.specs.declared.system.Arrow.{Arrow}
use Rattle.composer.specs.declared.system.System.{System}
use Rattle.composer.specs.Numbered.{Below, HasValues, IsSystemIn}
use Rattle.composer.specs.Rows.{Holds, IsSolution, has, is_in, row}
use Rattle.composer.specs.Solution.{Has, InSolution, Reason}
use Rattle.composer.specs.Ways.{all_ways, stands}
use Rattle.composer.specs.Work.{HasWays, Keeps, Offers, Rests, first_of, from_at}

-- counting what stands in a list tells whether it is there
abbrev is_here : ℕ → ℕ → ℕ
is_here v x = cond (nat_eq x v) 1 0

pub counted : (xs : List ℕ) (v : ℕ) → Contains xs v → 0 < sum_by (is_here v) xs
counted [] v h = absurd (omega (arith, h.1))
counted (x ∷ xs) v (zero, lt, e) = let c : ◌≡◌ {A = ℕ} (is_here v x) 1 = rw (eq-eqb x v e) refl in omega (arith, sum_by-cons (is_here v) x xs, c)
counted (x ∷ xs) v (suc k, lt, e) = omega (arith, sum_by-cons (is_here v) x xs, counted xs v (k, omega (arith, lt), e))

pub of_counted : (xs : List ℕ) (v : ℕ) → 0 < sum_by (is_here v) xs → Contains xs v
of_counted [] v h = absurd (omega (arith, h))
of_counted (x ∷ xs) v h = elim (eqb_tells x v) [
  | inl e ↦ (0, omega arith, e.1)
  | inr e ↦ (let z : ◌≡◌ {A = ℕ} (is_here v x) 0 = rw e.0 refl in let p = of_counted xs v (omega (arith, h, sum_by-cons (is_here v) x xs, z)) in (suc p.0, omega (arith, p.1), p.2))
]

pub counted_from : (ways : List (Arrow ℕ)) (u v : ℕ) → Contains ways (record { from = u; to = v }) → 0 < sum_by (from_at u (is_here v)) ways
counted_from [] u v h = absurd (omega (arith, h.1))
counted_from (x ∷ xs) u v (zero, lt, e) =
    let f : x.from ≡ u = ap (λ (p : Arrow ℕ). p.from) e in
    let g : x.to ≡ v = ap (λ (p : Arrow ℕ). p.to) e in
    let c : ◌≡◌ {A = ℕ} (from_at u (is_here v) x) 1 = rw (eq-eqb x.from u f, eq-eqb x.to v g) refl in
    omega (arith, sum_by-cons (from_at u (is_here v)) x xs, c)
counted_from (x ∷ xs) u v (suc k, lt, e) = omega (arith, sum_by-cons (from_at u (is_here v)) x xs, counted_from xs u v (k, omega (arith, lt), e))

from_head : (x : Arrow ℕ) (xs : List (Arrow ℕ)) (u v : ℕ) → (0 < sum_by (from_at u (is_here v)) xs → Contains xs (record { from = u; to = v })) → 0 < sum_by (from_at u (is_here v)) (x ∷ xs) → Contains (x ∷ xs) (record { from = u; to = v })
from_head x xs u v ih h = elim (eqb_tells x.from u) [
  | inl e ↦ elim (eqb_tells x.to v) [
    | inl f ↦ (0, omega arith, (λ i. record { from = e.1 i; to = f.1 i }))
    | inr f ↦ further (rw (e.0, f.0) refl)
  ]
  | inr e ↦ further (rw e.0 refl)
]
  where
    further : ◌≡◌ {A = ℕ} (from_at u (is_here v) x) 0 → Contains (x ∷ xs) (record { from = u; to = v })
    further z = let p = ih (omega (arith, h, z, sum_by-cons (from_at u (is_here v)) x xs)) in (suc p.0, omega (arith, p.1), p.2)

pub from_counted : (ways : List (Arrow ℕ)) (u v : ℕ) → 0 < sum_by (from_at u (is_here v)) ways → Contains ways (record { from = u; to = v })
from_counted [] u v h = absurd (omega (arith, h))
from_counted (x ∷ xs) u v h = from_head x xs u v (from_counted xs u v) h

-- the first values of a row stay first
pub first_stay : (old new : List (List ℕ)) (v k : ℕ) → k ≤ length (row old v) → (e : (more : List ℕ) × (row new v ≡ row old v ++ more)) → take k (row new v) ≡ take k (row old v)
first_stay old new v k le e = ap (take k) e.1 ∙ take-append-le k (row old v) e.0 le

longer : (old new : List (List ℕ)) (v : ℕ) → (e : (more : List ℕ) × (row new v ≡ row old v ++ more)) → length (row old v) ≤ length (row new v)
longer old new v e =
    let a = ap length e.1 in
    let b = length-append (row old v) e.0 in
    omega (arith, a, b)

-- a value among the first ones or behind them
split_at : (t k : ℕ) (xs : List ℕ) → is_in t xs ≡ true → (is_in t (take k xs) ≡ true) ⊎ (is_in t (drop k xs) ≡ true)
split_at t k xs h = or_cases (is_in t (take k xs)) (is_in t (drop k xs)) (sym (is_in_both t (take k xs) (drop k xs)) ∙ ap (is_in t) (take-append-drop k xs) ∙ h)

pub among_first : (t k : ℕ) (xs : List ℕ) → is_in t (take k xs) ≡ true → is_in t xs ≡ true
among_first t k xs h = ap (is_in t) (sym (take-append-drop k xs)) ∙ is_in_both t (take k xs) (drop k xs) ∙ ap (λ b. b || is_in t (drop k xs)) h

pub among_last : (t k : ℕ) (xs : List ℕ) → is_in t (drop k xs) ≡ true → is_in t xs ≡ true
among_last t k xs h = ap (is_in t) (sym (take-append-drop k xs)) ∙ is_in_both t (take k xs) (drop k xs) ∙ ap (λ b. is_in t (take k xs) || b) h ∙ or-true (is_in t (take k xs))

-- what a way from a vertex leads to
module _ (a : System ℕ ℕ) (n : ℕ) (ways : List (Arrow ℕ)) (rows outs : List (List ℕ)) (carried pending : List ℕ) (k : Keeps a n ways rows outs carried pending) where
  pub way_of : (u v : ℕ) → Contains (row outs u) v → Contains ways (record { from = u; to = v })
  way_of u v c = from_counted ways u v (let e = k.leads u (is_here v) in let p = counted (row outs u) v c in omega (arith, e, p))

  pub comes : (t u v : ℕ) → Holds rows t u → Contains (row outs u) v → InSolution a t v
  comes t u v h c = (solution_closed a).steps t u v (k.found t u h) (k.sound (record { from = u; to = v }) (way_of u v c))

  pub target_below : IsSystemIn (Below n) a → (u v : ℕ) → Contains (row outs u) v → v < n
  target_below inside u v c = (reason_in (Below n) a (InSolution a) (record { from = u; to = v }) inside (k.sound (record { from = u; to = v }) (way_of u v c))).1

-- all values of a vertex were carried over the ways from it
module _ (a : System ℕ ℕ) (n : ℕ) (ways : List (Arrow ℕ)) (rows new outs : List (List ℕ)) (carried rest pending ts : List ℕ) (v to : ℕ) (inside : IsSystemIn (Below n) a)
    (k : Keeps a n ways rows outs carried (rest ++ v ∷ [])) (o : Offers ts (row outs v) rows rest new pending) (all : to ≡ length (row rows v)) (given : ts ≡ slice_range (row rows v) (get_or carried v 0) to) where
  lt : v < length carried
  lt = let b = k.below v (Contains-push rest v) in let l = k.carried_length in omega (arith, b, l)

  now_here : get_or (set carried v to) v 0 ≡ to
  now_here = get_or-set_same carried v to 0 lt

  now_there : (u : ℕ) → u ≢ v → get_or (set carried v to) u 0 ≡ get_or carried u 0
  now_there u ne = get_or-set_other carried v u to 0 ne

  -- the values are those behind the first
  given_is : ts ≡ drop (get_or carried v 0) (row rows v)
  given_is = given ∙ take_all (to - get_or carried v 0) (drop (get_or carried v 0) (row rows v)) (let l = length-drop (get_or carried v 0) (row rows v) in omega (arith, l, all))

  first_here : first_of new (set carried v to) v ≡ row rows v
  first_here =
      ap (λ i. take i (row new v)) (now_here ∙ all)
      ∙ first_stay rows new v (length (row rows v)) (omega arith) (o.extends v)
      ∙ take_all (length (row rows v)) (row rows v) (omega arith)

  -- the values are what comes next at the vertex
  pub next_values : ts ≡ drop (get_or carried v 0) (first_of new (set carried v to) v)
  next_values = given_is ∙ ap (drop (get_or carried v 0)) (sym first_here)

  pub count_values : length ts ≡ to - get_or carried v 0
  count_values =
      let a = ap length given_is in
      let b = length-drop (get_or carried v 0) (row rows v) in
      omega (arith, a, b, all)

  first_there : (u : ℕ) → u ≢ v → first_of new (set carried v to) u ≡ first_of rows carried u
  first_there u ne = ap (λ i. take i (row new u)) (now_there u ne) ∙ first_stay rows new u (get_or carried u 0) (k.within u) (o.extends u)

  pub Keeps-carried : Keeps a n ways new outs (set carried v to) pending
  Keeps-carried = record {
    rows_length = o.same_length ∙ k.rows_length;
    outs_length = k.outs_length;
    carried_length = length-set carried v to ∙ k.carried_length;
    found = λ t w h. elim (o.found t w h) [
      | inl g ↦ k.found t w g
      | inr g ↦ comes a n ways rows outs carried (rest ++ v ∷ []) k t v w (among_last t (get_or carried v 0) (row rows v) (ap (is_in t) (sym given_is) ∙ g.0)) g.1
    ];
    bases = λ t w h. kept_by rows new o.extends t w (k.bases t w h);
    distinct = o.distinct k.distinct;
    within = λ w. elim (cases_eq w v) [
      | inl e ↦ rw (e, now_here, all) (longer rows new v (o.extends v))
      | inr ne ↦ (let b = k.within w in let l = longer rows new w (o.extends w) in let s = now_there w ne in omega (arith, b, l, s))
    ];
    went = λ u w t c h. elim (cases_eq u v) [
      | inl e ↦ here_went w t (subst (λ x. Contains (row outs x) w) e c) (ap (is_in t) (sym (ap (first_of new (set carried v to)) e ∙ first_here)) ∙ h)
      | inr ne ↦ kept_by rows new o.extends t w (k.went u w t c (ap (is_in t) (sym (first_there u ne)) ∙ h))
    ];
    leads = k.leads;
    sound = k.sound;
    queued = λ w less. elim (cases_lt (length (row rows w)) (length (row new w))) [
      | inl grew ↦ o.queued w grew
      | inr past ↦ elim (cases_eq w v) [
        | inl e ↦ absurd (let x = ap (get_or (set carried v to)) e in let y : get_or (set carried v to) w 0 ≡ to = ap (λ u. get_or (set carried v to) u 0) e ∙ now_here in let z = ap (λ u. length (row rows u)) e in omega (arith, less, past, y, all, z))
        | inr ne ↦ elim (Contains-push_cases rest v w (k.queued w (let s = now_there w ne in omega (arith, less, past, s)))) [
          | inl g ↦ o.still_pending w g
          | inr e ↦ absurd (ne (sym e))
        ]
      ]
    ];
    below = λ w c. elim (o.pending_in w c) [
      | inl g ↦ k.below w (Contains-append_left rest (v ∷ []) w g)
      | inr g ↦ target_below a n ways rows outs carried (rest ++ v ∷ []) k inside v w g
    ];
  }
    where
      here_went : (w t : ℕ) → Contains (row outs v) w → is_in t (row rows v) ≡ true → Holds new t w
      here_went w t c h = elim (split_at t (get_or carried v 0) (row rows v) h) [
        | inl g ↦ kept_by rows new o.extends t w (k.went v w t c g)
        | inr g ↦ o.all t w (ap (is_in t) given_is ∙ g) c
      ]

-- a way came, and what was carried before went over it
module _ (a : System ℕ ℕ) (n : ℕ) (ways : List (Arrow ℕ)) (rows new outs : List (List ℕ)) (carried pending later : List ℕ) (way : Arrow ℕ) (inside : IsSystemIn (Below n) a)
    (k : Keeps a n ways rows outs carried pending) (reason : Reason a (InSolution a) way) (o : Offers (first_of rows carried way.from) (way.to ∷ []) rows pending new later) where
  ends : (way.from < n) × (way.to < n)
  ends = reason_in (Below n) a (InSolution a) way inside reason

  within_outs : way.from < length outs
  within_outs = let e = ends.0 in let l = k.outs_length in omega (arith, e, l)

  out_here : row (set outs way.from (row outs way.from ++ way.to ∷ [])) way.from ≡ row outs way.from ++ way.to ∷ []
  out_here = row-set_same outs way.from (row outs way.from ++ way.to ∷ []) within_outs

  out_there : (u : ℕ) → u ≢ way.from → row (set outs way.from (row outs way.from ++ way.to ∷ [])) u ≡ row outs u
  out_there u ne = row-set_other outs way.from u (row outs way.from ++ way.to ∷ []) ne

  first_same : (u : ℕ) → first_of new carried u ≡ first_of rows carried u
  first_same u = first_stay rows new u (get_or carried u 0) (k.within u) (o.extends u)

  pub Keeps-way : Keeps a n (ways ++ way ∷ []) new (set outs way.from (row outs way.from ++ way.to ∷ [])) carried later
  Keeps-way = record {
    rows_length = o.same_length ∙ k.rows_length;
    outs_length = length-set outs way.from (row outs way.from ++ way.to ∷ []) ∙ k.outs_length;
    carried_length = k.carried_length;
    found = λ t w h. elim (o.found t w h) [
      | inl g ↦ k.found t w g
      | inr g ↦ subst (InSolution a t) (only way.to w g.1)
          ((solution_closed a).steps t way.from way.to (k.found t way.from (among_first t (get_or carried way.from 0) (row rows way.from) g.0)) reason)
    ];
    bases = λ t w h. kept_by rows new o.extends t w (k.bases t w h);
    distinct = o.distinct k.distinct;
    within = λ w. let b = k.within w in let l = longer rows new w (o.extends w) in omega (arith, b, l);
    went = λ u w t c h.
        let g : is_in t (first_of rows carried u) ≡ true = ap (is_in t) (sym (first_same u)) ∙ h in
        elim (cases_eq u way.from) [
          | inl e ↦ elim (Contains-push_cases (row outs way.from) way.to w (subst (λ xs. Contains xs w) (ap (row (set outs way.from (row outs way.from ++ way.to ∷ []))) e ∙ out_here) c)) [
            | inl i ↦ kept_by rows new o.extends t w (k.went u w t (subst (λ x. Contains (row outs x) w) (sym e) i) g)
            | inr i ↦ subst (Holds new t) i (o.all t way.to (ap (λ x. is_in t (first_of rows carried x)) (sym e) ∙ g) (here way.to []))
          ]
          | inr ne ↦ kept_by rows new o.extends t w (k.went u w t (subst (λ xs. Contains xs w) (out_there u ne) c) g)
        ];
    leads = λ u w. elim (eqb_tells way.from u) [
      | inl e ↦
          let c : ◌≡◌ {A = ℕ} (from_at u w way) (w way.to) = rw e.0 refl in
          let b : row (set outs way.from (row outs way.from ++ way.to ∷ [])) u ≡ row outs u ++ way.to ∷ [] = subst (λ y. row (set outs way.from (row outs way.from ++ way.to ∷ [])) y ≡ row outs y ++ way.to ∷ []) e.1 out_here in
          let x = ap (sum_by w) b in
          let y = sum_by_push w (row outs u) way.to in
          let z = k.leads u w in
          let p = sum_by_push (from_at u w) ways way in
          omega (arith, x, y, z, p, c)
      | inr e ↦
          let c : ◌≡◌ {A = ℕ} (from_at u w way) 0 = rw e.0 refl in
          let x = ap (sum_by w) (out_there u (λ s. e.1 (sym s))) in
          let z = k.leads u w in
          let p = sum_by_push (from_at u w) ways way in
          omega (arith, x, z, p, c)
    ];
    sound = λ x c. elim (Contains-push_cases ways way x c) [ inl g ↦ k.sound x g | inr e ↦ subst (Reason a (InSolution a)) e reason ];
    queued = λ w less. elim (cases_lt (length (row rows w)) (length (row new w))) [
      | inl grew ↦ o.queued w grew
      | inr past ↦ o.still_pending w (k.queued w (omega (arith, less, past)))
    ];
    below = λ w c. elim (o.pending_in w c) [ inl g ↦ k.below w g | inr g ↦ subst (λ x. x < n) (only way.to w g) ends.1 ];
  }

-- where no vertex is pending, the rows hold the solution
module _ (a : System ℕ ℕ) (n : ℕ) (rows outs : List (List ℕ)) (carried : List ℕ) (natives : List Bool) (inside : IsSystemIn (Below n) a) (values : HasValues a) (r : Rests a n rows outs carried [] natives) where
  pub all_carried : (v : ℕ) → get_or carried v 0 ≡ length (row rows v)
  all_carried v = elim (cases_lt (get_or carried v 0) (length (row rows v))) [
    | inl less ↦ absurd (none v (r.keeps.queued v less))
    | inr past ↦ (let w = r.keeps.within v in omega (arith, past, w))
  ]

  whole : (v : ℕ) → first_of rows carried v ≡ row rows v
  whole v = take_all (get_or carried v 0) (row rows v) (let e = all_carried v in omega (arith, e))

  pub same_at : first_of rows carried ≡ row rows
  same_at = λ i v. whole v i

  bound : (t v : ℕ) → Holds rows t v → t ≤ a.native
  bound t v h = (solution_in (Below n) (λ t. t ≤ a.native) a inside (values_upto a values) (omega arith) t v (r.keeps.found t v h)).0

  pub solution_there : IsSolution a rows
  solution_there = record {
    found = r.keeps.found;
    all = λ t v h. least a (Has (has rows)) (record { bases = r.keeps.bases; steps = steps }) h.0 t v h.1;
  }
    where
      steps : (t u v : ℕ) → Holds rows t u → Reason a (Has (has rows)) (record { from = u; to = v }) → Holds rows t v
      steps t u v h reason =
          let way : Contains (all_ways a (row rows)) (record { from = u; to = v }) = ways_from_reason a values (row rows) bound (record { from = u; to = v }) reason in
          let way_now : Contains (all_ways a (first_of rows carried)) (record { from = u; to = v }) = subst (λ f. Contains (all_ways a f) (record { from = u; to = v })) (sym same_at) way in
          let count = counted_from (all_ways a (first_of rows carried)) u v way_now in
          let same = r.has_ways.same (from_at u (is_here v)) in
          let leads = r.keeps.leads u (is_here v) in
          r.keeps.went u v t (of_counted (row outs u) v (omega (arith, count, same, leads))) (ap (is_in t) (whole u) ∙ h)
