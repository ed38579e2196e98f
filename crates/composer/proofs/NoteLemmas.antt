-- The values of a vertex are noted one after another.
use Rattle.std.proofs.Common.{◌≡◌, ◌≢◌, ℕ, zero, suc, ◌+◌, ◌-◌, ◌*◌, ◌<◌, ◌≤◌, ◌⊎◌, inl, inr, Bool, true, false, cond, ◌||◌, ◌&&◌, List, [], ◌∷◌, ◌++◌, length, get_or, set, take, drop, refl, ap, sym, ◌∙◌, subst, arith, append_assoc, get_or-set_same, get_or-set_other}
use Rattle.std.specs.Prelude.{Contains, IsTrue, nat_eq}
use Rattle.std.specs.List.{AllByRecursion, IsDistinct, sum_by}
use Rattle.std.proofs.lemmas.Bool.{cases_eq, eq-eqb, ne_eqb}
use Rattle.std.proofs.lemmas.List.{take_more}
use Rattle.std.proofs.lemmas.List.Sums.{sum_by-append}
use Rattle.composer.proofs.CarryLemmas.{is_in_both, is_in_one, or_none}
use Rattle.composer.proofs.KeepLemmas.{among_first, counted_from, first_stay, from_counted}
use Rattle.composer.proofs.LeastSolution.{Reason-more}
use Rattle.composer.proofs.NewWays.{ways_added}
use Rattle.composer.proofs.WayLemmas.{reason_from_ways, solution_in, values_upto}
use Rattle.composer.specs.declared.system.Arrow.{Arrow}
use Rattle.composer.specs.declared.system.System.{System}
use Rattle.composer.specs.Numbered.{Below, HasValues, IsSystemIn}
use Rattle.composer.specs.Rows.{Holds, is_in, row}
use Rattle.composer.specs.Solution.{InSolution, Reason}
use Rattle.composer.specs.Ways.{Stands, all_ways, stands}
use Rattle.composer.specs.Work.{HasWays, Keeps, Notes, Rests, callee_places, callee_ways, first_of, flag, from_at, input_places, input_ways_of, noted_of, targets_from}

-- the first of some different numbers
all_first : (x k : ℕ) (xs : List ℕ) → AllByRecursion (λ y. nat_eq x y ≡ false) xs → AllByRecursion (λ y. nat_eq x y ≡ false) (take k xs)
all_first x zero xs all = tt
all_first x (suc k) [] all = tt
all_first x (suc k) (y ∷ ys) all = (all.0, all_first x k ys all.1)

distinct_take : (k : ℕ) (xs : List ℕ) → IsDistinct nat_eq xs → IsDistinct nat_eq (take k xs)
unfolding IsDistinct
distinct_take zero xs d = tt
distinct_take (suc k) [] d = tt
distinct_take (suc k) (x ∷ xs) d = (all_first x k xs d.0, distinct_take k xs d.1)

-- how many values are noted at a vertex
noted_here : (rows : List (List ℕ)) (carried : List ℕ) (u i : ℕ) → noted_of rows carried u i u ≡ take i (row rows u)
noted_here rows carried u i = ap (λ b. take (cond b i (get_or carried u 0)) (row rows u)) (eq-eqb u u refl)

noted_there : (rows : List (List ℕ)) (carried : List ℕ) (u i v : ℕ) → v ≢ u → noted_of rows carried u i v ≡ first_of rows carried v
noted_there rows carried u i v ne = ap (λ b. take (cond b i (get_or carried v 0)) (row rows v)) (ne_eqb v u ne)

-- the ways stay those of the values that stand so, where these stay
same_ways : (a : System ℕ ℕ) (at next : ℕ → List ℕ) (ways : List (Arrow ℕ)) (natives : List Bool) → ((v : ℕ) → next v ≡ at v) → HasWays a at ways natives → HasWays a next ways natives
same_ways a at next ways natives same h = let e : at ≡ next = λ i v. sym (same v) i in subst (λ f. HasWays a f ways natives) e h

module _ (a : System ℕ ℕ) (n : ℕ) (rows new outs : List (List ℕ)) (carried pending : List ℕ) (natives : List Bool) (u to : ℕ) where
  -- before the first, where all values of u are carried now
  pub Notes-start : (ways : List (Arrow ℕ)) → HasWays a (first_of rows carried) ways natives → length natives ≡ n → Keeps a n ways new outs (set carried u to) pending → u < length carried → get_or carried u 0 ≤ to
      → ((v : ℕ) → get_or carried v 0 ≤ length (row rows v)) → ((v : ℕ) → (more : List ℕ) × (row new v ≡ row rows v ++ more)) → Notes a n new outs (set carried u to) pending natives u (get_or carried u 0)
  Notes-start ways has count k lt le within extends = record {
    ways = ways;
    keeps = k;
    has_ways = same_ways a (first_of rows carried) (noted_of new (set carried u to) u (get_or carried u 0)) ways natives same has;
    natives_length = count;
    upto = subst (λ m. get_or carried u 0 ≤ m) (sym (get_or-set_same carried u to 0 lt)) le;
  }
    where
      same : (v : ℕ) → noted_of new (set carried u to) u (get_or carried u 0) v ≡ first_of rows carried v
      same v = elim (cases_eq v u) [
        | inl e ↦ subst (λ x. noted_of new (set carried u to) u (get_or carried u 0) x ≡ first_of rows carried x) (sym e)
            (noted_here new (set carried u to) u (get_or carried u 0) ∙ first_stay rows new u (get_or carried u 0) (within u) (extends u))
        | inr ne ↦
            noted_there new (set carried u to) u (get_or carried u 0) v ne
            ∙ ap (λ k. take k (row new v)) (get_or-set_other carried u v to 0 ne)
            ∙ first_stay rows new v (get_or carried v 0) (within v) (extends v)
      ]

-- behind the last
pub Notes-end : (a : System ℕ ℕ) (n : ℕ) (rows outs : List (List ℕ)) (carried pending : List ℕ) (natives : List Bool) (u i : ℕ) → get_or carried u 0 ≤ i → Notes a n rows outs carried pending natives u i → Rests a n rows outs carried pending natives
Notes-end a n rows outs carried pending natives u i le notes = record {
  ways = notes.ways;
  keeps = notes.keeps;
  has_ways = same_ways a (noted_of rows carried u i) (first_of rows carried) notes.ways natives same notes.has_ways;
  natives_length = notes.natives_length;
}
  where
    all : i ≡ get_or carried u 0
    all = let up = notes.upto in omega (arith, le, up)

    same : (v : ℕ) → first_of rows carried v ≡ noted_of rows carried u i v
    same v = elim (cases_eq v u) [
      | inl e ↦ subst (λ x. first_of rows carried x ≡ noted_of rows carried u i x) (sym e) (ap (λ k. take k (row rows u)) (sym all) ∙ sym (noted_here rows carried u i))
      | inr ne ↦ sym (noted_there rows carried u i v ne)
    ]

-- one value more
module _ (a : System ℕ ℕ) (n : ℕ) (rows outs : List (List ℕ)) (carried pending : List ℕ) (natives told : List Bool) (u i t : ℕ) (inside : IsSystemIn (Below n) a) (values : HasValues a)
    (notes : Notes a n rows outs carried pending natives u i) (less : i < get_or carried u 0) (is : get_or (row rows u) i 0 ≡ t) (callers takers : List ℕ)
    (callers_are : callers ≡ targets_from u (callee_places 0 a.sites)) (takers_are : takers ≡ targets_from u (input_places 0 a.sites)) where
  at : ℕ → List ℕ
  at = noted_of rows carried u i

  next : ℕ → List ℕ
  next = noted_of rows carried u (i + 1)

  abbrev found : List (Arrow ℕ)
  found = callee_ways a (noted_of rows carried u i) callers t ++ input_ways_of a natives takers t

  below : i < length (row rows u)
  below = let w = notes.keeps.within u in omega (arith, less, w)

  here : noted_of rows carried u (i + 1) u ≡ noted_of rows carried u i u ++ t ∷ []
  here =
      noted_here rows carried u (i + 1)
      ∙ take_more (row rows u) i 0 below
      ∙ (λ j. sym (noted_here rows carried u i) j ++ is j ∷ [])

  others : (w : ℕ) → w ≢ u → noted_of rows carried u (i + 1) w ≡ noted_of rows carried u i w
  others w ne = noted_there rows carried u (i + 1) w ne ∙ sym (noted_there rows carried u i w ne)

  -- what is noted stands there
  stands_there : (k x v : ℕ) → is_in x (noted_of rows carried u k v) ≡ true → Holds rows x v
  stands_there k x v h = among_first x (cond (nat_eq v u) k (get_or carried v 0)) (row rows v) h

  bound : (k x v : ℕ) → is_in x (noted_of rows carried u k v) ≡ true → x ≤ a.native
  bound k x v h = (solution_in (Below n) (λ y. y ≤ a.native) a inside (values_upto a values) (omega arith) x v (notes.keeps.found x v (stands_there k x v h))).0

  pub added : (W : Arrow ℕ → ℕ) → sum_by W (all_ways a (noted_of rows carried u (i + 1))) ≡ sum_by W (all_ways a (noted_of rows carried u i)) + sum_by W (callee_ways a (noted_of rows carried u i) callers t ++ input_ways_of a natives takers t)
  added W =
      ways_added a values (noted_of rows carried u i) (noted_of rows carried u (i + 1)) t u here others
      (λ v. distinct_take (cond (nat_eq v u) i (get_or carried v 0)) (row rows v) (notes.keeps.distinct v)) (bound i) W callers takers natives callers_are takers_are notes.has_ways.told

  -- there is a reason for each way that is found
  pub found_sound : (way : Arrow ℕ) → Contains (callee_ways a (noted_of rows carried u i) callers t ++ input_ways_of a natives takers t) way → Reason a (InSolution a) way
  found_sound way c =
      let w = from_at way.from (λ x. cond (nat_eq x way.to) 1 0) in
      let more = counted_from (callee_ways a (noted_of rows carried u i) callers t ++ input_ways_of a natives takers t) way.from way.to c in
      let sum = added w in
      let there = from_counted (all_ways a (noted_of rows carried u (i + 1))) way.from way.to (omega (arith, more, sum)) in
      Reason-more a (λ x v. Stands (noted_of rows carried u (i + 1)) x v) (InSolution a) (λ x v h. notes.keeps.found x v (stands_there (i + 1) x v h)) way
      (reason_from_ways a values (noted_of rows carried u (i + 1)) (bound (i + 1)) way there)

  -- and all of them came
  pub Notes-more : (now out : List (List ℕ)) (later : List ℕ) → Keeps a n (notes.ways ++ (callee_ways a (noted_of rows carried u i) callers t ++ input_ways_of a natives takers t)) now out carried later
      → ((v : ℕ) → (more : List ℕ) × (row now v ≡ row rows v ++ more)) → length told ≡ length natives → ((v : ℕ) → flag told v ≡ (flag natives v || (nat_eq v u && nat_eq t a.native))) → Notes a n now out carried later told u (i + 1)
  Notes-more now out later k extends count flags = record {
    ways = notes.ways ++ (callee_ways a (noted_of rows carried u i) callers t ++ input_ways_of a natives takers t);
    keeps = k;
    has_ways = same_ways a (noted_of rows carried u (i + 1)) (noted_of now carried u (i + 1)) _ told stay (record {
      same = λ W.
          let e = sum_by-append W notes.ways (callee_ways a (noted_of rows carried u i) callers t ++ input_ways_of a natives takers t) in
          let f = notes.has_ways.same W in
          let g = added W in
          omega (arith, e, f, g);
      told = told_now;
    });
    natives_length = count ∙ notes.natives_length;
    upto = omega (arith, less);
  }
    where
      few : (v : ℕ) → (v ≡ u) ⊎ (v ≢ u) → cond (nat_eq v u) (i + 1) (get_or carried v 0) ≤ length (row rows v)
      few v (inl e) = rw (eq-eqb v u e) (let b = below in let p = ap (λ x. length (row rows x)) e in omega (arith, b, p))
      few v (inr ne) = rw (ne_eqb v u ne) (notes.keeps.within v)

      stay : (v : ℕ) → noted_of now carried u (i + 1) v ≡ noted_of rows carried u (i + 1) v
      stay v = first_stay rows now v (cond (nat_eq v u) (i + 1) (get_or carried v 0)) (few v (cases_eq v u)) (extends v)

      told_now : (v : ℕ) → flag told v ≡ is_in a.native (noted_of rows carried u (i + 1) v)
      told_now v = flags v ∙ ap (λ b. b || (nat_eq v u && nat_eq t a.native)) (notes.has_ways.told v) ∙ came v (cases_eq v u)
        where
          came : (v : ℕ) → (v ≡ u) ⊎ (v ≢ u) → (is_in a.native (noted_of rows carried u i v) || (nat_eq v u && nat_eq t a.native)) ≡ is_in a.native (noted_of rows carried u (i + 1) v)
          came v (inl e) = subst (λ x. (is_in a.native (noted_of rows carried u i x) || (nat_eq x u && nat_eq t a.native)) ≡ is_in a.native (noted_of rows carried u (i + 1) x)) (sym e)
              (ap (λ b. is_in a.native (noted_of rows carried u i u) || (b && nat_eq t a.native)) (eq-eqb u u refl)
              ∙ ap (λ b. is_in a.native (noted_of rows carried u i u) || b) (sym (is_in_one a.native t))
              ∙ sym (is_in_both a.native (noted_of rows carried u i u) (t ∷ []))
              ∙ ap (is_in a.native) (sym here))
          came v (inr ne) =
              ap (λ b. is_in a.native (noted_of rows carried u i v) || (b && nat_eq t a.native)) (ne_eqb v u ne)
              ∙ or_none (is_in a.native (noted_of rows carried u i v))
              ∙ ap (is_in a.native) (sym (others v ne))
