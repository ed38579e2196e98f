-- What the worklist spends.
use Rattle.std.proofs.Common.{◌≡◌, ◌≢◌, ℕ, zero, suc, ◌+◌, ◌-◌, ◌*◌, ◌<◌, ◌≤◌, inl, inr, cond, List, [], ◌∷◌, ◌++◌, length, get_or, set, refl, ap, sym, ◌∙◌, subst, arith, get_or-set_same, get_or-set_other, length-append}
use Rattle.std.specs.Prelude.{All, Contains, nat_eq}
use Rattle.std.specs.List.{sum_by}
use Rattle.std.proofs.lemmas.Bool.{cases_eq, eq-eqb, ne_eqb}
use Rattle.std.proofs.lemmas.List.Sums.{sum_by-cons}
use Rattle.composer.proofs.Members.{here, there}
use Rattle.composer.proofs.RowLemmas.{row-set_same, row-set_other}
use Rattle.composer.proofs.UseLemmas.{sum_ones, total_more, total_zero}
use Rattle.composer.specs.declared.system.Arrow.{Arrow}
use Rattle.composer.specs.Rows.{row}
use Rattle.composer.specs.Work.{from_at, spent, total}

times_plus : (c m l : ℕ) → (c + m) * l ≡ c * l + m * l
times_plus c m l = grind arith

times_one : (c l m : ℕ) → m ≡ l + 1 → c * m ≡ c * l + c
times_one c l m is = rw is (grind arith)

-- all values of a vertex are carried now
pub spent_carried : (n : ℕ) (carried : List ℕ) (outs : List (List ℕ)) (v to : ℕ) → v < n → v < length carried → get_or carried v 0 ≤ to
    → spent n (set carried v to) outs ≡ spent n carried outs + (to - get_or carried v 0) * length (row outs v)
spent_carried n carried outs v to lt inside le =
    total_more 0 n v ((to - get_or carried v 0) * length (row outs v)) (λ u. get_or carried u 0 * length (row outs u)) (λ u. get_or (set carried v to) u 0 * length (row outs u)) (omega arith) (omega (arith, lt))
    (λ u ne. ap (λ m. m * length (row outs u)) (get_or-set_other carried v u to 0 ne))
    (ap (λ m. m * length (row outs v)) (get_or-set_same carried v to 0 inside ∙ split) ∙ times_plus (get_or carried v 0) (to - get_or carried v 0) (length (row outs v)))
  where
    split : to ≡ get_or carried v 0 + (to - get_or carried v 0)
    split = omega (arith, le)

-- a way came from a vertex
pub spent_way : (n : ℕ) (carried : List ℕ) (outs : List (List ℕ)) (u y : ℕ) → u < n → u < length outs → spent n carried (set outs u (row outs u ++ y ∷ [])) ≡ spent n carried outs + get_or carried u 0
spent_way n carried outs u y lt inside =
    total_more 0 n u (get_or carried u 0) (λ v. get_or carried v 0 * length (row outs v)) (λ v. get_or carried v 0 * length (row (set outs u (row outs u ++ y ∷ [])) v)) (omega arith) (omega (arith, lt))
    (λ v ne. ap (λ xs. get_or carried v 0 * length xs) (row-set_other outs u v (row outs u ++ y ∷ []) ne))
    (times_one (get_or carried u 0) (length (row outs u)) _ (ap length (row-set_same outs u (row outs u ++ y ∷ []) inside) ∙ length-append (row outs u) (y ∷ [])))

-- in the end each value was carried over each way from its vertex
over_ways : (n : ℕ) (long : ℕ → ℕ) (ways : List (Arrow ℕ)) → ((way : Arrow ℕ) → Contains ways way → way.from < n) → total 0 n (λ v. long v * sum_by (from_at v (λ x. 1)) ways) ≡ sum_by (λ way. long way.from) ways
over_ways n long [] below = nothing 0 n
  where
    nothing : (k m : ℕ) → total k m (λ v. long v * 0) ≡ 0
    nothing k zero = refl
    nothing k (suc m) = let z : long k * 0 ≡ 0 = grind arith in let later = nothing (suc k) m in omega (arith, z, later)
over_ways n long (x ∷ xs) below =
    let later = over_ways n long xs (λ way c. below way (there x xs way c)) in
    let more = total_more 0 n x.from (long x.from) (λ v. long v * sum_by (from_at v (λ y. 1)) xs) (λ v. long v * sum_by (from_at v (λ y. 1)) (x ∷ xs)) (omega arith) (let b = below x (here x xs) in omega (arith, b)) other this in
    let e = sum_by-cons (λ (way : Arrow ℕ). long way.from) x xs in
    omega (arith, later, more, e)
  where
    other : (v : ℕ) → v ≢ x.from → long v * sum_by (from_at v (λ y. 1)) (x ∷ xs) ≡ long v * sum_by (from_at v (λ y. 1)) xs
    other v ne =
        let z : ◌≡◌ {A = ℕ} (from_at v (λ y. 1) x) 0 = ap (λ b. cond {A = ℕ} b 1 0) (ne_eqb x.from v (λ e. ne (sym e))) in
        ap (λ m. long v * m) (let e = sum_by-cons (from_at v (λ y. 1)) x xs in omega (arith, e, z))

    this : long x.from * sum_by (from_at x.from (λ y. 1)) (x ∷ xs) ≡ long x.from * sum_by (from_at x.from (λ y. 1)) xs + long x.from
    this =
        let z : ◌≡◌ {A = ℕ} (from_at x.from (λ y. 1) x) 1 = ap (λ b. cond {A = ℕ} b 1 0) (eq-eqb x.from x.from refl) in
        times_one (long x.from) (sum_by (from_at x.from (λ y. 1)) xs) _ (let e = sum_by-cons (from_at x.from (λ y. 1)) x xs in omega (arith, e, z))

pub spent_whole : (n : ℕ) (rows outs : List (List ℕ)) (carried : List ℕ) (ways : List (Arrow ℕ)) → ((v : ℕ) → get_or carried v 0 ≡ length (row rows v)) → ((u : ℕ) (w : ℕ → ℕ) → sum_by w (row outs u) ≡ sum_by (from_at u w) ways)
    → ((way : Arrow ℕ) → Contains ways way → way.from < n) → spent n carried outs ≡ sum_by (λ way. length (row rows way.from)) ways
spent_whole n rows outs carried ways all leads below =
    same_total 0 n (λ v. get_or carried v 0 * length (row outs v)) (λ v. length (row rows v) * sum_by (from_at v (λ x. 1)) ways) (λ v. (λ i. all v i * (sym (sum_ones (row outs v)) ∙ leads v (λ x. 1)) i))
    ∙ over_ways n (λ v. length (row rows v)) ways below
  where
    same_total : (k m : ℕ) (g h : ℕ → ℕ) → ((v : ℕ) → g v ≡ h v) → total k m g ≡ total k m h
    same_total k zero g h same = refl
    same_total k (suc m) g h same = let a = same k in let b = same_total (suc k) m g h same in omega (arith, a, b)
