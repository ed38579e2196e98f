-- Rounds: each is one list, behind an empty one all are empty, and the modules of each stand among those before a later one.
use Rattle.std.proofs.Common.{◌≡◌, ℕ, zero, suc, ◌<◌, ◌≤◌, List, [], ◌∷◌, ◌++◌, refl, ap, sym, subst, ◌∙◌, arith, ⊎_elim}
use Rattle.std.specs.Prelude.{Contains}
use Rattle.std.specs.Cmp.Lexicographic.{nat_list_cmp_total}
use Rattle.std.proofs.lemmas.Bool.{cases_lt}
use Rattle.std.proofs.lemmas.List.{append_assoc, append-nil}
use Rattle.std.proofs.lemmas.List.Elements.{Contains-append_cases, Contains-append_left, Contains-append_right}
use Rattle.jam_base.specs.Files.{Files}
use Rattle.composer.proofs.Members.{none, here}
use Rattle.composer.proofs.OneList.{one_list}
use Rattle.jam_app.specs.Rounds.{IsLoaded, IsNextRound, IsRound}

one_next : (m : Files) (before last xs ys : List (List ℕ)) → IsNextRound m before last xs → IsNextRound m before last ys → xs ≡ ys
one_next m before last xs ys p q = one_list nat_list_cmp_total xs ys p.sorted q.sorted (λ x h. (q.here x).1 ((p.here x).0 h)) (λ x h. (p.here x).1 ((q.here x).0 h))

-- round n is one list, and so are the modules before it
pub one_round : (m : Files) (entry : List ℕ) (n : ℕ) (b r c s : List (List ℕ)) → IsRound m entry n b r → IsRound m entry n c s → (b ≡ c) × (r ≡ s)
one_round m entry zero b r c s p q = (p.0 ∙ sym q.0, p.1 ∙ sym q.1)
one_round m entry (suc n) b r c s (b0, r0, p, b_is, r_next) (c0, s0, q, c_is, s_next) =
    let both = one_round m entry n b0 r0 c0 s0 p q in (
      b_is ∙ (λ i. both.0 i ++ both.1 i) ∙ sym c_is,
      one_next m c0 s0 r s (subst (λ (l : List (List ℕ)). IsNextRound m c0 l r) both.1 (subst (λ (e : List (List ℕ)). IsNextRound m e r0 r) both.0 r_next)) s_next,
    )

-- the modules of a round, and those before it, begin those before a later round
pub round_within : (m : Files) (entry : List ℕ) (n k : ℕ) (b r c s : List (List ℕ)) → IsRound m entry n b r → IsRound m entry k c s → n < k → (rest : List (List ℕ)) × (c ≡ b ++ r ++ rest)
round_within m entry n zero b r c s p q lt = absurd (omega (arith, lt))
round_within m entry n (suc k) b r c s p (c0, s0, q, c_is, s_next) lt = ⊎_elim
    (λ (before : n < k). (let more = round_within m entry n k b r c0 s0 p q before in
    (more.0 ++ s0, c_is ∙ ap (λ xs. xs ++ s0) more.1 ∙ append_assoc (b ++ r) more.0 s0)))
    (λ (after : k ≤ n). (let same : n ≡ k = omega (arith, lt, after) in
    let both = one_round m entry k b r c0 s0 (subst (λ j. IsRound m entry j b r) same p) q in
    ([], c_is ∙ (λ i. sym both.0 i ++ sym both.1 i) ∙ sym (append-nil (b ++ r)))))
    (cases_lt n k)

none_required : (m : Files) (before next : List (List ℕ)) → IsNextRound m before [] next → next ≡ []
none_required m before [] p = refl
none_required m before (x ∷ xs) p = let among = ((p.here x).0 (here x xs)).0 in absurd (none among.0 among.1)

-- behind an empty round all are empty
pub empty_after : (m : Files) (entry : List ℕ) (k n : ℕ) (c b r : List (List ℕ)) → IsRound m entry k c [] → IsRound m entry n b r → k ≤ n → r ≡ []
empty_after m entry k zero c b r q p le =
    let same : k ≡ 0 = omega (arith, le) in
    (one_round m entry 0 b r c [] p (subst (λ j. IsRound m entry j c []) same q)).1
empty_after m entry k (suc n) c b r q (b0, r0, p, b_is, r_next) le = ⊎_elim
    (λ (before : n < k). (let same : k ≡ suc n = omega (arith, before, le) in
    (one_round m entry (suc n) b r c [] (b0, r0, p, b_is, r_next) (subst (λ j. IsRound m entry j c []) same q)).1))
    (λ (after : k ≤ n). none_required m b0 r (subst (λ (l : List (List ℕ)). IsNextRound m b0 l r) (empty_after m entry k n c b0 r0 q p after) r_next))
    (cases_lt n k)

-- what stands before a round is loaded
pub before_loaded : (m : Files) (entry : List ℕ) (n : ℕ) (b r : List (List ℕ)) → IsRound m entry n b r → (path : List ℕ) → Contains b path → IsLoaded m entry path
before_loaded m entry zero b r p path h = absurd (none path (subst (λ (l : List (List ℕ)). Contains l path) p.0 h))
before_loaded m entry (suc n) b r (b0, r0, p, b_is, r_next) path h = ⊎_elim
    (λ g. before_loaded m entry n b0 r0 p path g)
    (λ g. record { number = n; before = b0; round = r0; is_round = p; here = g })
    (Contains-append_cases b0 r0 path (subst (λ (l : List (List ℕ)). Contains l path) b_is h))

-- where the last round is empty, what is loaded stands before it
pub loaded_before : (m : Files) (entry : List ℕ) (k : ℕ) (c : List (List ℕ)) → IsRound m entry k c [] → (path : List ℕ) → IsLoaded m entry path → Contains c path
loaded_before m entry k c q path l = ⊎_elim
    (λ (within : l.number < k). (let all = round_within m entry l.number k l.before l.round c [] l.is_round q within in
    subst (λ (xs : List (List ℕ)). Contains xs path) (sym all.1) (Contains-append_left (l.before ++ l.round) all.0 path (Contains-append_right l.before l.round path l.here))))
    (λ (after : k ≤ l.number). absurd (none path (subst (λ (xs : List (List ℕ)). Contains xs path) (empty_after m entry k l.number c l.before l.round q l.is_round after) l.here)))
    (cases_lt l.number k)
