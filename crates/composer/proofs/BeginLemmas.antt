-- What stands somewhere from the start comes to its vertices.
use Rattle.std.proofs.Common.{◌≡◌, ℕ, zero, suc, ◌+◌, ◌*◌, ◌<◌, ◌≤◌, inl, inr, Bool, true, false, cond, ◌||◌, List, [], ◌∷◌, ◌++◌, length, replicate, get_or, take, refl, ap, sym, ◌∙◌, subst, arith, length-append}
use Rattle.std.specs.Prelude.{Contains, IsTrue, flat_map, nat_eq, slice_get}
use Rattle.std.specs.List.{IsDistinct, sum_by}
use Rattle.std.proofs.lemmas.Bool.{cases_lt, eq-eqb, eqb-true}
use Rattle.std.proofs.lemmas.List.{append-nil, length-replicate, take_more}
use Rattle.std.proofs.lemmas.List.Elements.{Contains-push_cases}
use Rattle.composer.proofs.CarryLemmas.{is_in_one, kept_by}
use Rattle.composer.proofs.Members.{none, here, only}
use Rattle.composer.proofs.NewWays.{target_sum}
use Rattle.composer.proofs.RowLemmas.{apart, row_replicate}
use Rattle.composer.specs.declared.system.Arrow.{Arrow}
use Rattle.composer.specs.declared.system.Callable.{Callable}
use Rattle.composer.specs.declared.system.CallSite.{CallSite}
use Rattle.composer.specs.declared.system.System.{System}
use Rattle.composer.specs.Rows.{Holds, is_in, row}
use Rattle.composer.specs.Solution.{InSolution, IsBase, Reason}
use Rattle.composer.specs.Solution.IsBase.{literal, native}
use Rattle.composer.specs.Solution.OneStepOn.{base}
use Rattle.composer.specs.Solution.Reason.{flow}
use Rattle.composer.specs.Ways.{all_ways, called_ways, site_ways}
use Rattle.composer.specs.Work.{Begun, HasWays, Keeps, Offers, Rests, first_of, flag, from_at, spent, targets_from, total}

nothing_held : (n t v : ℕ) → Holds (replicate n []) t v → ⊥
nothing_held n t v h = let e = row_replicate n v in let k = rw e at h in cc

pub Begun-none : (a : System ℕ ℕ) (n : ℕ) (rows : List (List ℕ)) (pending : List ℕ) → rows ≡ replicate n [] → pending ≡ [] → Begun a n 0 0 rows pending
unfolding IsDistinct
Begun-none a n rows pending is none_pending = record {
  rows_length = ap length is ∙ length-replicate n [];
  found = λ t v h. absurd (nothing_held n t v (ap (λ xs. is_in t (row xs v)) (sym is) ∙ h));
  literals = λ f c. absurd (none f c);
  natives = λ v c. absurd (none v c);
  distinct = λ v. subst (IsDistinct nat_eq) (sym (ap (λ xs. row xs v) is ∙ row_replicate n v)) tt;
  queued = λ v lt. absurd (let e = ap length (ap (λ xs. row xs v) is ∙ row_replicate n v) in omega (arith, lt, e));
  below = λ v c. absurd (none v (subst (λ xs. Contains xs v) none_pending c));
}

module _ (a : System ℕ ℕ) (n i j t v : ℕ) (rows new : List (List ℕ)) (pending later : List ℕ) (b : Begun a n i j rows pending) (o : Offers (t ∷ []) (v ∷ []) rows pending new later) (lt : v < n) (is : IsBase a t v) where
  here_now : Holds new t v
  here_now = o.all t v (is_in_one t t ∙ eq-eqb t t refl) (here v [])

  one_more : (i2 j2 : ℕ) → ((f : Callable ℕ ℕ) → Contains (take i2 a.functions) f → Holds new f.value f.literal) → ((w : ℕ) → Contains (take j2 a.native_at) w → Holds new a.native w) → Begun a n i2 j2 new later
  one_more i2 j2 literals natives = record {
    rows_length = o.same_length ∙ b.rows_length;
    found = λ x w h. elim (o.found x w h) [
      | inl g ↦ b.found x w g
      | inr g ↦ (let e : t ≡ x = eqb-true t x (sym (is_in_one x t) ∙ g.0) in subst (λ y. IsBase a y w) e (subst (IsBase a t) (only v w g.1) is))
    ];
    literals = literals;
    natives = natives;
    distinct = o.distinct b.distinct;
    queued = λ w some. elim (cases_lt (length (row rows w)) (length (row new w))) [
      | inl grew ↦ o.queued w grew
      | inr past ↦ o.still_pending w (b.queued w (omega (arith, some, past)))
    ];
    below = λ w c. elim (o.pending_in w c) [ inl g ↦ b.below w g | inr g ↦ subst (λ x. x < n) (only v w g) lt ];
  }

  kept : (x w : ℕ) → Holds rows x w → Holds new x w
  kept = kept_by rows new o.extends

  pub Begun-literal : (f : Callable ℕ ℕ) → i < length a.functions → get_or a.functions i f ≡ f → f.value ≡ t → f.literal ≡ v → Begun a n (i + 1) j new later
  Begun-literal f less at value_is vertex_is = one_more (i + 1) j
      (λ g c. elim (Contains-push_cases (take i a.functions) (get_or a.functions i f) g (subst (λ xs. Contains xs g) (take_more a.functions i f less) c)) [
        | inl k ↦ kept g.value g.literal (b.literals g k)
        | inr k ↦ subst (λ (x : Callable ℕ ℕ). Holds new x.value x.literal) (sym at ∙ k) (subst (λ x. Holds new x f.literal) (sym value_is) (subst (Holds new t) (sym vertex_is) here_now))
      ])
      (λ w c. kept a.native w (b.natives w c))

  pub Begun-native : j < length a.native_at → get_or a.native_at j v ≡ v → t ≡ a.native → Begun a n i (j + 1) new later
  Begun-native less at value_is = one_more i (j + 1)
      (λ g c. kept g.value g.literal (b.literals g c))
      (λ w c. elim (Contains-push_cases (take j a.native_at) (get_or a.native_at j v) w (subst (λ xs. Contains xs w) (take_more a.native_at j v less) c)) [
        | inl k ↦ kept a.native w (b.natives w k)
        | inr k ↦ subst (Holds new a.native) (sym at ∙ k) (subst (λ x. Holds new x v) value_is here_now)
      ])

none_at : (m k : ℕ) → ◌≡◌ {A = ℕ} (get_or (replicate m 0) k 0) 0
none_at zero k = refl
none_at (suc m) zero = refl
none_at (suc m) (suc k) = none_at m k

none_told : (m k : ℕ) → flag (replicate m false) k ≡ false
none_told zero k = refl
none_told (suc m) zero = refl
none_told (suc m) (suc k) = none_told m k

-- nothing was carried yet
module _ (a : System ℕ ℕ) (n i j : ℕ) (rows outs : List (List ℕ)) (pending : List ℕ) (b : Begun a n i j rows pending) (all_functions : take i a.functions ≡ a.functions) (all_natives : take j a.native_at ≡ a.native_at)
    (outs_length : length outs ≡ n) (outs_are : (v : ℕ) → row outs v ≡ targets_from v a.flows) where
  none_first : (v : ℕ) → first_of rows (replicate n 0) v ≡ []
  none_first v = ap (λ k. take k (row rows v)) (none_at n v)

  whole : (t v : ℕ) → IsBase a t v → Holds rows t v
  whole t v (literal f c e g) = subst (λ x. Holds rows x v) e (subst (Holds rows f.value) g (b.literals f (subst (λ xs. Contains xs f) (sym all_functions) c)))
  whole t v (native e c) = subst (λ x. Holds rows x v) (sym e) (b.natives v (subst (λ xs. Contains xs v) (sym all_natives) c))

  no_ways : (sites : List (CallSite ℕ)) (at : ℕ → List ℕ) → ((v : ℕ) → at v ≡ []) → flat_map (site_ways a at) sites ≡ []
  no_ways [] at none_yet = refl
  no_ways (s ∷ sites) at none_yet = (λ k. flat_map (λ t. called_ways a at s (slice_get a.functions t)) (none_yet s.callee k) ++ no_ways sites at none_yet k)

  pub Rests-begun : Rests a n rows outs (replicate n 0) pending (replicate n false)
  Rests-begun = record {
    ways = a.flows;
    keeps = record {
      rows_length = b.rows_length;
      outs_length = outs_length;
      carried_length = length-replicate n 0;
      found = λ t v h. (1, base (b.found t v h));
      bases = whole;
      distinct = b.distinct;
      within = λ v. let e = none_at n v in omega (arith, e);
      went = λ u v t c h. absurd (let e = ap (is_in t) (none_first u) in apart h e);
      leads = λ u w. ap (sum_by w) (outs_are u) ∙ target_sum u w a.flows;
      sound = λ way c. flow c;
      queued = λ v less. b.queued v (let e = none_at n v in omega (arith, less, e));
      below = b.below;
    };
    has_ways = record {
      same = λ w. ap (sum_by w) (sym (ap (λ xs. a.flows ++ xs) (no_ways a.sites (first_of rows (replicate n 0)) none_first) ∙ append-nil a.flows));
      told = λ v. none_told n v ∙ sym (ap (is_in a.native) (none_first v));
    };
    natives_length = length-replicate n false;
  }

pub nothing_spent : (n : ℕ) (outs : List (List ℕ)) → spent n (replicate n 0) outs ≡ 0
nothing_spent n outs = zero_total 0 n (λ v. get_or (replicate n 0) v 0 * length (row outs v)) (λ v. ap (λ m. m * length (row outs v)) (none_at n v) ∙ none_times (length (row outs v)))
  where
    zero_total : (k m : ℕ) (g : ℕ → ℕ) → ((v : ℕ) → g v ≡ 0) → total k m g ≡ 0
    zero_total k zero g all = refl
    zero_total k (suc m) g all = let e = all k in let f = zero_total (suc k) m g all in omega (arith, e, f)

    none_times : (k : ℕ) → 0 * k ≡ 0
    none_times k = grind arith
