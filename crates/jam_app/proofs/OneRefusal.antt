-- The refusals of one request are one.
use Rattle.std.proofs.Common.{◌≡◌, ◌⊎◌, inl, inr, ℕ, false, ◌+◌, ◌<◌, ◌≤◌, List, [], ◌∷◌, ◌++◌, length, refl, ap, sym, subst, ◌∙◌, arith}
use Rattle.std.specs.Prelude.{Contains}
use Rattle.std.proofs.lemmas.Bool.{cases_lt}
use Rattle.std.proofs.lemmas.List.{append_assoc}
use Rattle.std.proofs.lemmas.List.Elements.{All-contains, Contains-append_left, Contains-append_right}
use Rattle.std.proofs.lemmas.Option.{none-some, same_Some}
use Rattle.jam_base.specs.Files.{Files}
use Rattle.js_tree.specs.Spells.{limit}
use Rattle.composer.proofs.Members.{here}
use Rattle.jam_app.specs.declared.answers.refusal.Refusal.{Refusal}
use Rattle.jam_app.specs.declared.answers.refusal.Refusal.TheVariants as refusal
use Rattle.jam_app.specs.Refusals.{IsFirstBad, IsOneTooMany, IsReached, IsLoadRefusal, IsRefusal, IsTooWide, ReadsFiles, advisories, construct, counted_bytes, load, lock, no_entry, not_in_profile, too_large, too_many, too_wide, without_place}
use Rattle.jam_app.specs.Rounds.{Fits, IsApplication, IsRound, text_at}
use Rattle.lock_reader.specs.declared.lock.LockEntry.{LockEntry}
use Rattle.advisory_reader.specs.declared.advisory.Advisory.{Advisory}
use Rattle.word_reader.specs.declared.table.Command.{Command}
use Rattle.word_reader.specs.declared.table.Command.TheVariants as command
use Rattle.jam_app.specs.AuditFiles.{HasAdvisories, HasLock}
use Rattle.jam_app.specs.Entries.{Start, start_of}
use Rattle.word_reader.specs.Requests.{Asked}
use Rattle.jam_app.proofs.FileLemmas.{advisories_apart, lock_apart, one_advisory, one_lock}
use Rattle.jam_app.specs.Texts.{IsBad}
use Rattle.jam_app.proofs.RoundLemmas.{one_round, round_within}
use Rattle.jam_app.proofs.Whole.{prefix_fits}

three : (a b : ℕ) → (a < b) ⊎ ((b < a) ⊎ (a ≡ b))
three a b = elim (cases_lt a b) [
  | inl lt ↦ inl lt
  | inr le ↦ elim (cases_lt b a) [ inl gt ↦ inr (inl gt) | inr ge ↦ inr (inr (omega (arith, le, ge))) ]
]

parted : {X : Type 0} (x y : X) (xs ys : List X) → x ∷ xs ≡ y ∷ ys → (x ≡ y) × (xs ≡ ys)
parted x y xs ys e = (cc, cc)

-- one list parted at two places: they are one, or one of them stands in front of the other
split : {X : Type 0} (f g : List X) (p q : X) (h k : List X) → f ++ p ∷ h ≡ g ++ q ∷ k
    → ((f ≡ g) × (p ≡ q)) ⊎ (((rest : List X) × (g ≡ f ++ p ∷ rest)) ⊎ ((rest : List X) × (f ≡ g ++ q ∷ rest)))
split [] [] p q h k e = inl (refl, (parted p q h k e).0)
split [] (y ∷ g) p q h k e = inr (inl (g, ap (λ z. z ∷ g) (sym (parted p y h (g ++ q ∷ k) e).0)))
split (x ∷ f) [] p q h k e = inr (inr (f, ap (λ z. z ∷ f) (parted x q (f ++ p ∷ h) k e).0))
split (x ∷ f) (y ∷ g) p q h k e =
    let both = parted x y (f ++ p ∷ h) (g ++ q ∷ k) e in
    elim (split f g p q h k both.1) [
      | inl (same, one) ↦ inl ((λ i. both.0 i ∷ same i), one)
      | inr further ↦ elim further [
        | inl (rest, is) ↦ inr (inl (rest, (λ i. sym both.0 i ∷ is i)))
        | inr (rest, is) ↦ inr (inr (rest, (λ i. both.0 i ∷ is i)))
      ]
    ]

module _ (m : Files) (start : Start) where
  -- a round that is reached stands before each later one
  before_later : (b f : List (List ℕ)) (p : List ℕ) (h c g : List (List ℕ)) (q : List ℕ) (k : List (List ℕ)) (r : IsReached start m b f p h) (s : IsReached start m c g q k) → r.number < s.number
      → (rest : List (List ℕ)) × (c ≡ b ++ (f ++ p ∷ h) ++ rest)
  before_later b f p h c g q k r s lt =
      round_within m r.entry r.number s.number b (f ++ p ∷ h) c (g ++ q ∷ k) r.is_round
      (subst (λ (e : List ℕ). IsRound m e s.number c (g ++ q ∷ k)) (same_Some s.entry r.entry (sym s.found ∙ r.found)) s.is_round) lt

  same_round : (b f : List (List ℕ)) (p : List ℕ) (h c g : List (List ℕ)) (q : List ℕ) (k : List (List ℕ)) (r : IsReached start m b f p h) (s : IsReached start m c g q k) → r.number ≡ s.number
      → (b ≡ c) × (f ++ p ∷ h ≡ g ++ q ∷ k)
  same_round b f p h c g q k r s same =
      one_round m r.entry r.number b (f ++ p ∷ h) c (g ++ q ∷ k) r.is_round
      (subst (λ n. IsRound m r.entry n c (g ++ q ∷ k)) (sym same) (subst (λ (e : List ℕ). IsRound m e s.number c (g ++ q ∷ k)) (same_Some s.entry r.entry (sym s.found ∙ r.found)) s.is_round))

  -- no later round is reached behind a bad module
  later_bad : (b f : List (List ℕ)) (p : List ℕ) (h c g : List (List ℕ)) (q : List ℕ) (k : List (List ℕ)) (r : IsReached start m b f p h) (s : IsReached start m c g q k) → start.skip ≡ false → IsBad (text_at m p) → r.number < s.number → ⊥
  later_bad b f p h c g q k r s unskipped is_bad lt =
      let all = before_later b f p h c g q k r s lt in
      let inside : Contains c p = subst (λ (ps : List (List ℕ)). Contains ps p) (sym all.1)
      (Contains-append_left (b ++ (f ++ p ∷ h)) all.0 p (Contains-append_right b (f ++ p ∷ h) p (Contains-append_right f (p ∷ h) p (here p h)))) in
      All-contains (λ (x : List ℕ). IsBad (text_at m x) → ⊥) c p (s.none_bad unskipped) inside is_bad

  -- nor behind one that is one too many, where the modules before that round are within the limits
  later_over : (e : List (List ℕ)) (p : List ℕ) (one : IsOneTooMany start m e p) (c g : List (List ℕ)) (q : List ℕ) (k : List (List ℕ)) (s : IsReached start m c g q k) → Fits m c → one.reached.number < s.number → ⊥
  later_over e p one c g q k s fits lt =
      let all = before_later one.before one.front p one.behind c g q k one.reached s lt in
      let parts : c ≡ (e ++ p ∷ []) ++ (one.behind ++ all.0) =
      all.1
      ∙ ap (λ xs. xs ++ all.0) (sym (append_assoc one.before one.front (p ∷ one.behind)) ∙ ap (λ xs. xs ++ p ∷ one.behind) (sym one.earlier_are) ∙ sym (append_assoc e (p ∷ []) one.behind))
      ∙ append_assoc (e ++ p ∷ []) one.behind all.0 in
      one.over (prefix_fits m c (e ++ p ∷ []) (one.behind ++ all.0) parts fits)

  -- a module that is one too many stands in front of none within the limits
  too_soon : (e : List (List ℕ)) (p : List ℕ) (one : IsOneTooMany start m e p) (d c rest : List (List ℕ)) → one.before ≡ c → d ≡ c ++ (one.front ++ p ∷ rest) → Fits m d → ⊥
  too_soon e p one d c rest same is fits =
      one.over (prefix_fits m d (e ++ p ∷ []) rest
      (is ∙ ap (λ xs. xs ++ (one.front ++ p ∷ rest)) (sym same) ∙ sym (append_assoc one.before one.front (p ∷ rest)) ∙ ap (λ xs. xs ++ p ∷ rest) (sym one.earlier_are) ∙ sym (append_assoc e (p ∷ []) rest))
      fits)

  before_fits : (e : List (List ℕ)) (p : List ℕ) (one : IsOneTooMany start m e p) → Fits m one.before
  before_fits e p one = prefix_fits m e one.before one.front one.earlier_are one.fit

  many_twice : (e d : List (List ℕ)) (p q : List ℕ) → IsOneTooMany start m e p → IsOneTooMany start m d q → (e ≡ d) × (p ≡ q)
  many_twice e d p q one other = elim (three one.reached.number other.reached.number) [
    | inl lt ↦ absurd (later_over e p one other.before other.front q other.behind other.reached (before_fits d q other) lt)
    | inr further ↦ elim further [
      | inl gt ↦ absurd (later_over d q other one.before one.front p one.behind one.reached (before_fits e p one) gt)
      | inr same ↦ (
          let both = same_round one.before one.front p one.behind other.before other.front q other.behind one.reached other.reached same in
          elim (split one.front other.front p q one.behind other.behind both.1) [
            | inl (fronts, paths) ↦ (one.earlier_are ∙ (λ i. both.0 i ++ fronts i) ∙ sym other.earlier_are, paths)
            | inr apart ↦ elim apart [
              | inl (rest, is) ↦ absurd (too_soon e p one d other.before rest both.0 (other.earlier_are ∙ ap (λ xs. other.before ++ xs) is) other.fit)
              | inr (rest, is) ↦ absurd (too_soon d q other e one.before rest (sym both.0) (one.earlier_are ∙ ap (λ xs. one.before ++ xs) is) one.fit)
            ]
          ]
          )
    ]
  ]

  many_bad : (e : List (List ℕ)) (p q : List ℕ) → IsOneTooMany start m e p → IsFirstBad start m q → ⊥
  many_bad e p q one first = elim (three one.reached.number first.reached.number) [
    | inl lt ↦ later_over e p one first.before first.front q first.behind first.reached
        (prefix_fits m (first.before ++ first.front ++ q ∷ first.behind) first.before (first.front ++ q ∷ first.behind) (append_assoc first.before first.front (q ∷ first.behind)) first.fits) lt
    | inr further ↦ elim further [
      | inl gt ↦ later_bad first.before first.front q first.behind one.before one.front p one.behind first.reached one.reached first.unskipped first.bad gt
      | inr same ↦ (
          let both = same_round one.before one.front p one.behind first.before first.front q first.behind one.reached first.reached same in
          too_soon e p one (first.before ++ first.front ++ q ∷ first.behind) first.before one.behind both.0
          (append_assoc first.before first.front (q ∷ first.behind) ∙ ap (λ xs. first.before ++ xs) (sym both.1)) first.fits
          )
    ]
  ]

  in_front : (g f rest : List (List ℕ)) (p : List ℕ) → g ≡ f ++ p ∷ rest → Contains g p
  in_front g f rest p is = subst (λ (ps : List (List ℕ)). Contains ps p) (sym is) (Contains-append_right f (p ∷ rest) p (here p rest))

  bad_twice : (p q : List ℕ) → IsFirstBad start m p → IsFirstBad start m q → p ≡ q
  bad_twice p q one other = elim (three one.reached.number other.reached.number) [
    | inl lt ↦ absurd (later_bad one.before one.front p one.behind other.before other.front q other.behind one.reached other.reached one.unskipped one.bad lt)
    | inr further ↦ elim further [
      | inl gt ↦ absurd (later_bad other.before other.front q other.behind one.before one.front p one.behind other.reached one.reached other.unskipped other.bad gt)
      | inr same ↦ (
          let both = same_round one.before one.front p one.behind other.before other.front q other.behind one.reached other.reached same in
          elim (split one.front other.front p q one.behind other.behind both.1) [
            | inl (fronts, paths) ↦ paths
            | inr apart ↦ elim apart [
              | inl (rest, is) ↦ absurd (All-contains (λ (x : List ℕ). IsBad (text_at m x) → ⊥) other.front p other.none_bad (in_front other.front one.front rest p is) one.bad)
              | inr (rest, is) ↦ absurd (All-contains (λ (x : List ℕ). IsBad (text_at m x) → ⊥) one.front q one.none_bad (in_front one.front other.front rest q is) other.bad)
            ]
          ]
          )
    ]
  ]

  -- one text is too large or within the limit
  large_and_small : (p q : List ℕ) → IsFirstBad start m p → IsFirstBad start m q → limit < length (text_at m p) → length (text_at m q) ≤ limit → ⊥
  large_and_small p q one other over within =
      let same : length (text_at m p) ≡ length (text_at m q) = ap (λ (x : List ℕ). length (text_at m x)) (bad_twice p q one other) in omega (arith, over, within, same)

  -- texts outside the profile
  outside : (p q : List ℕ) → IsFirstBad start m p → IsFirstBad start m q → refusal.NotInProfile p 0 ≡ refusal.NotInProfile q 0
  outside p q one other = ap (λ (x : List ℕ). refusal.NotInProfile x 0) (bad_twice p q one other)

  pub one_load : (one other : Refusal) → IsLoadRefusal start m one → IsLoadRefusal start m other → without_place one ≡ without_place other
  one_load one other (no_entry a) (no_entry b) = refl
  one_load one other (no_entry a) (too_many d q b) = absurd (none-some b.reached.entry (sym a ∙ b.reached.found))
  one_load one other (no_entry a) (too_large q b more) = absurd (none-some b.reached.entry (sym a ∙ b.reached.found))
  one_load one other (no_entry a) (construct q place which b small because) = absurd (none-some b.reached.entry (sym a ∙ b.reached.found))
  one_load one other (no_entry a) (not_in_profile q place b small because) = absurd (none-some b.reached.entry (sym a ∙ b.reached.found))
  one_load one other (too_many e p a) (no_entry b) = absurd (none-some a.reached.entry (sym b ∙ a.reached.found))
  one_load one other (too_many e p a) (too_many d q b) =
      let same = many_twice e d p q a b in λ i. refusal.TooMany (length (same.0 i) + 1) (counted_bytes m (same.0 i) (same.1 i))
  one_load one other (too_many e p a) (too_large q b more) = absurd (many_bad e p q a b)
  one_load one other (too_many e p a) (construct q place which b small because) = absurd (many_bad e p q a b)
  one_load one other (too_many e p a) (not_in_profile q place b small because) = absurd (many_bad e p q a b)
  one_load one other (too_large p a over) (no_entry b) = absurd (none-some a.reached.entry (sym b ∙ a.reached.found))
  one_load one other (too_large p a over) (too_many d q b) = absurd (many_bad d q p b a)
  one_load one other (too_large p a over) (too_large q b more) = ap (λ (x : List ℕ). refusal.TooLarge x (length (text_at m x))) (bad_twice p q a b)
  one_load one other (too_large p a over) (construct q place which b small because) = absurd (large_and_small p q a b over small)
  one_load one other (too_large p a over) (not_in_profile q place b small because) = absurd (large_and_small p q a b over small)
  one_load one other (construct p at what a within refused) (no_entry b) = absurd (none-some a.reached.entry (sym b ∙ a.reached.found))
  one_load one other (construct p at what a within refused) (too_many d q b) = absurd (many_bad d q p b a)
  one_load one other (construct p at what a within refused) (too_large q b more) = absurd (large_and_small q p b a more within)
  one_load one other (construct p at what a within refused) (construct q place which b small because) = outside p q a b
  one_load one other (construct p at what a within refused) (not_in_profile q place b small because) = outside p q a b
  one_load one other (not_in_profile p at a within refused) (no_entry b) = absurd (none-some a.reached.entry (sym b ∙ a.reached.found))
  one_load one other (not_in_profile p at a within refused) (too_many d q b) = absurd (many_bad d q p b a)
  one_load one other (not_in_profile p at a within refused) (too_large q b more) = absurd (large_and_small q p b a more within)
  one_load one other (not_in_profile p at a within refused) (construct q place which b small because) = outside p q a b
  one_load one other (not_in_profile p at a within refused) (not_in_profile q place b small because) = outside p q a b

-- ---- a request

reads_lock : (k : Command) (operand : List ℕ) (m : Files) → k ≡ command.Audit → ReadsFiles k operand m → (entries : List LockEntry) × (advisories : List Advisory) × HasLock m entries × HasAdvisories m operand advisories
reads_lock k operand m is reads = subst (λ c. ReadsFiles c operand m) is reads

module _ (m : Files) (asked : Asked) where
  wide_once : (n k : ℕ) → IsTooWide (start_of asked) m n → IsTooWide (start_of asked) m k → n ≡ k
  wide_once n k a b =
      let entry : b.entry ≡ a.entry = same_Some b.entry a.entry (sym b.found ∙ a.found) in
      sym (a.size_is b.modules (subst (λ e. IsApplication m e b.modules) entry b.application)) ∙ b.size_is b.modules b.application

  pub one_refusal : (one other : Refusal) → IsRefusal asked m one → IsRefusal asked m other → without_place one ≡ without_place other
  one_refusal one other (lock o e a) (lock p f b) = ap without_place (one_lock m one other a b)
  one_refusal one other (lock o e a) (advisories p es f l b) = absurd (lock_apart m es one l a)
  one_refusal one other (lock o e a) (load p r b) = let reads = reads_lock asked.command asked.operand m e r in absurd (lock_apart m reads.0 one reads.2 a)
  one_refusal one other (lock o e a) (too_wide n r b) = let reads = reads_lock asked.command asked.operand m e r in absurd (lock_apart m reads.0 one reads.2 a)
  one_refusal one other (advisories o es e l a) (lock p f b) = absurd (lock_apart m es other l b)
  one_refusal one other (advisories o es e l a) (advisories p fs f k b) = ap without_place (one_advisory m asked.operand one other a b)
  one_refusal one other (advisories o es e l a) (load p r b) = let reads = reads_lock asked.command asked.operand m e r in absurd (advisories_apart m asked.operand reads.1 one reads.3 a)
  one_refusal one other (advisories o es e l a) (too_wide n r b) = let reads = reads_lock asked.command asked.operand m e r in absurd (advisories_apart m asked.operand reads.1 one reads.3 a)
  one_refusal one other (load o r a) (lock p f b) = let reads = reads_lock asked.command asked.operand m f r in absurd (lock_apart m reads.0 other reads.2 b)
  one_refusal one other (load o r a) (advisories p fs f k b) = let reads = reads_lock asked.command asked.operand m f r in absurd (advisories_apart m asked.operand reads.1 other reads.3 b)
  one_refusal one other (load o r a) (load p q b) = one_load m (start_of asked) one other a b
  one_refusal one other (load o r a) (too_wide n q b) = absurd (b.unrefused one a)
  one_refusal one other (too_wide n r a) (lock p f b) = let reads = reads_lock asked.command asked.operand m f r in absurd (lock_apart m reads.0 other reads.2 b)
  one_refusal one other (too_wide n r a) (advisories p fs f k b) = let reads = reads_lock asked.command asked.operand m f r in absurd (advisories_apart m asked.operand reads.1 other reads.3 b)
  one_refusal one other (too_wide n r a) (load p q b) = absurd (a.unrefused other b)
  one_refusal one other (too_wide n r a) (too_wide k q b) = ap refusal.TooWide (wide_once n k a b)
