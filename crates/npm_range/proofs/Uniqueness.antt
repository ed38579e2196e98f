-- A text has one reading.
use Rattle.std.proofs.Common.{◌≡◌, ℕ, List, [], ◌∷◌, length, Option, Some, None, Result, Ok, Err, refl, sym, ap, ◌∙◌, subst, arith, inl, inr}
use Rattle.std.proofs.lemmas.Bool.{cases_order}
use Rattle.semver.specs.Parse.{Parts, digits_from, version_parts}
use Rattle.npm_range.specs.Conditions.{Condition}
use Rattle.npm_range.specs.Grammar.{EndsAlternatives, EndsConditions, IsBound, IsFirstBad, IsFront, IsWhole, NextAlternative, NextCondition, ReadsAlternative, ReadsRange, Spells, Stretch, piece, split_operator}
use Rattle.npm_range.specs.Faults.{FailsAt, Gives, IfAt}
use Rattle.npm_range.specs.declared.comparator.Operator.{Operator}
use Rattle.npm_range.specs.declared.fault.RangeFault.{RangeFault}
use Rattle.npm_range.specs.declared.fault.RangeFault.TheVariants.{At, OutOfMemory}
use Rattle.std.specs.Result.{IfErr, IfOk}
use Rattle.npm_range.proofs.Readings.{one_reading}

-- neither `*` nor the empty text is a version
star-no_version : (version : Parts) → version_parts (42 ∷ []) ≡ Ok version → ⊥
unfolding digits_from
star-no_version version e = cc e

IsBound-empty : (op : Operator) (c : Condition) → IsBound op [] c → ⊥
IsBound-empty op c h = let e : version_parts [] ≡ Ok h.0 = h.1 in cc e

IsBound-one : (op : Operator) (text : List ℕ) (c d : Condition) → IsBound op text c → IsBound op text d → c ≡ d
IsBound-one op text c d p q = cc

-- a piece that is `*` is no operator and version
star-bound : (text : List ℕ) (c : Condition) → text ≡ 42 ∷ [] → IsBound (split_operator text).0 (split_operator text).1 c → ⊥
unfolding split_operator
star-bound text c e h = star-no_version h.0 (rw e at h.1)

star-alone : (text : List ℕ) → text ≡ 42 ∷ [] → (split_operator text).1 ≡ [] → ⊥
unfolding split_operator
star-alone text e h = let f : (split_operator (42 ∷ [])).1 ≡ [] = rw e at h in cc f

IsWhole-one : (text : List ℕ) (c d : Condition) → IsWhole text c → IsWhole text d → c ≡ d
IsWhole-one text c d (inl p) (inl q) = cc
IsWhole-one text c d (inl p) (inr q) = absurd (star-bound text d p.0 q)
IsWhole-one text c d (inr p) (inl q) = absurd (star-bound text c q.0 p)
IsWhole-one text c d (inr p) (inr q) = IsBound-one _ _ c d p q

-- an operator alone is no whole piece
IsWhole-alone : (text : List ℕ) (c : Condition) → IsWhole text c → (split_operator text).1 ≡ [] → ⊥
IsWhole-alone text c (inl p) a = star-alone text p.0 a
IsWhole-alone text c (inr p) a = IsBound-empty _ c (subst (λ t. IsBound (split_operator text).0 t c) a p)

NextCondition-one : (s : Stretch) (c d : Condition) (t u : Stretch) → NextCondition s c t → NextCondition s d u → (c ≡ d) × (t ≡ u)
NextCondition-one s c d t u (inl p) (inl q) = (IsWhole-one _ c d p.0 q.0, cc)
NextCondition-one s c d t u (inl p) (inr q) = absurd (IsWhole-alone _ c p.0 q.0.1)
NextCondition-one s c d t u (inr p) (inl q) = absurd (IsWhole-alone _ d q.0 p.0.1)
NextCondition-one s c d t u (inr p) (inr q) = (IsBound-one _ _ c d p.1 q.1, cc)

EndsConditions-one : (s : Stretch) (f g : Option ℕ) → EndsConditions s f → EndsConditions s g → f ≡ g
EndsConditions-one s None None p q = refl
EndsConditions-one s None (Some n) p q = let e : length (piece s).text ≡ 0 = ap length p in absurd (omega (arith, q.0))
EndsConditions-one s (Some m) None p q = let e : length (piece s).text ≡ 0 = ap length q in absurd (omega (arith, p.0))
EndsConditions-one s (Some m) (Some n) p q = ap Some (p.1 ∙ sym q.1)

-- no condition stands where no piece is left
IsWhole-empty : (text : List ℕ) (c : Condition) → text ≡ [] → IsWhole text c → ⊥
unfolding split_operator
IsWhole-empty text c e (inl p) = cc (e, p.0)
IsWhole-empty text c e (inr p) = IsBound-empty _ c (rw e at p)

EndsConditions-apart : (s : Stretch) (c : Condition) (t : Stretch) (f : Option ℕ) → NextCondition s c t → EndsConditions s f → ⊥
EndsConditions-apart s c t None (inl p) e = IsWhole-empty _ c e p.0
EndsConditions-apart s c t None (inr p) e = let z : length (piece s).text ≡ 0 = ap length e in omega (arith, p.0.0)
EndsConditions-apart s c t (Some n) p e = e.2 c t p

pub one_alternative : (s : Stretch) (xs ys : List Condition) (f g : Option ℕ) → ReadsAlternative s xs f → ReadsAlternative s ys g → (xs ≡ ys) × (f ≡ g)
one_alternative = one_reading NextCondition EndsConditions NextCondition-one EndsConditions-one EndsConditions-apart

-- ---- alternatives

IsFront-one : (s a b : Stretch) (t u : Option Stretch) → IsFront s a t → IsFront s b u → (a ≡ b) × (t ≡ u)
IsFront-one s a b None None p q = (cc, refl)
IsFront-one s a b None (Some u) p q = absurd (p.1 q.0 q.1)
IsFront-one s a b (Some t) None p q = absurd (q.1 p.0 p.1)
IsFront-one s a b (Some t) (Some u) p q =
    elim (cases_order p.0 q.0) [
      | inl same ↦ (cc, cc)
      | inr (inl before) ↦ absurd (q.2 p.0 before p.1)
      | inr (inr after) ↦ absurd (p.2 q.0 after q.1)
    ]

NextAlternative-one : (s : Option Stretch) (xs ys : List Condition) (t u : Option Stretch)
    → NextAlternative s xs t → NextAlternative s ys u → (xs ≡ ys) × (t ≡ u)
NextAlternative-one None xs ys t u p q = absurd p
NextAlternative-one (Some s) xs ys t u p q =
    let e = IsFront-one s p.0 q.0 t u p.1 q.1 in
    ((one_alternative p.0 xs ys None None p.2 (subst (λ a. ReadsAlternative a ys None) (sym e.0) q.2)).0, e.1)

EndsAlternatives-one : (s : Option Stretch) (f g : Option ℕ) → EndsAlternatives s f → EndsAlternatives s g → f ≡ g
EndsAlternatives-one None None None p q = refl
EndsAlternatives-one None None (Some n) p q = absurd q
EndsAlternatives-one None (Some m) g p q = absurd p
EndsAlternatives-one (Some s) None g p q = absurd p
EndsAlternatives-one (Some s) (Some m) None p q = absurd q
EndsAlternatives-one (Some s) (Some m) (Some n) p q =
    let e = IsFront-one s p.0 q.0 p.1 q.1 p.3 q.3 in
    (one_alternative p.0 p.2 q.2 (Some m) (Some n) p.4 (subst (λ a. ReadsAlternative a q.2 (Some n)) (sym e.0) q.4)).1

EndsAlternatives-apart : (s : Option Stretch) (xs : List Condition) (t : Option Stretch) (f : Option ℕ) → NextAlternative s xs t → EndsAlternatives s f → ⊥
EndsAlternatives-apart None xs t f p e = p
EndsAlternatives-apart (Some s) xs t None p e = e
EndsAlternatives-apart (Some s) xs t (Some n) p e =
    let front = IsFront-one s p.0 e.0 t e.1 p.1 e.3 in
    let r = one_alternative p.0 xs e.2 None (Some n) p.2 (subst (λ a. ReadsAlternative a e.2 (Some n)) (sym front.0) e.4) in
    cc (r.1)

pub one_range : (text : List ℕ) (xs ys : List (List Condition)) (f g : Option ℕ) → ReadsRange text xs f → ReadsRange text ys g → (xs ≡ ys) × (f ≡ g)
one_range text = one_reading NextAlternative EndsAlternatives NextAlternative-one EndsAlternatives-one EndsAlternatives-apart
    (Some (record { at = 0; text = text }))

-- so an answer that is right where it is one is the only one, want of memory aside
pub only_range : (text : List ℕ) (r : Result (List (List Condition)) RangeFault) → IfOk r (Spells text) → IfErr r (λ e. IfAt e (IsFirstBad text))
    → (range : List (List Condition)) → Spells text range → Gives r range
only_range text (Ok x) ok bad range h = (one_range text x range None None ok h).0
only_range text (Err OutOfMemory) ok bad range h = tt
only_range text (Err (At n)) ok bad range h = let e = one_range text bad.0 range (Some n) None bad.1 h in cc (e.1)

pub only_fault : (text : List ℕ) (r : Result (List (List Condition)) RangeFault) → IfOk r (Spells text) → IfErr r (λ e. IfAt e (IsFirstBad text))
    → (offset : ℕ) → IsFirstBad text offset → FailsAt r offset
only_fault text (Ok x) ok bad offset h = let e = one_range text x h.0 None (Some offset) ok h.1 in cc (e.1)
only_fault text (Err OutOfMemory) ok bad offset h = tt
only_fault text (Err (At n)) ok bad offset h = let e = one_range text bad.0 h.0 (Some n) (Some offset) bad.1 h.1 in cc (e.1)
