-- Bytes spell one list of advisories, or have one first fault.
use Rattle.std.proofs.Common.{◌≡◌, ◌⊎◌, ℕ, List, Option, Some, None, Result, Ok, Err, refl, sym, ap, ◌∙◌, subst, inl, inr}
use Rattle.std.specs.Result.{IfErr, IfOk}
use Rattle.serde_json.specs.Data.{Data, Items, item}
use Rattle.npm_range.specs.Conditions.{Condition}
use Rattle.npm_range.specs.Grammar.{IsFirstBad, Spells}
use Rattle.npm_range.proofs.Uniqueness.{one_range}
use Rattle.npm_range.proofs.Readings.{one_reading}
use Rattle.advisory_reader.specs.Advisories.{EndsList, IsAdvisory, IsFault, IsWrong, NextAdvisory, ReadsList, SpellsAdvisories, items_of, named_of}
use Rattle.advisory_reader.specs.Answers.{FailsWith, Gives}
use Rattle.advisory_reader.specs.declared.advisory.Advisory.{Advisory}
use Rattle.advisory_reader.specs.declared.advisory.Selector.{Selector}
use Rattle.advisory_reader.specs.declared.fault.AdvisoryFault.{AdvisoryFault}
use Rattle.advisory_reader.specs.declared.fault.AdvisoryFault.TheVariants as fault

abbrev Named : Type 0
Named = List ℕ × List ℕ × List ℕ

-- a text spells one range, or has one first bad piece
one_spelling : (s t : List ℕ) (a b : List (List Condition)) → s ≡ t → Spells s a → Spells t b → a ≡ b
one_spelling s t a b e p q = (one_range s a b None None p (subst (λ x. Spells x b) (sym e) q)).0

one_bad : (s t : List ℕ) (m n : ℕ) → s ≡ t → IsFirstBad s m → IsFirstBad t n → m ≡ n
one_bad s t m n e p q = let r = subst (λ x. IsFirstBad x n) (sym e) q in let same = one_range s p.0 r.0 (Some m) (Some n) p.1 r.1 in cc (same.1)

good_or_bad : (s t : List ℕ) (a : List (List Condition)) (n : ℕ) → s ≡ t → Spells s a → IsFirstBad t n → ⊥
good_or_bad s t a n e p q = let r = subst (λ x. IsFirstBad x n) (sym e) q in let same = one_range s a r.0 None (Some n) p r.1 in cc (same.1)

one_named : (d : Data) (m n : Named) → named_of d ≡ Ok m → named_of d ≡ Ok n → m ≡ n
one_named d m n p q = cc

abbrev advisory : List ℕ → List ℕ → List (List Condition) → List Selector → Advisory
advisory id name range functions = record { id = id; «package» = name; range = range; functions = functions }

IsAdvisory-one : (d : Data) (a b : Advisory) → IsAdvisory d a → IsAdvisory d b → a ≡ b
IsAdvisory-one d a b p q =
    let named = one_named d (a.id, a.package, p.0) (b.id, b.package, q.0) p.1 q.1 in
    let id : a.id ≡ b.id = ap (λ (n : Named). n.0) named in
    let name : a.package ≡ b.package = ap (λ (n : Named). n.1) named in
    let range = one_spelling p.0 q.0 a.range b.range (ap (λ (n : Named). n.2) named) p.2 q.2 in
    let functions : a.functions ≡ b.functions = cc (p.3, q.3) in
    ap (λ i. advisory i a.package a.range a.functions) id ∙ ap (λ n. advisory b.id n a.range a.functions) name
    ∙ ap (λ r. advisory b.id b.package r a.functions) range ∙ ap (λ fs. advisory b.id b.package b.range fs) functions

-- an advisory has nothing wrong
IsAdvisory-right : (index : ℕ) (d : Data) (a : Advisory) (f : AdvisoryFault) → IsAdvisory d a → IsWrong index d f → ⊥
IsAdvisory-right index d a f p (inl q) = cc (p.1, q.1)
IsAdvisory-right index d a f p (inr (inl q)) =
    good_or_bad p.0 q.1.0.2 a.range q.0 (ap (λ (n : Named). n.2) (one_named d _ _ p.1 q.1.1)) p.2 q.1.2
IsAdvisory-right index d a f p (inr (inr q)) = cc (p.3, q.0.4)

IsWrong-one : (index : ℕ) (d : Data) (f g : AdvisoryFault) → IsWrong index d f → IsWrong index d g → f ≡ g
IsWrong-one index d f g (inl p) (inl q) = cc (p.1, p.2, q.1, q.2)
IsWrong-one index d f g (inl p) (inr (inl q)) = absurd (cc (p.1, q.1.1))
IsWrong-one index d f g (inl p) (inr (inr q)) = absurd (cc (p.1, q.0.2))
IsWrong-one index d f g (inr (inl p)) (inl q) = absurd (cc (q.1, p.1.1))
IsWrong-one index d f g (inr (inl p)) (inr (inl q)) =
    let same = one_bad p.1.0.2 q.1.0.2 p.0 q.0 (ap (λ (n : Named). n.2) (one_named d _ _ p.1.1 q.1.1)) p.1.2 q.1.2 in
    cc (same, p.2, q.2)
IsWrong-one index d f g (inr (inl p)) (inr (inr q)) =
    absurd (good_or_bad q.0.0.2 p.1.0.2 q.0.1 p.0 (ap (λ (n : Named). n.2) (one_named d _ _ q.0.2 p.1.1)) q.0.3 p.1.2)
IsWrong-one index d f g (inr (inr p)) (inl q) = absurd (cc (q.1, p.0.2))
IsWrong-one index d f g (inr (inr p)) (inr (inl q)) =
    absurd (good_or_bad p.0.0.2 q.1.0.2 p.0.1 q.0 (ap (λ (n : Named). n.2) (one_named d _ _ p.0.2 q.1.1)) p.0.3 q.1.2)
IsWrong-one index d f g (inr (inr p)) (inr (inr q)) = p.1 ∙ sym q.1

-- the item at the front of items
one_item : (ds : Items) (d e : Data) (more rest : Items) → ds ≡ item d more → ds ≡ item e rest → (d ≡ e) × (more ≡ rest)
one_item ds d e more rest p q = let same : item d more ≡ item e rest = sym p ∙ q in (cc same, cc same)

NextAdvisory-one : (s : ℕ × Items) (a b : Advisory) (t u : ℕ × Items) → NextAdvisory s a t → NextAdvisory s b u → (a ≡ b) × (t ≡ u)
NextAdvisory-one s a b t u p q =
    let here = one_item s.1 p.0 q.0 t.1 u.1 p.1 q.1 in
    let index : t.0 ≡ u.0 = p.2 ∙ sym q.2 in
    (IsAdvisory-one p.0 a b p.3 (subst (λ d. IsAdvisory d b) (sym here.0) q.3), ap (λ (i : ℕ). (i, t.1)) index ∙ ap (λ (ds : Items). (u.0, ds)) here.1)

EndsList-one : (s : ℕ × Items) (f g : Option AdvisoryFault) → EndsList s f → EndsList s g → f ≡ g
EndsList-one s None None p q = refl
EndsList-one s None (Some g) p q = cc (p, q.2)
EndsList-one s (Some f) None p q = cc (q, p.2)
EndsList-one s (Some f) (Some g) p q =
    let here = one_item s.1 p.0 q.0 p.1 q.1 p.2 q.2 in
    ap Some (IsWrong-one s.0 p.0 f g p.3 (subst (λ d. IsWrong s.0 d g) (sym here.0) q.3))

EndsList-apart : (s : ℕ × Items) (a : Advisory) (t : ℕ × Items) (f : Option AdvisoryFault) → NextAdvisory s a t → EndsList s f → ⊥
EndsList-apart s a t None p e = cc (p.1, e)
EndsList-apart s a t (Some f) p e =
    let here = one_item s.1 p.0 e.0 t.1 e.1 p.1 e.2 in
    IsAdvisory-right s.0 p.0 a f p.3 (subst (λ d. IsWrong s.0 d f) (sym here.0) e.3)

one_list : (ds : Items) (xs ys : List Advisory) (f g : Option AdvisoryFault) → ReadsList ds xs f → ReadsList ds ys g → (xs ≡ ys) × (f ≡ g)
one_list ds = one_reading NextAdvisory EndsList NextAdvisory-one EndsList-one EndsList-apart (0, ds)

-- the same, where the items of one file are named twice
one_file : (bytes : List ℕ) (ds es : Items) (xs ys : List Advisory) (f g : Option AdvisoryFault) → items_of bytes ≡ Ok ds → items_of bytes ≡ Ok es
    → ReadsList ds xs f → ReadsList es ys g → (xs ≡ ys) × (f ≡ g)
one_file bytes ds es xs ys f g p q r s = let same : ds ≡ es = cc (p, q) in one_list ds xs ys f g r (subst (λ z. ReadsList z ys g) (sym same) s)

good_or_fault : (bytes : List ℕ) (xs : List Advisory) (f : AdvisoryFault) → SpellsAdvisories bytes xs → IsFault bytes f → ⊥
good_or_fault bytes xs f p (inl q) = cc (p.1, q)
good_or_fault bytes xs f p (inr q) = let same = one_file bytes p.0 q.0 xs q.1 None (Some f) p.1 q.2 p.2 q.3 in cc (same.1)

pub IsFault-one : (bytes : List ℕ) (f g : AdvisoryFault) → IsFault bytes f → IsFault bytes g → f ≡ g
IsFault-one bytes f g (inl p) (inl q) = cc (p, q)
IsFault-one bytes f g (inl p) (inr q) = absurd (cc (p, q.2))
IsFault-one bytes f g (inr p) (inl q) = absurd (cc (q, p.2))
IsFault-one bytes f g (inr p) (inr q) = let same = one_file bytes p.0 q.0 p.1 q.1 (Some f) (Some g) p.2 q.2 p.3 q.3 in cc (same.1)

-- so an answer that is right where it is one is the only one, want of memory aside
pub only_list : (bytes : List ℕ) (r : Result (List Advisory) AdvisoryFault) → IfOk r (SpellsAdvisories bytes)
    → IfErr r (λ f. (f ≡ fault.OutOfMemory) ⊎ IsFault bytes f) → (expected : List Advisory) → SpellsAdvisories bytes expected → Gives r expected
only_list bytes (Ok xs) p q expected h = (one_file bytes p.0 h.0 xs expected None None p.1 h.1 p.2 h.2).0
only_list bytes (Err f) p (inl memory) expected h = memory
only_list bytes (Err f) p (inr wrong) expected h = absurd (good_or_fault bytes expected f h wrong)

pub only_fault : (bytes : List ℕ) (r : Result (List Advisory) AdvisoryFault) → IfOk r (SpellsAdvisories bytes)
    → IfErr r (λ f. (f ≡ fault.OutOfMemory) ⊎ IsFault bytes f) → (expected : AdvisoryFault) → IsFault bytes expected → FailsWith r expected
only_fault bytes (Ok xs) p q expected h = good_or_fault bytes xs expected p h
only_fault bytes (Err f) p (inl memory) expected h = inl memory
only_fault bytes (Err f) p (inr wrong) expected h = inr (IsFault-one bytes f expected wrong h)
