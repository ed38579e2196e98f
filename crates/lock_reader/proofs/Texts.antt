-- What follows one text in another, by what std's searches say.
use Rattle.std.proofs.Common.{◌≡◌, ◌≢◌, ℕ, suc, zero, ◌<◌, ◌≤◌, List, [], ◌∷◌, ◌++◌, length, drop, Some, None, Option, refl, sym, ap, ◌∙◌, eq-eqb, arith, inl, inr}
use Rattle.std.proofs.lemmas.Bool.{cases_Bool, eqb-true}
use Rattle.std.specs.Prelude.{◌==◌}
use Rattle.std.specs.Borrow.{Bor}
use Rattle.std.specs.Option.{MatchOption, option_map}
use Rattle.std.specs.Str.Pattern.{FindsTextPrefix, HasTextAt, LacksTextAt, StripsPrefix}
use Rattle.lock_reader.specs.Texts.{after_front, after_last}

pub after_front-some : (front rest : List ℕ) → after_front front (front ++ rest) ≡ Some rest
unfolding after_front
after_front-some [] rest = refl
after_front-some (b ∷ front) rest = rw (eq-eqb b b refl, after_front-some front rest) refl

pub after_front-none : (front text : List ℕ) → ((rest : List ℕ) → text ≢ front ++ rest) → after_front front text ≡ None
unfolding after_front
after_front-none [] text h = absurd (h text refl)
after_front-none (b ∷ front) [] h = refl
after_front-none (b ∷ front) (c ∷ text) h = elim (cases_Bool (b == c)) [
  | inl same ↦ let e = eqb-true b c same in rw (same, after_front-none front text (λ rest f. h rest (cc))) refl
  | inr other ↦ rw other refl
]

-- a text in which the mark stands nowhere
pub after_last-none : (mark text : List ℕ) → ((k : ℕ) → k ≤ length text → LacksTextAt mark text k) → after_last mark text ≡ None
unfolding after_last
after_last-none mark [] h = refl
after_last-none mark (b ∷ text) h =
    rw (after_last-none mark text (λ k l. h (suc k) (omega arith)), after_front-none mark (b ∷ text) (h zero (omega arith))) refl

-- a text in which it last stands at i
pub after_last-some : (b : ℕ) (mark text rest : List ℕ) (i : ℕ) → drop i text ≡ (b ∷ mark) ++ rest
    → ((k : ℕ) → i < k → k ≤ length text → LacksTextAt (b ∷ mark) text k) → after_last (b ∷ mark) text ≡ Some rest
unfolding after_last
after_last-some b mark [] rest zero e h = cc e
after_last-some b mark [] rest (suc i) e h = cc e
after_last-some b mark (c ∷ text) rest zero e h =
    rw (after_last-none (b ∷ mark) text (λ k l. h (suc k) (omega arith) (omega arith)), e) (after_front-some (b ∷ mark) rest)
after_last-some b mark (c ∷ text) rest (suc i) e h =
    rw (after_last-some b mark text rest i e (λ k l m. h (suc k) (omega arith) (omega arith))) refl

-- the clause of `strip_prefix` at a text
pub after_front-stripped : (front text : List ℕ) (r : Option (Bor (List ℕ)))
    → MatchOption r (FindsTextPrefix front text None) (λ x. StripsPrefix (FindsTextPrefix front) text x.now)
    → option_map (λ rest. rest.now) r ≡ after_front front text
after_front-stripped front text None h = sym (after_front-none front text h)
after_front-stripped front text (Some x) h =
    let parts : text ≡ front ++ drop h.0 text = h.1.1 in
    ap Some h.2 ∙ sym (ap (after_front front) parts ∙ after_front-some front (drop h.0 text))

-- the clause of `rsplit_once` at a text, whose first byte is b
pub after_last-split : (b : ℕ) (mark text : List ℕ) (i j : ℕ) → ((k : ℕ) → i < k → k ≤ length text → LacksTextAt (b ∷ mark) text k)
    → HasTextAt (b ∷ mark) text i j → after_last (b ∷ mark) text ≡ Some (drop j text)
after_last-split b mark text i j lacks has = after_last-some b mark text (drop j text) i has.split lacks
