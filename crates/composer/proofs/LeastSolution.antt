-- The solution is the least assignment that is closed under the rules.
use Rattle.std.proofs.Common.{◌≡◌, ℕ, zero, suc, ◌+◌, subst, arith}
use Rattle.composer.specs.declared.system.Arrow.{Arrow}
use Rattle.composer.specs.declared.system.System.{System}
use Rattle.composer.specs.Solution.{Reason, Derives, InSolution, IsClosed}
use Rattle.composer.specs.Solution.Reason.{flow, call, native, callback}
use Rattle.composer.specs.Solution.OneStepOn.{before, base, along}

-- a reason stays where more values stand
pub Reason-more : {V T : Type 0} (a : System V T) (X Y : T → V → Type 0) → ((t : T) (v : V) → X t v → Y t v) → (arrow : Arrow V) → Reason a X arrow → Reason a Y arrow
Reason-more a X Y more arrow (flow h) = flow h
Reason-more a X Y more arrow (call s f hs hf x h) = call s f hs hf (more f.value s.callee x) h
Reason-more a X Y more arrow (native s hs x h) = native s hs (more a.native s.callee x) h
Reason-more a X Y more arrow (callback s g w hs hg hw x y h) = callback s g w hs hg hw (more a.native s.callee x) (more g.value w y) h

-- a derivation within n steps is one within more steps
pub Derives-more : {V T : Type 0} (a : System V T) (n k : ℕ) (t : T) (v : V) → Derives a n t v → Derives a (k + n) t v
Derives-more a n zero t v h = let e : n ≡ zero + n = omega arith in subst (λ m. Derives a m t v) e h
Derives-more a n (suc k) t v h = let e : suc (k + n) ≡ suc k + n = omega arith in subst (λ m. Derives a m t v) e (before (Derives-more a n k t v h))

pub Derives-more_left : {V T : Type 0} (a : System V T) (n k : ℕ) (t : T) (v : V) → Derives a n t v → Derives a (n + k) t v
Derives-more_left a n k t v h = let e : k + n ≡ n + k = omega arith in subst (λ m. Derives a m t v) e (Derives-more a n k t v h)

-- each closed assignment has what is derived within n steps
pub least : {V T : Type 0} (a : System V T) (X : T → V → Type 0) → IsClosed a X → (n : ℕ) (t : T) (v : V) → Derives a n t v → X t v
least a X closed zero t v h = absurd h
least a X closed (suc n) t v (before h) = least a X closed n t v h
least a X closed (suc n) t v (base h) = closed.bases t v h
least a X closed (suc n) t v (along u h r) =
    closed.steps t u v (least a X closed n t u h) (Reason-more a (Derives a n) X (λ x w p. least a X closed n x w p) _ r)

-- a reason by values of the solution is one by what is derived within some number of steps
pub Reason-bounded : {V T : Type 0} (a : System V T) (arrow : Arrow V) → Reason a (InSolution a) arrow → (n : ℕ) × Reason a (Derives a n) arrow
Reason-bounded a arrow (flow h) = (0, flow h)
Reason-bounded a arrow (call s f hs hf x h) = (x.0, call s f hs hf x.1 h)
Reason-bounded a arrow (native s hs x h) = (x.0, native s hs x.1 h)
Reason-bounded a arrow (callback s g w hs hg hw x y h) =
    (y.0 + x.0, callback s g w hs hg hw (Derives-more a x.0 y.0 _ _ x.1) (Derives-more_left a y.0 x.0 _ _ y.1) h)

-- the solution has the bases and keeps the rules
pub solution_closed : {V T : Type 0} (a : System V T) → IsClosed a (InSolution a)
solution_closed a = record {
  bases = λ t v h. (1, base h);
  steps = λ t u v h r.
      let b = Reason-bounded a _ r in (
        suc (b.0 + h.0),
        along u (Derives-more a h.0 b.0 t u h.1)
            (Reason-more a (Derives a b.0) (Derives a (b.0 + h.0)) (λ x w p. Derives-more_left a b.0 h.0 x w p) _ b.1),
      );
}
