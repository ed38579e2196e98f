-- The ways of a numbered system are what there is a reason for, and stay below the count of its vertices.
use Rattle.std.proofs.Common.{◌≡◌, ℕ, ◌<◌, ◌≤◌, inl, inr, List, [], ◌∷◌, ◌++◌, length, get_or, refl, ap, sym, ◌∙◌, subst, arith, Option, Some, None}
use Rattle.std.specs.Prelude.{Contains, All, flat_map, slice_get}
use Rattle.std.proofs.lemmas.List.Elements.{All-contains, All-append, All-cons, All-nil, All-head, All-tail, Contains-append_cases, Contains-append_left, Contains-append_right}
use Rattle.std.proofs.lemmas.Option.{slice_get-get_or, slice_get_past, slice_get_cases}
use Rattle.composer.proofs.Members.{none, from_flat_map, into_flat_map}
use Rattle.composer.specs.declared.system.Arrow.{Arrow}
use Rattle.composer.specs.declared.system.Callable.{Callable}
use Rattle.composer.specs.declared.system.CallSite.{CallSite}
use Rattle.composer.specs.declared.system.System.{System}
use Rattle.composer.specs.Numbered.{IsSiteIn, IsCallableIn, IsArrowIn, IsSystemIn, HasValues}
use Rattle.composer.specs.Solution.{IsBase, Reason, InSolution, Has}
use Rattle.composer.specs.Solution.IsBase.{literal, native as native_base}
use Rattle.composer.specs.Solution.Reason.{flow, call, native, callback}
use Rattle.composer.specs.Steps.{into_params, to_each, receivers, inputs, call_arrows, native_arrows, callback_arrows}
use Rattle.composer.specs.Ways.{Stands, all_ways, called_ways, callback_ways, input_ways, site_ways, stands}
use Rattle.composer.proofs.LeastSolution.{least}
use Rattle.composer.proofs.RowLemmas.{member_from_in, in_from_member}

one_in : {X : Type 0} (Q : X → Type 0) (x : X) → Q x → All Q (x ∷ [])
one_in Q x q = All-cons Q x [] q (All-nil Q)

module _ {V : Type 0} (P : V → Type 0) where
  into_params_in : (args params : List V) (rest : V) → All P args → All P params → P rest → All (IsArrowIn P) (into_params args params rest)
  into_params_in [] params rest pa pp pr = All-nil (IsArrowIn P)
  into_params_in (a ∷ args) [] rest pa pp pr = All-cons (IsArrowIn P) _ _ (All-head P a args pa, pr) (into_params_in args [] rest (All-tail P a args pa) pp pr)
  into_params_in (a ∷ args) (p ∷ params) rest pa pp pr = All-cons (IsArrowIn P) _ _ (All-head P a args pa, All-head P p params pp) (into_params_in args params rest (All-tail P a args pa) (All-tail P p params pp) pr)

  to_each_in : (from : V) (vs : List V) → P from → All P vs → All (IsArrowIn P) (to_each from vs)
  to_each_in from [] lt p = All-nil (IsArrowIn P)
  to_each_in from (v ∷ vs) lt p = All-cons (IsArrowIn P) _ _ (lt, All-head P v vs p) (to_each_in from vs lt (All-tail P v vs p))

  receivers_in : {T : Type 0} (f : Callable V T) → IsCallableIn P f → All P (receivers f)
  receivers_in f p = All-append P f.params (f.rest ∷ []) p.params (one_in P f.rest p.rest)

  pub inputs_in : (s : CallSite V) → IsSiteIn P s → All P (inputs s)
  inputs_in s p = All-append P s.args (s.more ∷ []) p.args (one_in P s.more p.more)

  call_in : {T : Type 0} (s : CallSite V) (f : Callable V T) → IsSiteIn P s → IsCallableIn P f → All (IsArrowIn P) (call_arrows s f)
  call_in s f p q = All-append (IsArrowIn P) (into_params s.args f.params f.rest ++ to_each s.more (receivers f)) _ (All-append (IsArrowIn P) (into_params s.args f.params f.rest) _ (into_params_in s.args f.params f.rest p.args q.params q.rest) (to_each_in s.more (receivers f) p.more (receivers_in f q)))
      (one_in (IsArrowIn P) _ (q.ret, p.res))

  callback_in : {T : Type 0} (elem : V) (s : CallSite V) (f : Callable V T) → P elem → IsSiteIn P s → IsCallableIn P f → All (IsArrowIn P) (callback_arrows elem s f)
  callback_in elem s f e p q = All-append (IsArrowIn P) (to_each s.recv (receivers f) ++ to_each elem (receivers f)) _ (All-append (IsArrowIn P) (to_each s.recv (receivers f)) _ (to_each_in s.recv (receivers f) p.recv (receivers_in f q)) (to_each_in elem (receivers f) e (receivers_in f q)))
      (one_in (IsArrowIn P) _ (q.ret, p.res))

  -- a way that there is a reason for joins vertices of the system
  pub reason_in : {T : Type 0} (a : System V T) (X : T → V → Type 0) (arrow : Arrow V) → IsSystemIn P a → Reason a X arrow → IsArrowIn P arrow
  reason_in a X arrow w (flow h) = All-contains (IsArrowIn P) a.flows arrow w.flows h
  reason_in a X arrow w (call s f hs hf x h) = All-contains (IsArrowIn P) (call_arrows s f) arrow (call_in s f (All-contains (IsSiteIn P) a.sites s w.sites hs) (All-contains (IsCallableIn P) a.functions f w.functions hf)) h
  reason_in a X arrow w (native s hs x h) = let p = All-contains (IsSiteIn P) a.sites s w.sites hs in All-contains (IsArrowIn P) (native_arrows s) arrow (one_in (IsArrowIn P) _ (p.recv, p.res)) h
  reason_in a X arrow w (callback s g u hs hg hu x y h) = All-contains (IsArrowIn P) (callback_arrows a.elem s g) arrow (callback_in a.elem s g w.elem (All-contains (IsSiteIn P) a.sites s w.sites hs) (All-contains (IsCallableIn P) a.functions g w.functions hg)) h

  -- and what is in the solution is one of its values at one of its vertices
  pub solution_in : {T : Type 0} (Q : T → Type 0) (a : System V T) → IsSystemIn P a → ((f : Callable V T) → Contains a.functions f → Q f.value) → Q a.native → (t : T) (v : V) → InSolution a t v → Q t × P v
  solution_in {T} Q a w values last t v h = least a (λ t v. Q t × P v) (record {
    bases = bases;
    steps = λ t u v p r. (p.0, (reason_in a (λ t v. Q t × P v) _ w r).1);
  }) h.0 t v h.1
    where
      bases : (t : T) (v : V) → IsBase a t v → Q t × P v
      bases t v (literal f c e g) = (subst Q e (values f c), subst P g (All-contains (IsCallableIn P) a.functions f w.functions c).literal)
      bases t v (native_base e c) = (subst Q (sym e) last, All-contains P a.native_at v w.native_at c)

module _ (a : System ℕ ℕ) (values : HasValues a) where
  -- the function of a value
  pub value_is_place : (f : Callable ℕ ℕ) → Contains a.functions f → (slice_get a.functions f.value ≡ Some f) × (f.value < length a.functions)
  value_is_place f (k, lt, e) =
      let is : f.value ≡ k = subst (λ (g : Callable ℕ ℕ). g.value ≡ k) e (values.values k f lt) in
      (ap (λ x. slice_get a.functions x) is ∙ slice_get-get_or a.functions k f lt ∙ ap Some e, subst (λ x. x < length a.functions) (sym is) lt)

  pub values_upto : (f : Callable ℕ ℕ) → Contains a.functions f → f.value ≤ a.native
  values_upto f c = omega (arith, (value_is_place f c).1, values.native)

  pub native_has_none : slice_get a.functions a.native ≡ None
  native_has_none = slice_get_past a.functions a.native (omega (arith, values.native))

  function_at : (t : ℕ) (f : Callable ℕ ℕ) → slice_get a.functions t ≡ Some f → Contains a.functions f × (f.value ≡ t)
  function_at t f e = elim (slice_get_cases a.functions t).1 [
    | inl (x, lt, g, at) ↦ (let same : x ≡ f = some_one x f (sym g ∙ e) in
        let is : get_or a.functions t f ≡ f = subst (λ y. get_or a.functions t y ≡ y) same at in
        ((t, lt, is), subst (λ (y : Callable ℕ ℕ). y.value ≡ t) is (values.values t f lt)))
    | inr (past, g) ↦ absurd (let k : None ≡ Some f = sym g ∙ e in cc)
  ]
    where
      some_one : (x y : Callable ℕ ℕ) → Some x ≡ Some y → x ≡ y
      some_one x y h = cc h

  pub none_is_native : (t : ℕ) → t ≤ a.native → slice_get a.functions t ≡ None → t ≡ a.native
  none_is_native t le e = elim (slice_get_cases a.functions t).1 [
    | inl (x, lt, g, at) ↦ absurd (let k : None ≡ Some x = sym e ∙ g in cc)
    | inr (past, g) ↦ omega (arith, past, le, values.native)
  ]

  module _ (at : ℕ → List ℕ) (bound : (t v : ℕ) → Stands at t v → t ≤ a.native) where
    held : (v t : ℕ) → Contains (at v) t → Stands at t v
    held v t c = in_from_member t (at v) c

    -- a way has a reason
    pub reason_from_ways : (arrow : Arrow ℕ) → Contains (all_ways a at) arrow → Reason a (Has (stands at)) arrow
    reason_from_ways arrow h = elim (Contains-append_cases a.flows (flat_map (site_ways a at) a.sites) arrow h) [
      | inl g ↦ flow g
      | inr g ↦ (let p = from_flat_map (site_ways a at) a.sites arrow g in
          let q = from_flat_map (λ t. called_ways a at p.0 (slice_get a.functions t)) (at p.0.callee) arrow p.2 in
          called p.0 p.1 q.0 (held p.0.callee q.0 q.1) (slice_get a.functions q.0) refl q.2)
    ]
      where
        handed : (s : CallSite ℕ) → Contains a.sites s → Stands at a.native s.callee → (w : ℕ) → Contains (inputs s) w → (t : ℕ) → Stands at t w → (o : Option (Callable ℕ ℕ)) → slice_get a.functions t ≡ o → Contains (callback_ways a.elem s o) arrow → Reason a (Has (stands at)) arrow
        handed s c x w cw t y None e i = absurd (none arrow i)
        handed s c x w cw t y (Some g) e i = let f = function_at t g e in callback s g w c f.0 cw x (subst (λ k. Stands at k w) (sym f.1) y) i

        called : (s : CallSite ℕ) → Contains a.sites s → (t : ℕ) → Stands at t s.callee → (o : Option (Callable ℕ ℕ)) → slice_get a.functions t ≡ o → Contains (called_ways a at s o) arrow → Reason a (Has (stands at)) arrow
        called s c t x (Some f) e i = let g = function_at t f e in call s f c g.0 (subst (λ k. Stands at k s.callee) (sym g.1) x) i
        called s c t x None e i =
            let at_native : Stands at a.native s.callee = subst (λ k. Stands at k s.callee) (none_is_native t (bound t s.callee x) e) x in
            elim (Contains-append_cases (native_arrows s) (flat_map (input_ways a at s) (inputs s)) arrow i) [
              | inl j ↦ native s c at_native j
              | inr j ↦ (let p = from_flat_map (input_ways a at s) (inputs s) arrow j in
                  let q = from_flat_map (λ t. callback_ways a.elem s (slice_get a.functions t)) (at p.0) arrow p.2 in
                  handed s c at_native p.0 p.1 q.0 (held p.0 q.0 q.1) (slice_get a.functions q.0) refl q.2)
            ]

    at_site : (s : CallSite ℕ) (t : ℕ) (o : Option (Callable ℕ ℕ)) (arrow : Arrow ℕ) → Contains a.sites s → Stands at t s.callee → slice_get a.functions t ≡ o → Contains (called_ways a at s o) arrow → Contains (all_ways a at) arrow
    at_site s t o arrow c x e i = Contains-append_right a.flows _ arrow (into_flat_map (site_ways a at) a.sites s arrow c
        (into_flat_map (λ t. called_ways a at s (slice_get a.functions t)) (at s.callee) t arrow (member_from_in t (at s.callee) x) (subst (λ p. Contains (called_ways a at s p) arrow) (sym e) i)))

    -- and each reason makes a way
    pub ways_from_reason : (arrow : Arrow ℕ) → Reason a (Has (stands at)) arrow → Contains (all_ways a at) arrow
    ways_from_reason arrow (flow h) = Contains-append_left a.flows _ arrow h
    ways_from_reason arrow (call s f hs hf x h) = at_site s f.value (Some f) arrow hs x (value_is_place f hf).0 h
    ways_from_reason arrow (native s hs x h) = at_site s a.native None arrow hs x native_has_none (Contains-append_left (native_arrows s) _ arrow h)
    ways_from_reason arrow (callback s g w hs hg hw x y h) = at_site s a.native None arrow hs x native_has_none (Contains-append_right (native_arrows s) (flat_map (input_ways a at s) (inputs s)) arrow
        (into_flat_map (input_ways a at s) (inputs s) w arrow hw (into_flat_map (λ t. callback_ways a.elem s (slice_get a.functions t)) (at w) g.value arrow (member_from_in g.value (at w) y)
        (subst (λ p. Contains (callback_ways a.elem s p) arrow) (sym (value_is_place g hg).0) h))))
