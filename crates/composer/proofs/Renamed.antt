-- A system with other vertices and values has the same solution, where different numbers stand for different ones.
use Rattle.std.proofs.Common.{◌≡◌, ℕ, ◌<◌, ◌≤◌, List, [], ◌∷◌, ◌++◌, map, refl, ap, sym, ◌∙◌, subst, arith}
use Rattle.std.specs.Prelude.{Contains}
use Rattle.std.proofs.lemmas.List.{map-append}
use Rattle.std.proofs.lemmas.List.Elements.{All-contains}
use Rattle.composer.proofs.Members.{from_map, into_map}
use Rattle.composer.specs.declared.system.Arrow.{Arrow}
use Rattle.composer.specs.declared.system.Callable.{Callable}
use Rattle.composer.specs.declared.system.CallSite.{CallSite}
use Rattle.composer.specs.declared.system.System.{System}
use Rattle.composer.specs.Numbered.{IsSiteIn, IsSystemIn, HasValues, Below, map_arrow, map_callable, map_site, map_system}
use Rattle.composer.specs.Solution.{IsBase, Reason, InSolution}
use Rattle.composer.specs.Solution.IsBase.{literal, native as native_base}
use Rattle.composer.specs.Solution.Reason.{flow, call, native, callback}
use Rattle.composer.specs.Solution.OneStepOn.{base}
use Rattle.composer.specs.Steps.{into_params, to_each, receivers, inputs, call_arrows, native_arrows, callback_arrows}
use Rattle.composer.proofs.LeastSolution.{least, solution_closed}
use Rattle.composer.proofs.WayLemmas.{reason_in, solution_in, inputs_in, values_upto}

module _ {V W : Type 0} (f : V → W) where
  params-map : (args params : List V) (rest : V) → into_params (map f args) (map f params) (f rest) ≡ map (map_arrow f) (into_params args params rest)
  params-map [] params rest = refl
  params-map (a ∷ args) [] rest = ap (λ xs. record { from = f a; to = f rest } ∷ xs) (params-map args [] rest)
  params-map (a ∷ args) (p ∷ params) rest = ap (λ xs. record { from = f a; to = f p } ∷ xs) (params-map args params rest)

  each-map : (from : V) (vs : List V) → to_each (f from) (map f vs) ≡ map (map_arrow f) (to_each from vs)
  each-map from [] = refl
  each-map from (v ∷ vs) = ap (λ xs. record { from = f from; to = f v } ∷ xs) (each-map from vs)

  pub inputs-map : (s : CallSite V) → inputs (map_site f s) ≡ map f (inputs s)
  inputs-map s = sym (map-append f s.args (s.more ∷ []))

module _ {V W T S : Type 0} (f : V → W) (e : T → S) where
  receivers-map : (g : Callable V T) → receivers (map_callable f e g) ≡ map f (receivers g)
  receivers-map g = sym (map-append f g.params (g.rest ∷ []))

  pub calls-map : (s : CallSite V) (g : Callable V T) → call_arrows (map_site f s) (map_callable f e g) ≡ map (map_arrow f) (call_arrows s g)
  calls-map s g =
      ap (λ xs. xs ++ to_each (f s.more) (receivers (map_callable f e g)) ++ record { from = f g.ret; to = f s.res } ∷ []) (params-map f s.args g.params g.rest)
      ∙ ap (λ vs. map (map_arrow f) (into_params s.args g.params g.rest) ++ to_each (f s.more) vs ++ record { from = f g.ret; to = f s.res } ∷ []) (receivers-map g)
      ∙ ap (λ xs. map (map_arrow f) (into_params s.args g.params g.rest) ++ xs ++ record { from = f g.ret; to = f s.res } ∷ []) (each-map f s.more (receivers g))
      ∙ sym (map-append (map_arrow f) (into_params s.args g.params g.rest ++ to_each s.more (receivers g)) (record { from = g.ret; to = s.res } ∷ [])
      ∙ ap (λ xs. xs ++ record { from = f g.ret; to = f s.res } ∷ []) (map-append (map_arrow f) (into_params s.args g.params g.rest) (to_each s.more (receivers g))))

  pub callbacks-map : (elem : V) (s : CallSite V) (g : Callable V T) → callback_arrows (f elem) (map_site f s) (map_callable f e g) ≡ map (map_arrow f) (callback_arrows elem s g)
  callbacks-map elem s g =
      ap (λ vs. to_each (f s.recv) vs ++ to_each (f elem) vs ++ record { from = f g.ret; to = f s.res } ∷ []) (receivers-map g)
      ∙ ap (λ xs. xs ++ to_each (f elem) (map f (receivers g)) ++ record { from = f g.ret; to = f s.res } ∷ []) (each-map f s.recv (receivers g))
      ∙ ap (λ xs. map (map_arrow f) (to_each s.recv (receivers g)) ++ xs ++ record { from = f g.ret; to = f s.res } ∷ []) (each-map f elem (receivers g))
      ∙ sym (map-append (map_arrow f) (to_each s.recv (receivers g) ++ to_each elem (receivers g)) (record { from = g.ret; to = s.res } ∷ [])
      ∙ ap (λ xs. xs ++ record { from = f g.ret; to = f s.res } ∷ []) (map-append (map_arrow f) (to_each s.recv (receivers g)) (to_each elem (receivers g))))

  -- a reason under the other names
  renamed_reason : (a : System V T) (arrow : Arrow V) → Reason a (λ t v. InSolution (map_system f e a) (e t) (f v)) arrow → Reason (map_system f e a) (InSolution (map_system f e a)) (map_arrow f arrow)
  renamed_reason a arrow (flow h) = flow (into_map (map_arrow f) a.flows arrow h)
  renamed_reason a arrow (call s g hs hg x h) = call (map_site f s) (map_callable f e g) (into_map (map_site f) a.sites s hs) (into_map (map_callable f e) a.functions g hg) x
      (subst (λ xs. Contains xs (map_arrow f arrow)) (sym (calls-map s g)) (into_map (map_arrow f) (call_arrows s g) arrow h))
  renamed_reason a arrow (native s hs x h) = native (map_site f s) (into_map (map_site f) a.sites s hs) x (into_map (map_arrow f) (native_arrows s) arrow h)
  renamed_reason a arrow (callback s g w hs hg hw x y h) = callback (map_site f s) (map_callable f e g) (f w) (into_map (map_site f) a.sites s hs) (into_map (map_callable f e) a.functions g hg)
      (subst (λ vs. Contains vs (f w)) (map-append f s.args (s.more ∷ [])) (into_map f (inputs s) w hw)) x y
      (subst (λ xs. Contains xs (map_arrow f arrow)) (sym (callbacks-map a.elem s g)) (into_map (map_arrow f) (callback_arrows a.elem s g) arrow h))

  -- what is in the solution is in it under the other names
  pub renamed_has : (a : System V T) (t : T) (v : V) → InSolution a t v → InSolution (map_system f e a) (e t) (f v)
  renamed_has a t v h = least a (λ t v. InSolution (map_system f e a) (e t) (f v)) (record {
    bases = bases;
    steps = λ t u v p r. (solution_closed (map_system f e a)).steps (e t) (f u) (f v) p (renamed_reason a _ r);
  }) h.0 t v h.1
    where
      bases : (t : T) (v : V) → IsBase a t v → InSolution (map_system f e a) (e t) (f v)
      bases t v (literal g c k at) = (1, base (literal (map_callable f e g) (into_map (map_callable f e) a.functions g c) (ap e k) (ap f at)))
      bases t v (native_base k c) = (1, base (native_base (ap e k) (into_map f a.native_at v c)))

-- and the other way round, for numbers below the bounds
module _ {W S : Type 0} (f : ℕ → W) (e : ℕ → S) (n : ℕ) (a : System ℕ ℕ) (w : IsSystemIn (Below n) a) (values : HasValues a) (one : (x y : ℕ) → x < n → y < n → f x ≡ f y → x ≡ y) (one_value : (x y : ℕ) → x ≤ a.native → y ≤ a.native → e x ≡ e y → x ≡ y) where
  -- the numbers that stand for a value and a vertex, of which the one is at the other
  abbrev pub Old : S → W → Type 0
  Old s v = (k : ℕ) × (m : ℕ) × (e k ≡ s) × (f m ≡ v) × InSolution a k m

  pub bounds : (k m : ℕ) → InSolution a k m → (k ≤ a.native) × (m < n)
  bounds k m h = solution_in (Below n) (λ t. t ≤ a.native) a w (values_upto a values) (omega arith) k m h

  at_old : (k m : ℕ) → k ≤ a.native → m < n → Old (e k) (f m) → InSolution a k m
  at_old k m lk lm (j, i, ej, fi, h) =
      let b = bounds j i h in
      subst (λ x. InSolution a x m) (one_value j k b.0 lk ej) (subst (λ x. InSolution a j x) (one i m b.1 lm fi) h)

  site_below : (s : CallSite ℕ) → Contains a.sites s → IsSiteIn (Below n) s
  site_below s c = All-contains (IsSiteIn (Below n)) a.sites s w.sites c

  back : (arrow' : Arrow W) → Reason (map_system f e a) Old arrow' → (arrow : Arrow ℕ) × Reason a (InSolution a) arrow × (map_arrow f arrow ≡ arrow')
  back arrow' (flow h) = let p = from_map (map_arrow f) a.flows arrow' h in (p.0, flow p.1, p.2)
  back arrow' (call s' g' hs hg x h) =
      let s = from_map (map_site f) a.sites s' hs in
      let g = from_map (map_callable f e) a.functions g' hg in
      let h1 : Contains (call_arrows (map_site f s.0) (map_callable f e g.0)) arrow' = subst (λ y. Contains (call_arrows y (map_callable f e g.0)) arrow') (sym s.2) (subst (λ y. Contains (call_arrows s' y) arrow') (sym g.2) h) in
      let x1 : Old (e g.0.value) (f s.0.callee) = subst (λ (y : CallSite W). Old (e g.0.value) y.callee) (sym s.2) (subst (λ (y : Callable W S). Old y.value s'.callee) (sym g.2) x) in
      let p = from_map (map_arrow f) (call_arrows s.0 g.0) arrow' (subst (λ xs. Contains xs arrow') (calls-map f e s.0 g.0) h1) in
      (p.0, call s.0 g.0 s.1 g.1 (at_old g.0.value s.0.callee (values_upto a values g.0 g.1) (site_below s.0 s.1).callee x1) p.1, p.2)
  back arrow' (native s' hs x h) =
      let s = from_map (map_site f) a.sites s' hs in
      let h1 : Contains (native_arrows (map_site f s.0)) arrow' = subst (λ y. Contains (native_arrows y) arrow') (sym s.2) h in
      let x1 : Old (e a.native) (f s.0.callee) = subst (λ (y : CallSite W). Old (e a.native) y.callee) (sym s.2) x in
      let p = from_map (map_arrow f) (native_arrows s.0) arrow' h1 in
      (p.0, native s.0 s.1 (at_old a.native s.0.callee (omega arith) (site_below s.0 s.1).callee x1) p.1, p.2)
  back arrow' (callback s' g' w' hs hg hw x y h) =
      let s = from_map (map_site f) a.sites s' hs in
      let g = from_map (map_callable f e) a.functions g' hg in
      let hw1 : Contains (inputs (map_site f s.0)) w' = subst (λ z. Contains (inputs z) w') (sym s.2) hw in
      let i = from_map f (inputs s.0) w' (subst (λ vs. Contains vs w') (inputs-map f s.0) hw1) in
      let h1 : Contains (callback_arrows (f a.elem) (map_site f s.0) (map_callable f e g.0)) arrow' = subst (λ z. Contains (callback_arrows (f a.elem) z (map_callable f e g.0)) arrow') (sym s.2) (subst (λ z. Contains (callback_arrows (f a.elem) s' z) arrow') (sym g.2) h) in
      let x1 : Old (e a.native) (f s.0.callee) = subst (λ (z : CallSite W). Old (e a.native) z.callee) (sym s.2) x in
      let y1 : Old (e g.0.value) (f i.0) = subst (λ z. Old (e g.0.value) z) (sym i.2) (subst (λ (z : Callable W S). Old z.value w') (sym g.2) y) in
      let p = from_map (map_arrow f) (callback_arrows a.elem s.0 g.0) arrow' (subst (λ xs. Contains xs arrow') (callbacks-map f e a.elem s.0 g.0) h1) in
      let input_below = All-contains (Below n) (inputs s.0) i.0 (inputs_in (Below n) s.0 (site_below s.0 s.1)) i.1 in
      (p.0, callback s.0 g.0 i.0 s.1 g.1 i.1 (at_old a.native s.0.callee (omega arith) (site_below s.0 s.1).callee x1) (at_old g.0.value i.0 (values_upto a values g.0 g.1) input_below y1) p.1, p.2)

  -- what is in the solution under the other names comes from numbers
  pub renamed_only : (s : S) (v : W) → InSolution (map_system f e a) s v → Old s v
  renamed_only s v h = least (map_system f e a) Old (record { bases = bases; steps = steps }) h.0 s v h.1
    where
      bases : (s : S) (v : W) → IsBase (map_system f e a) s v → Old s v
      bases s v (literal g' c k at) = let g = from_map (map_callable f e) a.functions g' c in
          (g.0.value, g.0.literal, ap (λ (y : Callable W S). y.value) g.2 ∙ k, ap (λ (y : Callable W S). y.literal) g.2 ∙ at, (1, base (literal g.0 g.1 refl refl)))
      bases s v (native_base k c) = let m = from_map f a.native_at v c in (a.native, m.0, sym k, m.2, (1, base (native_base refl m.1)))

      steps : (s : S) (u v : W) → Old s u → Reason (map_system f e a) Old (record { from = u; to = v }) → Old s v
      steps s u v (k, m, ek, fm, h) r =
          let q = back (record { from = u; to = v }) r in
          let arrow_in = reason_in (Below n) a (InSolution a) q.0 w q.1 in
          let same : m ≡ q.0.from = one m q.0.from (bounds k m h).1 arrow_in.0 (fm ∙ sym (ap (λ (x : Arrow W). x.from) q.2)) in
          (k, q.0.to, ek, ap (λ (x : Arrow W). x.to) q.2, (solution_closed a).steps k q.0.from q.0.to (subst (λ x. InSolution a k x) same h) q.1)
