-- What the vertices of a call's flows name is there.
use Rattle.std.proofs.Common.{◌≡◌, ℕ, suc, ◌+◌, ◌-◌, ◌≤◌, Bool, true, false, List, [], ◌∷◌, ◌++◌, refl, sym, subst, Option, Some, None, is_some, if◌then◌else◌, codes, arith}
use Rattle.std.specs.Prelude.{Contains}
use Rattle.std.specs.List.{AllByRecursion, flat_map}
use Rattle.std.specs.Str.{bytes_eq}
use Rattle.std.proofs.lemmas.Bool.Decides.{not_from_Decides}
use Rattle.std.proofs.lemmas.Slice.Eq.{bytes_eq-Decides}
use Rattle.js_tree.proofs.GatherLemmas.{each_both}
use Rattle.js_scopes.specs.declared.site.SiteInfo.{SiteInfo}
use Rattle.js_scopes.specs.Calls.{call_sites, is_reflected, passed_on, site_at}
use Rattle.flow_rules.specs.declared.arguments.Argument.{Argument}
use Rattle.flow_rules.specs.declared.arguments.Argument.TheVariants as argument
use Rattle.flow_rules.specs.declared.module.Flow.{Flow}
use Rattle.flow_rules.specs.declared.vertex.Vertex.{Vertex}
use Rattle.flow_rules.specs.declared.vertex.Vertex.TheVariants.{Elem, Callee, Arg, More, Recv, Res, Exp}
use Rattle.flow_rules.specs.Calls.{any_put_flows, argument_flows, behind_receiver, bound_flows, flow, handed_over, member_flows, more_flows, passed_flows, plain, puts_in, receiver_flows, reflected_flows, taken_flows}
use Rattle.flow_rules.specs.Requires.{call_requires}
use Rattle.flow_rules.specs.Constraints.{ModuleConstraints}
use Rattle.flow_rules.specs.Rules.{HasFunction, HasRequire, HasSite, IsFlow, IsNamed, IsSite}
use Rattle.flow_rules.specs.Values.{is_numbered, takes_out}
use Rattle.flow_rules.specs.Vertices.{vertex_key}
use Rattle.flow_rules.proofs.RowItems.{each_gives}

module _ {X : Type 0} (P : X → Type 0) where
  pub pick_some : (b : Bool) (xs : List X) → AllByRecursion P xs → AllByRecursion P (if b then xs else [])
  pick_some true xs a = a
  pick_some false xs a = tt

-- how many arguments have a place
abbrev pub places : List Argument → ℕ
places [] = 0
places (argument.Plain v ∷ args) = suc (places args)
places (argument.Spread ∷ args) = 0

-- in these lists of a module
module _ (lists : ModuleConstraints) where
  abbrev pub IsNamedIfAny : Option Vertex → Type 0
  IsNamedIfAny None = Unit {0}
  IsNamedIfAny (Some v) = IsNamed lists v

  pub flow_there : (u v : Option Vertex) → IsNamedIfAny u → IsNamedIfAny v → AllByRecursion (IsFlow lists) (flow u v)
  flow_there None v a b = tt
  flow_there (Some u) None a b = tt
  flow_there (Some u) (Some v) a b = by (bytes_eq (vertex_key u) (vertex_key v)) refl
    where
      by : (t : Bool) → bytes_eq (vertex_key u) (vertex_key v) ≡ t → AllByRecursion (IsFlow lists) (if t then [] else record { from = u; to = v } ∷ [])
      by true e = tt
      by false e = ((not_from_Decides (bytes_eq (vertex_key u) (vertex_key v)) (bytes_eq-Decides (vertex_key u) (vertex_key v)) e, a, b), tt)

  abbrev pub IsArgNamed : Argument → Type 0
  IsArgNamed (argument.Plain v) = IsNamedIfAny v
  IsArgNamed argument.Spread = Unit {0}

  handed_there : (a : Argument) → IsArgNamed a → IsNamedIfAny (handed_over a)
  handed_there (argument.Plain v) h = h
  handed_there argument.Spread h = tt

  plain_there : (a : Argument) → IsArgNamed a → IsNamedIfAny (plain a)
  plain_there (argument.Plain v) h = h
  plain_there argument.Spread h = tt

  -- values that come to the arguments of a site with as many
  more_there : (offset part : ℕ) → HasSite lists offset part → (args : List Argument) → AllByRecursion IsArgNamed args → AllByRecursion (IsFlow lists) (more_flows offset part args)
  more_there offset part m args h = each_gives IsArgNamed (IsFlow lists) (λ a. flow (handed_over a) (Some (More offset part))) (λ a k. flow_there (handed_over a) (Some (More offset part)) (handed_there a k) m) args h

  args_there : (offset part : ℕ) (s : SiteInfo) → Contains lists.sites s → s.offset ≡ offset → s.part ≡ part → (i : ℕ) (args : List Argument) → i + places args ≤ s.args → AllByRecursion IsArgNamed args
      → AllByRecursion (IsFlow lists) (argument_flows offset part i args)
  args_there offset part s m e p i [] le h = tt
  args_there offset part s m e p i (argument.Plain v ∷ args) le h =
      each_both (IsFlow lists) (flow v (Some (Arg offset part i))) (argument_flows offset part (i + 1) args)
      (flow_there v (Some (Arg offset part i)) h.0 (s, (m, e, p), omega (arith, le)))
      (args_there offset part s m e p (i + 1) args (omega (arith, le)) h.1)
  args_there offset part s m e p i (argument.Spread ∷ args) le h = more_there offset part (s, (m, e, p)) (argument.Spread ∷ args) h

  -- a site at an offset with arguments
  module _ (offset holder : ℕ) (args : List Argument) (each : AllByRecursion IsArgNamed args) where
    abbrev at : ℕ → ℕ → SiteInfo
    at part count = record { offset = offset; part = part; holder = holder; args = count }

    there_at : (part count : ℕ) → Contains lists.sites (at part count) → HasSite lists offset part
    there_at part count m = (at part count, (m, refl, refl))

    -- what is called and the arguments
    pub arguments_there : (callee : Option Vertex) → IsNamedIfAny callee → Contains lists.sites (at 0 (places args)) → AllByRecursion (IsFlow lists) (flow callee (Some (Callee offset 0)) ++ argument_flows offset 0 0 args)
    arguments_there callee h m =
        each_both (IsFlow lists) (flow callee (Some (Callee offset 0))) (argument_flows offset 0 0 args)
        (flow_there callee (Some (Callee offset 0)) h (there_at 0 (places args) m)) (args_there offset 0 (at 0 (places args)) m refl refl 0 args (omega arith) each)

    puts_there : (member : Option (List ℕ)) → AllByRecursion (IsFlow lists) (any_put_flows args member)
    puts_there None = tt
    puts_there (Some name) =
        let each_put = λ (a : Argument). flow (plain a) (Some Elem) in
        pick_some (IsFlow lists) (puts_in name) (flat_map each_put args) (each_gives IsArgNamed (IsFlow lists) each_put (λ a h. flow_there (plain a) (Some Elem) (plain_there a h) tt) args each)

    -- and the object of a member, and what it puts in
    pub handing_there : (callee object : Option Vertex) (of_member : Bool) (member : Option (List ℕ)) → IsNamedIfAny callee → IsNamedIfAny object → Contains lists.sites (at 0 (places args))
        → AllByRecursion (IsFlow lists) ((flow callee (Some (Callee offset 0)) ++ (if of_member then flow object (Some (Recv offset 0)) else [])) ++ argument_flows offset 0 0 args ++ any_put_flows args member)
    handing_there callee object of_member member h o m =
        let to_callee : List Flow = flow callee (Some (Callee offset 0)) in
        let to_receiver : List Flow = if of_member then flow object (Some (Recv offset 0)) else [] in
        let to_arguments : List Flow = argument_flows offset 0 0 args in
        each_both (IsFlow lists) ((to_callee ++ to_receiver) ++ to_arguments) (any_put_flows args member)
        (each_both (IsFlow lists) (to_callee ++ to_receiver) to_arguments
        (each_both (IsFlow lists) to_callee to_receiver (flow_there callee (Some (Callee offset 0)) h (there_at 0 (places args) m))
        (pick_some (IsFlow lists) of_member (flow object (Some (Recv offset 0))) (flow_there object (Some (Recv offset 0)) o (there_at 0 (places args) m))))
        (args_there offset 0 (at 0 (places args)) m refl refl 0 args (omega arith) each)) (puts_there member)

    -- a call, as expression number k, of a member of this object
    module _ (k : ℕ) (object : Option Vertex) (there : IsNamedIfAny object) where
      received_there : (as_given : List Argument) → AllByRecursion IsArgNamed as_given → HasSite lists offset 1 → AllByRecursion (IsFlow lists) (receiver_flows offset as_given)
      received_there [] h m = tt
      received_there (a ∷ rest) h m = flow_there (plain a) (Some (Recv offset 1)) (plain_there a h.0) m

      behind_there : (as_given : List Argument) → AllByRecursion IsArgNamed as_given → AllByRecursion IsArgNamed (behind_receiver as_given)
      behind_there [] h = h
      behind_there (argument.Plain v ∷ rest) h = h.1
      behind_there (argument.Spread ∷ rest) h = h

      behind_places : (as_given : List Argument) → places (behind_receiver as_given) ≤ places as_given - 1
      behind_places [] = omega arith
      behind_places (argument.Plain v ∷ rest) = omega arith
      behind_places (argument.Spread ∷ rest) = omega arith

      passed_there : (z : Bool) (count : ℕ) → count ≡ (if z then 0 else places args - 1) → Contains lists.sites (at 1 count)
          → AllByRecursion (IsFlow lists) (receiver_flows offset args ++ (if z then flow (Some Elem) (Some (More offset 1)) else argument_flows offset 1 0 (behind_receiver args)))
      passed_there true count e m =
          each_both (IsFlow lists) (receiver_flows offset args) (flow (Some Elem) (Some (More offset 1))) (received_there args each (there_at 1 count m)) (flow_there (Some Elem) (Some (More offset 1)) tt (there_at 1 count m))
      passed_there false count e m =
          let le = behind_places args in
          each_both (IsFlow lists) (receiver_flows offset args) (argument_flows offset 1 0 (behind_receiver args)) (received_there args each (there_at 1 count m))
          (args_there offset 1 (at 1 count) m refl refl 0 (behind_receiver args) (omega (arith, e, le)) (behind_there args each))

      abbrev res_flows : ℕ → List Flow
      res_flows part = flow (Some (Res offset part)) (Some (Exp k))

      abbrev reflected_given : List ℕ → List Flow
      reflected_given name = flow object (Some (Callee offset 1)) ++ passed_flows offset args name ++ res_flows 0 ++ res_flows 1 ++ bound_flows k object name

      reflected_there : (z : Bool) (name : List ℕ) → is_reflected name ≡ z → Contains lists.sites (at 0 (places args)) → AllByRecursion (Contains lists.sites) (if z then at 1 (passed_on name (places args)) ∷ [] else [])
          → AllByRecursion (IsFlow lists) (reflected_flows offset k object args name)
      reflected_there false name e m c = subst (λ z. AllByRecursion (IsFlow lists) (if z then reflected_given name else [])) (sym e) tt
      reflected_there true name e m c = subst (λ z. AllByRecursion (IsFlow lists) (if z then reflected_given name else [])) (sym e) (
          let n = c.0 in
          let count = passed_on name (places args) in
          let to_callee : List Flow = flow object (Some (Callee offset 1)) in
          let to_passed : List Flow = passed_flows offset args name in
          let bound = pick_some (IsFlow lists) (bytes_eq name (codes "bind")) (flow object (Some (Exp k))) (flow_there object (Some (Exp k)) there tt) in
          let callee = flow_there object (Some (Callee offset 1)) there (there_at 1 count n) in
          let passed = passed_there (bytes_eq name (codes "apply")) count refl n in
          let zeroth = flow_there (Some (Res offset 0)) (Some (Exp k)) (there_at 0 (places args) m) tt in
          let first = flow_there (Some (Res offset 1)) (Some (Exp k)) (there_at 1 count n) tt in
          each_both (IsFlow lists) (to_callee ++ to_passed ++ res_flows 0 ++ res_flows 1) (bound_flows k object name)
          (each_both (IsFlow lists) (to_callee ++ to_passed ++ res_flows 0) (res_flows 1)
          (each_both (IsFlow lists) (to_callee ++ to_passed) (res_flows 0) (each_both (IsFlow lists) to_callee to_passed callee passed) zeroth) first) bound)

      -- what it passes on and takes out
      pub member_there : (member : Option (List ℕ)) → AllByRecursion (Contains lists.sites) (call_sites holder member offset (places args)) → AllByRecursion (IsFlow lists) (member_flows offset k object args member)
      member_there None c = tt
      member_there (Some name) c =
          let on = reflected_there (is_reflected name) name refl c.0 c.1 in
          let taken = pick_some (IsFlow lists) (takes_out name) (res_flows 0 ++ flow (Some Elem) (Some (Exp k)))
          (each_both (IsFlow lists) (res_flows 0) (flow (Some Elem) (Some (Exp k))) (flow_there (Some (Res offset 0)) (Some (Exp k)) (there_at 0 (places args) c.0) tt) (flow_there (Some Elem) (Some (Exp k)) tt tt)) in
          each_both (IsFlow lists) (reflected_flows offset k object args name) (taken_flows offset k name) on taken

  -- a call has its site
  pub call_at : (offset holder count : ℕ) (member : Option (List ℕ)) → AllByRecursion (Contains lists.sites) (call_sites holder member offset count) → Contains lists.sites (site_at holder offset count)
  call_at offset holder count None c = c.0
  call_at offset holder count (Some name) c = c.0

  pub site_there : (offset holder count : ℕ) → Contains lists.sites (site_at holder offset count) → HasSite lists offset 0
  site_there offset holder count m = (site_at holder offset count, (m, refl, refl))

  -- where its value stands
  pub result_there : (offset k holder count : ℕ) (member : Option (List ℕ)) → AllByRecursion (Contains lists.sites) (call_sites holder member offset count) → IsNamed lists (if is_numbered member then Exp k else Res offset 0)
  result_there offset k holder count member c = by (is_numbered member)
    where
      by : (z : Bool) → IsNamed lists (if z then Exp k else Res offset 0)
      by true = tt
      by false = site_there offset holder count (call_at offset holder count member c)

  -- the require of a call with a string
  pub require_there : (offset holder : ℕ) (spec : Option (List ℕ)) → is_some spec ≡ true → AllByRecursion (Contains lists.requires_) (call_requires offset holder spec) → HasRequire lists offset
  require_there offset holder None e c = absurd (let k : false ≡ true = e in cc)
  require_there offset holder (Some spec) e c = (record { offset = offset; spec = spec; holder = holder }, c.0, refl)

  -- the sites of a call are held by the function around it
  pub sites_held : (holder : ℕ) → HasFunction lists holder → (member : Option (List ℕ)) (offset count : ℕ) → AllByRecursion (IsSite lists) (call_sites holder member offset count)
  sites_held holder lt None offset count = ((omega arith, lt), tt)
  sites_held holder lt (Some name) offset count =
      ((omega arith, lt), pick_some (IsSite lists) (is_reflected name) (record { offset = offset; part = 1; holder = holder; args = passed_on name count } ∷ []) ((omega arith, lt), tt))
