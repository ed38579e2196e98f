-- The least solution: which values come to which vertices.
use Rattle.std.specs.Prelude.{◌≡◌, ℕ, zero, suc, Bool, IsTrue, Contains}
use Rattle.composer.specs.declared.system.Arrow.{Arrow}
use Rattle.composer.specs.declared.system.Callable.{Callable}
use Rattle.composer.specs.declared.system.CallSite.{CallSite}
use Rattle.composer.specs.declared.system.System.{System}
use Rattle.composer.specs.Steps.{call_arrows, native_arrows, callback_arrows, inputs}

-- a value stands at a vertex from the start: a function at its literal, the native at each of its places
pub data IsBase {V T : Type 0} (a : System V T) (t : T) (v : V) : Type 0 where
  literal : (f : Callable V T) → Contains a.functions f → f.value ≡ t → f.literal ≡ v → IsBase a t v
  native : t ≡ a.native → Contains a.native_at v → IsBase a t v

-- why values go along an arrow, where X says which values stand where: a flow, a function at a site's callee, the native there, or the native there and a function at one of the site's inputs
pub data Reason {V T : Type 0} (a : System V T) (X : T → V → Type 0) (arrow : Arrow V) : Type 0 where
  flow : Contains a.flows arrow → Reason a X arrow
  call : (s : CallSite V) (f : Callable V T) → Contains a.sites s → Contains a.functions f → X f.value s.callee → Contains (call_arrows s f) arrow → Reason a X arrow
  native : (s : CallSite V) → Contains a.sites s → X a.native s.callee → Contains (native_arrows s) arrow → Reason a X arrow
  callback : (s : CallSite V) (g : Callable V T) (w : V) → Contains a.sites s → Contains a.functions g → Contains (inputs s) w → X a.native s.callee → X g.value w → Contains (callback_arrows a.elem s g) arrow → Reason a X arrow

-- the value is there before, stands there from the start, or comes along an arrow from where it is before
pub data OneStepOn {V T : Type 0} (a : System V T) (X : T → V → Type 0) (t : T) (v : V) : Type 0 where
  before : X t v → OneStepOn a X t v
  base : IsBase a t v → OneStepOn a X t v
  along : (u : V) → X t u → Reason a X (record { from = u; to = v }) → OneStepOn a X t v

-- the value comes to the vertex within n steps
abbrev pub Derives : {V T : Type 0} → System V T → ℕ → T → V → Type 0
Derives a zero t v = ⊥
Derives a (suc n) t v = OneStepOn a (Derives a n) t v

-- the value comes to the vertex
abbrev pub InSolution : {V T : Type 0} → System V T → T → V → Type 0
InSolution a t v = (n : ℕ) × Derives a n t v

-- an assignment of values to vertices has what stands there from the start and keeps each rule
pub record IsClosed {V T : Type 0} (a : System V T) (X : T → V → Type 0) : Type 0 where
  pub bases : (t : T) (v : V) → IsBase a t v → X t v
  pub steps : (t : T) (u v : V) → X t u → Reason a X (record { from = u; to = v }) → X t v

-- the assignment that a test gives
abbrev pub Has : {V T : Type 0} → (T → V → Bool) → T → V → Type 0
Has has t v = IsTrue (has t v)
