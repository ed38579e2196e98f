-- The ways of values that the sites of a numbered system make, by the values that stand at its vertices.
use Rattle.std.specs.Prelude.{ℕ, Bool, IsTrue, List, [], ◌++◌, flat_map, slice_get, Option, Some, None}
use Rattle.composer.specs.declared.system.Arrow.{Arrow}
use Rattle.composer.specs.declared.system.Callable.{Callable}
use Rattle.composer.specs.declared.system.CallSite.{CallSite}
use Rattle.composer.specs.declared.system.System.{System}
use Rattle.composer.specs.Rows.{is_in}
use Rattle.composer.specs.Steps.{inputs, call_arrows, native_arrows, callback_arrows}

-- whether the value stands at the vertex
abbrev pub stands : (ℕ → List ℕ) → ℕ → ℕ → Bool
stands at t v = is_in t (at v)

abbrev pub Stands : (ℕ → List ℕ) → ℕ → ℕ → Type 0
Stands at t v = IsTrue (stands at t v)

-- the ways by which a native hands over to the function, if it is one
abbrev pub callback_ways : ℕ → CallSite ℕ → Option (Callable ℕ ℕ) → List (Arrow ℕ)
callback_ways elem s None = []
callback_ways elem s (Some g) = callback_arrows elem s g

abbrev pub input_ways : System ℕ ℕ → (ℕ → List ℕ) → CallSite ℕ → ℕ → List (Arrow ℕ)
input_ways a at s w = flat_map (λ t. callback_ways a.elem s (slice_get a.functions t)) (at w)

-- the ways of a site that calls the function, or else a native
abbrev pub called_ways : System ℕ ℕ → (ℕ → List ℕ) → CallSite ℕ → Option (Callable ℕ ℕ) → List (Arrow ℕ)
called_ways a at s None = native_arrows s ++ flat_map (input_ways a at s) (inputs s)
called_ways a at s (Some f) = call_arrows s f

abbrev pub site_ways : System ℕ ℕ → (ℕ → List ℕ) → CallSite ℕ → List (Arrow ℕ)
site_ways a at s = flat_map (λ t. called_ways a at s (slice_get a.functions t)) (at s.callee)

-- all ways
abbrev pub all_ways : System ℕ ℕ → (ℕ → List ℕ) → List (Arrow ℕ)
all_ways a at = a.flows ++ flat_map (site_ways a at) a.sites

-- the ways that a value makes where it comes to the callee of a site
abbrev pub ways_at_callee : System ℕ ℕ → (ℕ → List ℕ) → ℕ → Option (CallSite ℕ) → List (Arrow ℕ)
ways_at_callee a at t None = []
ways_at_callee a at t (Some s) = called_ways a at s (slice_get a.functions t)
