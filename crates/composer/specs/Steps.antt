-- Which ways of values a call makes.
use Rattle.std.specs.Prelude.{List, [], ◌∷◌, ◌++◌}
use Rattle.composer.specs.declared.system.Arrow.{Arrow}
use Rattle.composer.specs.declared.system.Callable.{Callable}
use Rattle.composer.specs.declared.system.CallSite.{CallSite}

-- each argument goes to the parameter at its place, and those past the parameters to the rest
abbrev pub into_params : {V : Type 0} → List V → List V → V → List (Arrow V)
into_params [] params rest = []
into_params (a ∷ args) [] rest = record { from = a; to = rest } ∷ into_params args [] rest
into_params (a ∷ args) (p ∷ params) rest = record { from = a; to = p } ∷ into_params args params rest

-- from one vertex to each of the others
abbrev pub to_each : {V : Type 0} → V → List V → List (Arrow V)
to_each from [] = []
to_each from (v ∷ vs) = record { from = from; to = v } ∷ to_each from vs

-- where a function takes values in
abbrev pub receivers : {V T : Type 0} → Callable V T → List V
receivers f = f.params ++ f.rest ∷ []

-- where a site hands values over
abbrev pub inputs : {V : Type 0} → CallSite V → List V
inputs s = s.args ++ s.more ∷ []

-- the site calls the function: arguments go to parameters, and what the function returns to the site's result
abbrev pub call_arrows : {V T : Type 0} → CallSite V → Callable V T → List (Arrow V)
call_arrows s f = into_params s.args f.params f.rest ++ to_each s.more (receivers f) ++ record { from = f.ret; to = s.res } ∷ []

-- the site calls a function of the runtime, which may give its receiver back
abbrev pub native_arrows : {V : Type 0} → CallSite V → List (Arrow V)
native_arrows s = record { from = s.recv; to = s.res } ∷ []

-- a function of the runtime that the site calls may call the function that it was handed, with its receiver or any element, and give back what that returns
abbrev pub callback_arrows : {V T : Type 0} → V → CallSite V → Callable V T → List (Arrow V)
callback_arrows elem s g = to_each s.recv (receivers g) ++ to_each elem (receivers g) ++ record { from = g.ret; to = s.res } ∷ []
