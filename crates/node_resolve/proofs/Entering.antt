-- Where an entry leads.
use Rattle.std.proofs.Common.{◌≡◌, List, [], ◌++◌, ℕ, Option, Some, None, Result, Ok, Err, IfOk, codes, ap, ◌∙◌}
use Rattle.std.specs.Option.{unwrap_or, IfSome}
use Rattle.jam_base.specs.Files.{Files}
use Rattle.jam_base.specs.Path.{path_of}
use Rattle.node_resolve.specs.declared.fault.ResolveFault.{ResolveFault}
use Rattle.node_resolve.specs.declared.target.Target.{Target}
use Rattle.node_resolve.specs.Shapes.{core_names}
use Rattle.node_resolve.specs.Targets.{entry_target, relative_target, target_of}

-- what the path of an entry's text leads to is the target of the entry
pub entry_reached : (files : Option Files) (entry : Option (List ℕ)) (spec : List ℕ) (path : Option (List ℕ)) (result : Result Target ResolveFault)
    → spec ≡ codes "./" ++ unwrap_or entry [] → path ≡ path_of spec
    → IfOk result (λ target. IfSome files (λ m. target ≡ relative_target m spec path))
    → IfOk result (λ target. IfSome files (λ m. target ≡ entry_target m entry))
unfolding target_of core_names
entry_reached files entry spec path (Err fault) text named found = tt
entry_reached None entry spec path (Ok target) text named found = tt
entry_reached (Some m) entry spec path (Ok target) text named found =
    found ∙ ap (relative_target m spec) named ∙ ap (λ (t : List ℕ). relative_target m t (path_of t)) text
