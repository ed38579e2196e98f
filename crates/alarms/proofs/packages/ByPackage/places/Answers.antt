use Rattle.std.proofs.Common.{◌≡◌, ℕ, List, Option, [], ap, sym, ◌∙◌}
use Rattle.std.specs.Prelude.{unwrap_or}
use Rattle.std.specs.Option.{option_copied}
use Rattle.advisory_reader.specs.declared.advisory.Advisory.{Advisory}
use Rattle.alarms.specs.Packages.{places_of}
use Rattle.alarms.proofs.packages.ByPackage.places.Goals as goal

pub returns-in-Some : goal.returns-in-Some
returns-in-Some c =
    c.as_slice.ensures ∙ sym (ap (λ (o : Option (List ℕ)). unwrap_or o []) (sym c.get.ensures.value ∙ ap option_copied c.in-Some.is)) ∙ c.self.invariant c.args.name.now
    ∙ ap (λ (list : List Advisory). places_of list c.args.name.now) c.self.view_is

pub returns-in-None : goal.returns-in-None
returns-in-None c =
    sym (ap (λ (o : Option (List ℕ)). unwrap_or o []) (sym c.get.ensures.value ∙ ap option_copied c.in-None.is)) ∙ c.self.invariant c.args.name.now
    ∙ ap (λ (list : List Advisory). places_of list c.args.name.now) c.self.view_is
