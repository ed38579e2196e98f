-- What is at hand of a module on a walk through its tree.
use Rattle.js_scopes.specs.AtHand.{known_in}
use Rattle.flow_rules.specs.declared.facts.Facts.{Facts as Given}
use Rattle.flow_rules.specs.Places.{is_placed, number_in}
use Rattle.flow_rules.specs.Values.{Facts}

-- what is known of the module
abbrev pub facts_in : Given → Facts
facts_in f = record { known = known_in f.known.now; number = number_in f.numbers.now; uses_arguments = is_placed f.arguments.now }
