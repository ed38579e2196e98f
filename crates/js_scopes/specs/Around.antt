-- What a walk knows of what stands around a node.
use Rattle.std.specs.Prelude.{◌≡◌, ◌<◌, length, nat_lt}
use Rattle.std.specs.List.{count_by}
use Rattle.std.specs.List.Sorted.{IsNonDecreasingBy, IsNonDecreasing}
use Rattle.js_tree.specs.declared.token.Token.{Token}
use Rattle.js_scopes.specs.declared.function.FunctionInfo.{FunctionInfo}
use Rattle.js_scopes.specs.declared.names.Numbers.{Numbers}
use Rattle.js_scopes.specs.declared.names.Surroundings.{Surroundings}
use Rattle.js_scopes.specs.Names.{Numbering, Around, local_number}
use Rattle.js_scopes.specs.Walks.{scopes_of}

-- what stands around a node
abbrev pub around_of : Surroundings → Around
around_of s = record { scopes = scopes_of s.scopes.now; holder = s.holder }

-- functions and starts ascend, and there are numbers for them
pub record AreReady (numbers : Numbers) : Type 0 where
  pub functions : IsNonDecreasingBy (λ (f : FunctionInfo). f.start) numbers.functions.now
  pub few_functions : length numbers.functions.now < 4294967295
  pub starts : IsNonDecreasing numbers.starts.now
  pub few_starts : length numbers.starts.now < 4294967296

-- they give the numbers of the numbering
pub record IsNumberedBy (n : Numbering) (numbers : Numbers) : Type 0 where
  pub functions : n.functions ≡ numbers.functions.now
  pub locals : (t : Token) → local_number n t ≡ count_by (λ s. nat_lt s t.start) numbers.starts.now
