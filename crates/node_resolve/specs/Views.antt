-- What the code's types for members of `exports` stand for.
use Rattle.std.specs.Prelude.{ℕ, List, Option}
use Rattle.std.specs.Option.{option_map}
use Rattle.serde_json.specs.Data.{Data}
use Rattle.serde_json.specs.View.{view}
use Rattle.node_resolve.specs.Exports.{Match}
use Rattle.node_resolve.specs.declared.exports.Match.{Match as FoundMatch}
use Rattle.node_resolve.specs.declared.exports.Valued.{Valued}

abbrev pub seen_match : FoundMatch → Match
seen_match m = record { front = m.front; size = m.size; target = view m.target.now; star = m.star.now }

abbrev pub seen_value : Valued → Data × Option (List ℕ)
seen_value v = (view v.target.now, option_map (λ s. s.now) v.star)
