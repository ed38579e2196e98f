use Rattle.std.proofs.Common.{◌≡◌}
use Rattle.std.specs.Option.{option_map}
use Rattle.serde_json.specs.View.{members_view}
use Rattle.node_resolve.specs.Exports.{best_match, better}
use Rattle.node_resolve.specs.Views.{seen_match}
use Rattle.node_resolve.proofs.exports.best_match.Given as goal

-- the best so far and the members that are left decide
abbrev pub invariant-loop-key : goal.invariant-loop-key
invariant-loop-key l = record {
  can : (goal.iterator-loop-key).can_next l.key-iterator;
  finite : (goal.iterator-loop-key).is_finite l.key-iterator;
  left : best_match (members_view l.members.entries) l.path ≡ better (option_map seen_match l.best) (best_match (members_view l.key-iterator) l.path);
}
