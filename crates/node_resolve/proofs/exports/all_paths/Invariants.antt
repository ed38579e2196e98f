use Rattle.std.proofs.Common.{◌≡◌}
use Rattle.serde_json.specs.View.{members_view}
use Rattle.node_resolve.specs.Exports.{all_paths}
use Rattle.node_resolve.proofs.exports.all_paths.Given as goal

-- the members that are left decide
abbrev pub invariant-loop-key : goal.invariant-loop-key
invariant-loop-key l = record {
  can : (goal.iterator-loop-key).can_next l.key-iterator;
  finite : (goal.iterator-loop-key).is_finite l.key-iterator;
  left : all_paths (members_view l.members.entries) ≡ all_paths (members_view l.key-iterator);
}
