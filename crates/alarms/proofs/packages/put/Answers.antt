use Rattle.std.proofs.Common.{◌≡◌, ℕ, List, Option, Some, [], ap, sym, ◌∙◌}
use Rattle.std.specs.Prelude.{unwrap_or}
use Rattle.std.specs.Borrow.{Bor}
use Rattle.std.specs.BTreeMap.{get_by}
use Rattle.std.specs.Cmp.Lexicographic.{slice_cmp}
use Rattle.std.specs.Ordering.{nat_cmp}
use Rattle.std.specs.Str.{bytes_eq}
use Rattle.std.proofs.lemmas.Map.Text.{btree_map_updates_str}
use Rattle.alarms.proofs.PackageLemmas.{chosen}
use Rattle.alarms.proofs.packages.put.Goals as goal

pub returns : goal.returns
returns c name =
    ap (λ (o : Option (List ℕ)). unwrap_or o []) (btree_map_updates_str c.args.key.now c.args.places.now c.insert.new.self (Some c.args.here) c.in_ok-insert.ensures.updates name)
    ∙ chosen (bytes_eq c.args.key.now name) c.args.here (get_by (λ (k : Bor (List ℕ)). slice_cmp nat_cmp name k.now) c.args.places.now)
