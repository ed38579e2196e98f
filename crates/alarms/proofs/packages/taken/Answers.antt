use Rattle.std.proofs.Common.{◌≡◌, ℕ, List, Option, Some, None, [], ap, sym, ◌∙◌}
use Rattle.std.specs.Prelude.{unwrap_or}
use Rattle.std.specs.Borrow.{Bor}
use Rattle.std.specs.BTreeMap.{get_by}
use Rattle.std.specs.Cmp.Lexicographic.{slice_cmp}
use Rattle.std.specs.Ordering.{nat_cmp}
use Rattle.std.specs.Str.{bytes_eq}
use Rattle.std.proofs.lemmas.Map.Text.{btree_map_updates_str}
use Rattle.alarms.proofs.PackageLemmas.{left_out}
use Rattle.alarms.proofs.packages.taken.Goals as goal

pub returns-in-Some-clause-here : goal.returns-in-Some-clause-here
returns-in-Some-clause-here c = c.into_vec.ensures ∙ sym (ap (λ (o : Option (List ℕ)). unwrap_or o []) (sym c.remove.ensures.value ∙ c.in-Some.is))

pub returns-in-None-clause-here : goal.returns-in-None-clause-here
returns-in-None-clause-here c = c.new.ensures.items ∙ sym (ap (λ (o : Option (List ℕ)). unwrap_or o []) (sym c.remove.ensures.value ∙ c.in-None.is))

pub returns-in-Some-clause-left : goal.returns-in-Some-clause-left
returns-in-Some-clause-left c name =
    ap (λ (o : Option (List ℕ)). unwrap_or o []) (btree_map_updates_str c.args.key.now c.args.places.now c.remove.new.self None c.remove.ensures.updates name)
    ∙ left_out (bytes_eq c.args.key.now name) (get_by (λ (k : Bor (List ℕ)). slice_cmp nat_cmp name k.now) c.args.places.now)

pub returns-in-None-clause-left : goal.returns-in-None-clause-left
returns-in-None-clause-left c name =
    ap (λ (o : Option (List ℕ)). unwrap_or o []) (btree_map_updates_str c.args.key.now c.args.places.now c.remove.new.self None c.remove.ensures.updates name)
    ∙ left_out (bytes_eq c.args.key.now name) (get_by (λ (k : Bor (List ℕ)). slice_cmp nat_cmp name k.now) c.args.places.now)
