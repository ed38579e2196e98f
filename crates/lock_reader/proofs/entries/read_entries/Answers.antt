use Rattle.std.proofs.Common.{◌∙◌, List, ap, sym}
use Rattle.std.specs.Prelude.{string_bytes}
use Rattle.serde_json.specs.View.{members_view, view}
use Rattle.lock_reader.specs.Lock.{entries_of}
use Rattle.lock_reader.specs.declared.lock.LockEntry.{LockEntry}
use Rattle.std.proofs.lemmas.List.{append-nil}
use Rattle.lock_reader.proofs.Ascending.{IsAscending-read}
use Rattle.lock_reader.proofs.Prepending.{entries_of-next, prepend}
use Rattle.lock_reader.proofs.entries.read_entries.Goals as goal

pub loop-location-preserved : goal.loop-location-preserved
loop-location-preserved c =
    let entry = rw c.as_str.ensures.value at c.in_ok-read_entry.ensures.entry in
    record {
      can = tt;
      finite = tt;
      read = c.loop-location.invariant.read
          ∙ ap (λ ms. prepend c.loop-location.entries.items (entries_of (members_view ms))) c.in-Some.ensures.steps
          ∙ entries_of-next c.loop-location.entries.items (string_bytes c.in-Some.location.now) (view c.in-Some.value.now) c.in_ok-read_entry.field-0 (members_view c.next.new.self) entry
          ∙ ap (λ (es : List LockEntry). prepend es (entries_of (members_view c.next.new.self))) (sym c.in_ok-push.ensures.items);
    }

pub returns-clause-ascending : goal.returns-clause-ascending
unfolding entries_of
returns-clause-ascending c =
    let read = c.loop-location.invariant.read ∙ ap (λ ms. prepend c.loop-location.entries.items (entries_of (members_view ms))) c.in-None.ensures.steps.0 in
    IsAscending-read c.args.packages.now.entries c.loop-location.entries.items (rw append-nil at read) c.iter-location-items.ensures.ordered
