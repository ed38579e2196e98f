use Rattle.std.proofs.Common.{◌≡◌, ◌≤◌, ℕ, Option, Some, None, length, rules, arith, refl, subst, sym}
use Rattle.lock_reader.specs.Owner.{IsOwnerAt}
use Rattle.lock_reader.specs.Places.{OwnsFrom}
use Rattle.lock_reader.proofs.PlaceLemmas.{above_next, above_path, owner_found, owner_last}
use Rattle.lock_reader.proofs.lock.Lock.owner_place.Goals as goal

pub loop-above-init : goal.loop-above-init
loop-above-init c = (search rules, above_path c.as_slice-entries.result.now c.as_str-path.result.now)

pub loop-above-preserved : goal.loop-above-preserved
loop-above-preserved c =
    let found = c.in-Some.ensures.cases in
    let within : found.0 ≤ length c.loop-above.folder.now = omega (arith, found.5, found.7) in (
      search rules,
      above_next c.as_slice-entries.result.now c.as_str-path.result.now c.loop-above.folder.now c.in-Some.above.now found.0 c.loop-above.invariant.1 within found.3 found.6 found.2.0
          (subst (OwnsFrom c.as_slice-entries.result.now c.in-Some.above.now c.as_str-path.result.now) c.in_default-owner_at.is c.owner_at.ensures),
    )

pub returns-in-Some-owner_at : goal.returns-in-Some-owner_at
returns-in-Some-owner_at c =
    let found = c.in-Some.ensures.cases in
    let entries = c.as_slice-entries.result.now in
    let path = c.as_str-path.result.now in
    let within : found.0 ≤ length c.loop-above.folder.now = omega (arith, found.5, found.7) in
    let owner : IsOwnerAt entries path (Some c.in-Some-owner_at.place) = owner_found entries path c.loop-above.folder.now c.in-Some.above.now found.0 c.in-Some-owner_at.place c.loop-above.invariant.1 within found.3 found.6 found.2.0 c.in-Some-owner_at.ensures in
    subst (λ es. IsOwnerAt es c.args.path.now (Some c.in-Some-owner_at.place)) c.as_slice-entries.ensures (subst (λ p. IsOwnerAt entries p (Some c.in-Some-owner_at.place)) c.as_str-path.ensures.text owner)

pub returns : goal.returns
returns c =
    let entries = c.as_slice-entries.result.now in
    let path = c.as_str-path.result.now in
    let owner : IsOwnerAt entries path c.owner_at-2.result = owner_last entries path c.loop-above.folder.now c.owner_at-2.result c.loop-above.invariant.1 c.in_default.ensures.cases c.owner_at-2.ensures in
    subst (λ es. IsOwnerAt es c.args.path.now c.owner_at-2.result) c.as_slice-entries.ensures (subst (λ p. IsOwnerAt entries p c.owner_at-2.result) c.as_str-path.ensures.text owner)
