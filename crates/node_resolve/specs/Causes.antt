-- What an answer says of the folder's count of faults.
use Rattle.std.specs.Prelude.{◌≡◌, ℕ, ◌≤◌, Result, IsErrOf, OnOk}
use Rattle.jam_base.specs.Causes.{Rose}
use Rattle.node_resolve.specs.declared.fault.ResolveFault.{ResolveFault}
use Rattle.node_resolve.specs.declared.fault.ResolveFault.TheVariants.{ReadFault, OutOfMemory}

-- a fault of reading has raised the count, and any other answer leaves it as it was
pub record HasResolveCause {T : Type 0} (before now : ℕ) (result : Result T ResolveFault) : Type 0 where
  pub later : before ≤ now
  pub failed : IsErrOf result ReadFault → Rose before now
  pub kept : OnOk result (now ≡ before)
  pub out_of_memory : IsErrOf result OutOfMemory → now ≡ before
