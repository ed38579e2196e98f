-- What the answers of the reader mean.
use Rattle.std.specs.Prelude.{◌≡◌, ◌⊎◌, List, Result, Ok, Err}
use Rattle.advisory_reader.specs.declared.advisory.Advisory.{Advisory}
use Rattle.advisory_reader.specs.declared.fault.AdvisoryFault.{AdvisoryFault}
use Rattle.advisory_reader.specs.declared.fault.AdvisoryFault.TheVariants as fault

-- the answer is this list, or want of memory
abbrev pub Gives : Result (List Advisory) AdvisoryFault → List Advisory → Type 0
Gives (Ok advisories) expected = advisories ≡ expected
Gives (Err f) expected = f ≡ fault.OutOfMemory

-- the answer is this fault, or want of memory
abbrev pub FailsWith : Result (List Advisory) AdvisoryFault → AdvisoryFault → Type 0
FailsWith (Ok advisories) expected = ⊥
FailsWith (Err f) expected = (f ≡ fault.OutOfMemory) ⊎ (f ≡ expected)
