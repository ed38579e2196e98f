-- What the answers of the reader mean.
use Rattle.std.specs.Prelude.{◌≡◌, ℕ, Result, Ok, Err}
use Rattle.npm_range.specs.declared.fault.RangeFault.{RangeFault}
use Rattle.npm_range.specs.declared.fault.RangeFault.TheVariants.{At, OutOfMemory}

-- the offset of a fault meets a fact; want of memory says nothing
abbrev pub IfAt : RangeFault → (ℕ → Type 0) → Type 0
IfAt (At offset) P = P offset
IfAt OutOfMemory P = Unit {0}

-- the answer is this value, or want of memory
abbrev pub Gives : {A : Type 0} → Result A RangeFault → A → Type 0
Gives (Ok x) a = x ≡ a
Gives (Err OutOfMemory) a = Unit {0}
Gives (Err (At offset)) a = ⊥

-- the answer is a fault at this offset, or want of memory
abbrev pub FailsAt : {A : Type 0} → Result A RangeFault → ℕ → Type 0
FailsAt (Ok x) n = ⊥
FailsAt (Err OutOfMemory) n = Unit {0}
FailsAt (Err (At offset)) n = offset ≡ n
