-- Laws of a switch's state, in the words of the service. Assumes nothing.
use Rattle.std.specs.Prelude.{ℕ}
use Rattle.switch.specs.State.{Model}
use Rattle.switch.specs.Tables.{WithinLimits}

-- nobody has more calls on hold than his limit
abbrev pub Within : (ℕ → ℕ) → Model → Type 0
Within limit m = WithinLimits limit m.records

-- a call on the switch keeps every user within his limit
abbrev pub KeepsLimits : (ℕ → ℕ) → Model → Model → Type 0
KeepsLimits limit m n = Within limit m → Within limit n
