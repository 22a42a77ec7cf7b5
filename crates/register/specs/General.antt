-- What is made of one limit for everybody. Assumes nothing.
use Rattle.std.specs.Prelude.{ℕ, ◌||◌, Ok, Err, Result, ◌==◌, nat_lt}
use Rattle.text.specs.declared.fault.Fault.{Fault}
use Rattle.text.specs.Fault.{in_making, unless}
use Rattle.register.specs.declared.general.General.{General}

-- a general register as its limit
abbrev pub told_general : Result General Fault → Result ℕ Fault
told_general (Ok g) = Ok g.limit
told_general (Err f) = Err f

abbrev pub makes_general : ℕ → Result ℕ Fault
makes_general n = unless (n == 0 || nat_lt 7 n) (in_making 51) (Ok n)
