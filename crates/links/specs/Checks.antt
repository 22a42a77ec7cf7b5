-- What the checks that links share answer. Assumes nothing.
use Rattle.std.specs.Prelude.{ℕ, Bool, ◌||◌, List, length, Ok, Result, ◌==◌, nat_lt}
use Rattle.text.specs.declared.fault.Fault.{Fault}
use Rattle.text.specs.Fault.{in_link, in_making, unless}

-- a frame that is empty or over the longest
abbrev pub unfit : ℕ → List ℕ → Bool
unfit longest f = length f == 0 || nat_lt longest (length f)

-- fewer than 32 bytes handed over for taking
abbrev pub short : List ℕ → Bool
short m = nat_lt (length m) 32

-- not 64 to 4,096 bytes
abbrev pub unfit_memory : ℕ → Bool
unfit_memory n = nat_lt n 64 || nat_lt 4096 n

-- what each check answers
abbrev pub frame_checked : ℕ → List ℕ → Result Unit Fault
frame_checked longest f = unless (unfit longest f) (in_link 41) (Ok tt)

abbrev pub taking_checked : List ℕ → Result Unit Fault
taking_checked m = unless (short m) (in_link 42) (Ok tt)

abbrev pub memory_checked : ℕ → Result Unit Fault
memory_checked n = unless (unfit_memory n) (in_making 54) (Ok tt)
