-- Making a switch. Assumes nothing.
use Rattle.std.specs.Prelude.{◌≡◌, ℕ, Bool, true, false, ◌||◌, List, Option, None, Some, Ok, Err, Result, ◌==◌, nat_lt}
use Rattle.text.specs.Fault.{in_making}
use Rattle.text.specs.Words.{fault_words}
use Rattle.switch.specs.State.{fresh, model}
use Rattle.switch.specs.declared.switch.Parts.{Parts}
use Rattle.switch.specs.declared.told.MakeError.{MakeError}
use Rattle.switch.specs.declared.told.MakeError.TheVariants.{Refused, NoMemory}

-- a pool of no such size is there
abbrev pub unfit : ℕ → Bool
unfit n = n == 0 || nat_lt 128 n

-- what is made of a size: 53 exactly if no pool has it; else the parts of a switch with no session and no call, unless memory is short
abbrev pub MadeParts : ℕ → Result Parts MakeError → Type 0
MadeParts n (Ok p) = (unfit n ≡ false) × (model p.board ≡ fresh n)
MadeParts n (Err (Refused e)) = (unfit n ≡ true) × (e ≡ in_making 53)
MadeParts n (Err (NoMemory e)) = unfit n ≡ false

-- the words of the fault; std states none for want of memory
abbrev pub make_words : MakeError → Option (List ℕ)
make_words (Refused e) = Some (fault_words e)
make_words (NoMemory e) = None
