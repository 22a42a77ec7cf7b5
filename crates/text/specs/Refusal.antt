-- The refusals of a line of text by their numbers. Assumes nothing.
use Rattle.text.specs.declared.fault.Fault.{Fault}
use Rattle.text.specs.declared.refusal.LineRefusal.{LineRefusal}
use Rattle.text.specs.declared.refusal.LineRefusal.TheVariants.{TooLong, NotInPairs, NoDigit}
use Rattle.text.specs.Fault.{in_line}

abbrev pub told : LineRefusal → Fault
told TooLong = in_line 1 64
told (NotInPairs n) = in_line 2 n
told (NoDigit i) = in_line 3 i
