-- The refusal of a pool by its number. Assumes nothing.
use Rattle.text.specs.declared.fault.Fault.{Fault}
use Rattle.text.specs.Fault.{in_making}
use Rattle.pool.specs.declared.refusal.Refusal.{Refusal}
use Rattle.pool.specs.declared.refusal.Refusal.TheVariants.{SizeOutOfRange}

abbrev pub told : Refusal → Fault
told SizeOutOfRange = in_making 53
