-- The refusals of registers by their numbers. Assumes nothing.
use Rattle.text.specs.declared.fault.Fault.{Fault}
use Rattle.text.specs.Fault.{in_making}
use Rattle.register.specs.declared.refusal.Refusal.{Refusal}
use Rattle.register.specs.declared.refusal.Refusal.TheVariants.{LimitOutOfRange, UsersDoNotRise}

abbrev pub told : Refusal → Fault
told LimitOutOfRange = in_making 51
told UsersDoNotRise = in_making 52
