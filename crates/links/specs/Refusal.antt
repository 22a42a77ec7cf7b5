-- The fault that a refusal is told as. Assumes nothing.
use Rattle.links.specs.declared.refusal.Refusal.{Refusal}
use Rattle.links.specs.declared.refusal.Refusal.TheVariants.{FrameLength, TakingLength, Declined, MemoryLength}
use Rattle.text.specs.declared.fault.Fault.{Fault}
use Rattle.text.specs.Fault.{in_link, in_making}

abbrev pub told : Refusal → Fault
told FrameLength = in_link 41
told TakingLength = in_link 42
told Declined = in_link 43
told MemoryLength = in_making 54
