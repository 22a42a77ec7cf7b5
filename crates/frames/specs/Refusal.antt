-- The fault that each reason tells. Assumes nothing.
use Rattle.std.specs.Prelude.{Ok, Err, Result}
use Rattle.frames.specs.declared.refusal.Refusal.{Refusal}
use Rattle.frames.specs.declared.refusal.Refusal.TheVariants.{ByteCount, Header, Call, Length, Service, PduType, Content}
use Rattle.text.specs.declared.fault.Fault.{Fault}
use Rattle.text.specs.Fault.{in_frame}

abbrev pub told : Refusal → Fault
told (ByteCount n) = in_frame 11 n
told Header = in_frame 12 0
told Call = in_frame 13 1
told Length = in_frame 14 3
told Service = in_frame 15 4
told PduType = in_frame 16 4
told Content = in_frame 17 3

-- an answer, its refusal told as a fault
abbrev pub faults : {X : Type 0} → Result X Refusal → Result X Fault
faults (Ok x) = Ok x
faults (Err r) = Err (told r)

-- whether it was refused, and why
abbrev pub passes : {X : Type 0} → Result X Refusal → Result Unit Fault
passes (Ok x) = Ok tt
passes (Err r) = Err (told r)
