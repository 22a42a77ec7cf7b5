use Rattle.std.proofs.Common.{◌≡◌, take}
use Rattle.frames.specs.Bits.{joined}
use Rattle.frames.proofs.bits.join.Given as goal

abbrev pub invariant-loop-f : goal.invariant-loop-f
invariant-loop-f l = l.number ≡ joined (take l.f-index l.fields)
