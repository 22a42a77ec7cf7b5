use Rattle.std.proofs.Common.{take}
use Rattle.links.specs.Queue.{Left}
use Rattle.links.proofs.ring.InRingPacking.get.Given as goal

abbrev pub invariant-loop-slot : goal.invariant-loop-slot
invariant-loop-slot l = Left l.initial.queue l.queue (take l.slot-index l.slot-items)
