use Rattle.std.proofs.Common.{take}
use Rattle.links.specs.Queue.{Joined}
use Rattle.links.proofs.ring.InRingPacking.put.Given as goal

abbrev pub invariant-loop-byte : goal.invariant-loop-byte
invariant-loop-byte l = Joined l.initial.queue l.queue (take l.byte-index l.frame)
