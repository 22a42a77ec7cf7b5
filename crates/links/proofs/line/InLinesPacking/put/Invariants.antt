use Rattle.std.proofs.Common.{take}
use Rattle.text.specs.Text.{text}
use Rattle.links.specs.Queue.{Joined}
use Rattle.links.proofs.line.InLinesPacking.put.Given as goal

abbrev pub invariant-loop-byte : goal.invariant-loop-byte
invariant-loop-byte l = Joined l.initial.queue l.queue (text (take l.byte-index l.frame))
