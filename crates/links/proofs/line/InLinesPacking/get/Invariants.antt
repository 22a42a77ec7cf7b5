use Rattle.std.proofs.Common.{length}
use Rattle.links.specs.Line.{in_lines}
use Rattle.links.specs.Queue.{held}
use Rattle.links.proofs.Lines.{Reading}
use Rattle.links.proofs.line.InLinesPacking.get.Given as goal

abbrev pub invariant-loop-byte : goal.invariant-loop-byte
invariant-loop-byte l = Reading l.initial.queue l.queue l.initial.out l.n l.out

abbrev pub decreases-loop-byte : goal.decreases-loop-byte
decreases-loop-byte l = length (in_lines.first (held l.queue))
