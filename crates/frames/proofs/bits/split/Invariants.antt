use Rattle.frames.proofs.Loops.{Splitting}
use Rattle.frames.proofs.bits.split.Given as goal

abbrev pub invariant-loop-i : goal.invariant-loop-i
invariant-loop-i g l = Splitting l.widths l.number l.i l.left l.rest l.out
