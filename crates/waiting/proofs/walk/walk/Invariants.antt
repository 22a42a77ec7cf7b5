-- The first places have the line so far.
use Rattle.waiting.proofs.Places.{Walking}
use Rattle.waiting.proofs.walk.walk.Given as goal

abbrev pub invariant-loop-length : goal.invariant-loop-length
invariant-loop-length l = Walking l.records l.initial.last l.length l.line l.last l.initial.line
