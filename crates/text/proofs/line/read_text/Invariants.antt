use Rattle.text.specs.Octets.{held}
use Rattle.text.proofs.Lines.{Reading}
use Rattle.text.proofs.line.read_text.Given as goal

abbrev pub invariant-loop-i : goal.invariant-loop-i
invariant-loop-i l = Reading l.line l.i (held l.octets)
