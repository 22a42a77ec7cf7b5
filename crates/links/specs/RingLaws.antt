-- Frames in a ring can be read back. Assumes nothing.
use Rattle.std.proofs.Common.{refl, arith}
use Rattle.std.specs.Prelude.{length}
use Rattle.std.proofs.lemmas.List.{take_at, drop_at}
use Rattle.links.specs.Lawful.{Lawful}
use Rattle.links.specs.Ring.{in_ring}

pub lawful : Lawful in_ring
lawful = record {
  reads = λ f rest s. take_at f rest (length f) refl;
  goes_on = λ f rest s. drop_at f rest (length f) refl;
  some = λ f. omega arith;
  cost_written = λ f. omega arith;
  low = omega arith;
  high = omega arith;
}
