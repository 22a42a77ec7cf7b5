use Rattle.std.proofs.Common.{sym, subst, arith, length-take, length-take-le}
use Rattle.std.proofs.lemmas.List.{take_more_set}
use Rattle.links.specs.Queue.{Left}
use Rattle.links.proofs.Queues.{left_then, left_used}
use Rattle.links.proofs.Rings.{counted_waits}
use Rattle.links.proofs.ring.InRingPacking.get.Goals as goal

pub pop-requires-in-loop-slot : goal.pop-requires-in-loop-slot
pop-requires-in-loop-slot c =
    let at = c.loop-slot in
    let fits = counted_waits c.args.queue.now c.pop.new.self c.pop.result c.requires.begins c.pop.ensures in
    let used = left_used at.invariant in
    omega (arith, length-take-le at.slot-index at.slot-items (omega arith), length-take c.from-n.result c.args.out.now)

pub loop-slot-preserved : goal.loop-slot-preserved
loop-slot-preserved c =
    let at = c.loop-slot in
    subst (Left _ _) (sym (take_more_set at.slot-items at.slot-index c.pop-in-loop-slot.result (omega arith))) (left_then at.invariant c.pop-in-loop-slot.ensures)
