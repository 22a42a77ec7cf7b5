use Rattle.std.proofs.Common.{arith}
use Rattle.links.proofs.Lines.{put_more, put_used}
use Rattle.links.proofs.line.InLinesPacking.put.Goals as goal

pub put_digits-requires : goal.put_digits-requires
put_digits-requires c =
    let at = c.loop-byte in
    record { fits = omega (arith, put_used c.args.queue.now at.queue c.args.frame.now at.byte-index (omega arith) at.invariant) }

pub loop-byte-preserved : goal.loop-byte-preserved
loop-byte-preserved c =
    let at = c.loop-byte in
    put_more c.args.queue.now at.queue c.put_digits.new.queue c.args.frame.now at.byte-index (omega arith) at.invariant c.put_digits.ensures

pub push-requires : goal.push-requires
push-requires c =
    let at = c.loop-byte in
    omega (arith, put_used c.args.queue.now at.queue c.args.frame.now at.byte-index (omega arith) at.invariant)
