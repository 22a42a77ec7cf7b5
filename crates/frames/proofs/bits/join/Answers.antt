use Rattle.frames.proofs.Loops.{joined_all, turn}
use Rattle.frames.proofs.bits.join.Goals as goal

pub overflow_shl-number : goal.overflow_shl-number
overflow_shl-number c = (turn c.args.fields.now c.loop-f.f-index c.loop-f.number c.requires.fit c.requires.short c.loop-f-test.true c.loop-f.invariant).narrow

pub overflow_add-number : goal.overflow_add-number
overflow_add-number c =
    let t = turn c.args.fields.now c.loop-f.f-index c.loop-f.number c.requires.fit c.requires.short c.loop-f-test.true c.loop-f.invariant in
    record { fits = rw (c.from.ensures, t.joins) t.fits }

pub loop-f-preserved : goal.loop-f-preserved
loop-f-preserved c =
    let t = turn c.args.fields.now c.loop-f.f-index c.loop-f.number c.requires.fit c.requires.short c.loop-f-test.true c.loop-f.invariant in
    rw c.from.ensures t.joins

pub returns-clause-small : goal.returns-clause-small
returns-clause-small c = joined_all c.args.fields.now c.loop-f.f-index c.loop-f.number c.requires.fit c.loop-f-test.false c.loop-f.invariant
