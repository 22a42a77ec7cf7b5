use Rattle.std.proofs.Common.{arith}
use Rattle.links.proofs.Calls.{costs_used, put_is_packed, put_waits}
use Rattle.links.proofs.stored.Stored.put.Goals as goal

pub put-requires-clause-fits : goal.put-requires-clause-fits
put-requires-clause-fits g c =
    let me = c.args.self.now in
    omega (arith, c.requires.room, costs_used _ g.met.P.Packing.lawful me.queue me.packed, me.queue.fits)

pub invariant_of-self : goal.invariant_of-self
invariant_of-self g c =
    let me = c.args.self.now in
    record { packed = put_is_packed _ g.met.P.Packing.lawful me.queue me.packed c.args.frame.now _ c.requires.fit c.type_inv.frame c.put.ensures }

pub returns-clause-waits : goal.returns-clause-waits
returns-clause-waits g c =
    let me = c.args.self.now in
    put_waits _ g.met.P.Packing.lawful me.queue me.packed c.args.frame.now _ c.requires.fit c.type_inv.frame c.put.ensures
