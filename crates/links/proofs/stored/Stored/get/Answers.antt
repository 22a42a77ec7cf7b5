use Rattle.std.proofs.Common.{◌<◌, rules}
use Rattle.links.proofs.Calls.{hands_nothing, first_frame, get_is_packed, hands_out}
use Rattle.links.proofs.stored.Stored.get.Goals as goal

pub returns-then-is_empty : goal.returns-then-is_empty
returns-then-is_empty g c =
    let me = c.args.self.now in
    hands_nothing _ g.met.P.Packing.lawful me.queue me.packed c.args.out.now c.requires (search rules)

pub get-requires-clause-begins : goal.get-requires-clause-begins
get-requires-clause-begins g c =
    let me = c.args.self.now in
    let some : 0 < me.queue.used = search rules in
    (first_frame _ g.met.P.Packing.lawful me.queue me.packed some).begins

pub invariant_of-self : goal.invariant_of-self
invariant_of-self g c =
    let me = c.args.self.now in
    let some : 0 < me.queue.used = search rules in
    record { packed = get_is_packed _ g.met.P.Packing.lawful me.queue me.packed some _ c.get.ensures.left }

pub returns : goal.returns
returns g c =
    let me = c.args.self.now in
    let some : 0 < me.queue.used = search rules in
    let got = c.get.ensures in
    hands_out _ g.met.P.Packing.lawful me.queue me.packed some _ got.left c.args.out.now _ _ c.requires got.long got.out
