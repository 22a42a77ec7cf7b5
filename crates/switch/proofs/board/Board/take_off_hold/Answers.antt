-- The record written at its place is the call retrieved, or as it is.
use Rattle.std.proofs.Common.{vec_items, arith}
use Rattle.records.specs.Changes.{retrieved_if}
use Rattle.switch.specs.State.{model}
use Rattle.switch.proofs.Boards.{changed, id_if, retrieved_at, leg_at, leg_there}
use Rattle.switch.proofs.board.Board.take_off_hold.Goals as goal

pub index_mut-requires : goal.index_mut-requires
index_mut-requires c =
    let me = c.args.self.now in
    omega (arith, me.records.ok.0, (leg_at c.args.user.0 c.args.call.0 c.in-Some.i c.in-Some.side (vec_items me.records) c.in-Some.ensures).within)

pub invariant_of-self : goal.invariant_of-self
invariant_of-self c =
    let me = c.args.self.now in
    let leg = leg_there me c.args.user.0 c.args.call.0 c.in-Some.i c.in-Some.side c.index_mut.result.now c.in-Some.ensures c.index_mut.ensures.value in
    changed me c.args.call.0 c.in-Some.i (retrieved_if _ c.in-Some.side) c.index_mut.result.now c.retrieve.new.self leg.0 (id_if _ c.in-Some.side) c.retrieve.ensures.record

pub returns-in-Some : goal.returns-in-Some
returns-in-Some c =
    let me = c.args.self.now in
    let leg = leg_there me c.args.user.0 c.args.call.0 c.in-Some.i c.in-Some.side c.index_mut.result.now c.in-Some.ensures c.index_mut.ensures.value in
    let now = retrieved_at (model me) c.args.user.0 c.args.call.0 c.in-Some.i _ _ c.in-Some.side c.index_mut.result.now c.retrieve.new.self c.retrieve.result leg.0 c.requires.held leg.1 c.retrieve.ensures.granted c.retrieve.ensures.record c.retrieve.ensures.used c.retrieve.ensures.size in
    record { outcome = now.0; state = now.1 }
