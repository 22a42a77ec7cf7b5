-- The record written at its place is the call that ended for a party.
use Rattle.std.proofs.Common.{vec_items, arith}
use Rattle.records.specs.Changes.{cleared_by}
use Rattle.switch.specs.State.{model}
use Rattle.switch.proofs.Boards.{changed, ended_for, leg_at, leg_there}
use Rattle.switch.proofs.SoundMoves.{id_cleared}
use Rattle.switch.proofs.board.Board.end_for.Goals as goal

pub index_mut-requires : goal.index_mut-requires
index_mut-requires c =
    let me = c.args.self.now in
    omega (arith, me.records.ok.0, (leg_at c.args.user.0 c.args.call.0 c.in-Some.i c.in-Some.side (vec_items me.records) c.in-Some.ensures).within)

pub invariant_of-self : goal.invariant_of-self
invariant_of-self c =
    let me = c.args.self.now in
    let leg = leg_there me c.args.user.0 c.args.call.0 c.in-Some.i c.in-Some.side c.index_mut.result.now c.in-Some.ensures c.index_mut.ensures.value in
    changed me c.args.call.0 c.in-Some.i (cleared_by c.in-Some.side) c.index_mut.result.now c.clear_by.new.self leg.0 (id_cleared c.in-Some.side) c.clear_by.ensures.record

pub returns-in-Some : goal.returns-in-Some
returns-in-Some c =
    let me = c.args.self.now in
    let leg = leg_there me c.args.user.0 c.args.call.0 c.in-Some.i c.in-Some.side c.index_mut.result.now c.in-Some.ensures c.index_mut.ensures.value in
    record { state = ended_for (model me) c.args.user.0 c.args.call.0 c.in-Some.i _ _ cleared_by c.in-Some.side c.index_mut.result.now c.clear_by.new.self leg.0 leg.1 c.clear_by.ensures.record c.clear_by.ensures.used c.clear_by.ensures.size }
