-- The record written at its place is the call put on hold.
use Rattle.std.proofs.Common.{vec_items, arith}
use Rattle.records.specs.Changes.{put_on_hold}
use Rattle.switch.specs.State.{model}
use Rattle.switch.proofs.Boards.{changed, held_at, leg_at, leg_there}
use Rattle.switch.proofs.SoundMoves.{id_held}
use Rattle.switch.proofs.board.Board.put_on_hold.Goals as goal

pub index_mut-requires : goal.index_mut-requires
index_mut-requires c =
    let me = c.args.self.now in
    omega (arith, me.records.ok.0, (leg_at c.args.user.0 c.args.call.0 c.in-Some.i c.in-Some.side (vec_items me.records) c.in-Some.ensures).within)

pub invariant_of-self : goal.invariant_of-self
invariant_of-self c =
    let me = c.args.self.now in
    let leg = leg_there me c.args.user.0 c.args.call.0 c.in-Some.i c.in-Some.side c.index_mut.result.now c.in-Some.ensures c.index_mut.ensures.value in
    changed me c.args.call.0 c.in-Some.i (put_on_hold c.in-Some.side) c.index_mut.result.now c.hold.new.self leg.0 (id_held c.in-Some.side) c.hold.ensures.record

pub returns-in-Some : goal.returns-in-Some
returns-in-Some c =
    let me = c.args.self.now in
    let leg = leg_there me c.args.user.0 c.args.call.0 c.in-Some.i c.in-Some.side c.index_mut.result.now c.in-Some.ensures c.index_mut.ensures.value in
    record { state = held_at (model me) c.args.user.0 c.args.call.0 c.in-Some.i _ _ c.in-Some.side c.index_mut.result.now c.hold.new.self leg.0 c.requires.talking leg.1 c.hold.ensures.record c.hold.ensures.used c.hold.ensures.size }
