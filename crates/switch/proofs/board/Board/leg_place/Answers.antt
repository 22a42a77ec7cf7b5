-- The record at the call's place says which side is the user's.
use Rattle.std.proofs.Common.{Some, None, sym, ◌∙◌}
use Rattle.switch.proofs.Boards.{leg_is, leg_none}
use Rattle.switch.proofs.board.Board.leg_place.Goals as goal

pub returns-in_err-i : goal.returns-in_err-i
returns-in_err-i c = c.from_residual.ensures ∙ sym (leg_none c.args.user.0 c.args.call.0 _ (sym c.record_place.ensures ∙ c.in_err-i.was))

pub returns-in_err-side : goal.returns-in_err-side
returns-in_err-side c = c.from_residual-in_err-side.ensures ∙ sym (leg_is c.args.user.0 c.args.call.0 c.in_ok-i.i _ c.index.result.now None (sym c.record_place.ensures ∙ c.in_ok-i.was) c.index.ensures (sym c.side_of.ensures ∙ c.in_err-side.was))

pub returns : goal.returns
returns c = sym (leg_is c.args.user.0 c.args.call.0 c.in_ok-i.i _ c.index.result.now (Some c.in_ok-side.side) (sym c.record_place.ensures ∙ c.in_ok-i.was) c.index.ensures (sym c.side_of.ensures ∙ c.in_ok-side.was))
