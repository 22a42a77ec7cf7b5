-- The record at the place is the one found.
use Rattle.std.proofs.Common.{vec_items, sym, ◌∙◌}
use Rattle.records.proofs.Tables.{found, find_none, placed_none, placed_some}
use Rattle.switch.proofs.board.Board.record_of.Goals as goal

pub returns-in_err-i : goal.returns-in_err-i
returns-in_err-i c =
    let rs = vec_items c.args.self.now.records in
    c.from_residual.ensures ∙ sym (find_none c.args.call.0 rs (placed_none _ rs (sym c.record_place.ensures ∙ c.in_err-i.was)))

pub returns : goal.returns
returns c =
    let rs = vec_items c.args.self.now.records in
    let p = placed_some c.args.call.0 c.in_ok-i.i rs (sym c.record_place.ensures ∙ c.in_ok-i.was) in
    sym (found c.args.call.0 c.in_ok-i.i rs c.index.result.now p.0 p.1 c.index.ensures)
