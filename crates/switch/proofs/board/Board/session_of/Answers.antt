-- The session at the place is the one found.
use Rattle.std.proofs.Common.{vec_items, sym, ◌∙◌}
use Rattle.switch.proofs.Sessions.{placed_none, placed_some, session_found, session_none}
use Rattle.switch.proofs.board.Board.session_of.Goals as goal

pub returns-in_err-i : goal.returns-in_err-i
returns-in_err-i c =
    let ss = vec_items c.args.self.now.sessions in
    c.from_residual.ensures ∙ sym (session_none c.args.user.0 ss (placed_none _ ss (sym c.session_place.ensures ∙ c.in_err-i.was)))

pub returns : goal.returns
returns c =
    let ss = vec_items c.args.self.now.sessions in
    let p = placed_some c.args.user.0 c.in_ok-i.i ss (sym (sym c.session_place.ensures ∙ c.in_ok-i.was)) in
    sym (session_found c.args.user.0 c.in_ok-i.i ss c.index.result.now p.0 p.1 c.index.ensures)
