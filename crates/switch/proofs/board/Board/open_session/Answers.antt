-- A session more, of a user who had none.
use Rattle.std.proofs.Common.{vec_items, refl, sym, ap, ◌∙◌, arith}
use Rattle.switch.specs.Opening.{new_session}
use Rattle.switch.specs.State.{model}
use Rattle.switch.specs.Tables.{all_answerable, apart}
use Rattle.switch.proofs.Boards.{open_ok}
use Rattle.switch.proofs.SoundSessions.{answers_added, apart_added}
use Rattle.switch.proofs.board.Board.open_session.Goals as goal

pub invariant_of-self : goal.invariant_of-self
invariant_of-self c =
    let me = c.args.self.now in
    let ok = open_ok (model me) c.args.user _ (sym c.in_ok-check_open.ensures) in
    let n = new_session c.args.user in
    let is = c.push_reserved.ensures.items in
    record { few_sessions = omega (arith, c.push_reserved.ensures.len, ok.1, me.sessions.ok.0); seats = omega (arith, c.push_reserved.ensures.capacity, me.seats); users = ap apart is ∙ apart_added n (vec_items me.sessions) ok.0 me.users; answers = ap all_answerable is ∙ answers_added n (vec_items me.sessions) refl me.answers; few_records = me.few_records; room = me.room; ids = me.ids; top = me.top }
