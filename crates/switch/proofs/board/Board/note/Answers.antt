-- The session written at its place is the one noted.
use Rattle.std.proofs.Common.{vec_items, sym, ap, ◌∙◌}
use Rattle.switch.specs.Serving.{handled_by}
use Rattle.switch.specs.State.{model, with_sessions}
use Rattle.switch.specs.Tables.{all_answerable, apart}
use Rattle.switch.proofs.Sessions.{noted_there, noted_nowhere, placed_none, placed_some}
use Rattle.switch.proofs.SoundSessions.{answers_noted, apart_noted}
use Rattle.switch.proofs.board.Board.note.Goals as goal

pub invariant_of-self : goal.invariant_of-self
invariant_of-self c =
    let me = c.args.self.now in
    let n = handled_by c.args.user c.args.exchange c.args.handled in
    let ss = vec_items me.sessions in
    let p = placed_some c.args.user.0 c.in-Some.i ss c.in-Some.ensures in
    let is = noted_there n c.in-Some.i ss me.users p.0 p.1 in
    record { few_sessions = me.few_sessions; seats = me.seats; users = ap apart is ∙ apart_noted n ss ∙ me.users; answers = ap all_answerable is ∙ answers_noted n ss c.requires me.answers; few_records = me.few_records; room = me.room; ids = me.ids; top = me.top }

pub returns-in-Some : goal.returns-in-Some
returns-in-Some c =
    let me = c.args.self.now in
    let p = placed_some c.args.user.0 c.in-Some.i (vec_items me.sessions) c.in-Some.ensures in
    record { state = ap (λ ss. with_sessions ss (model me)) (noted_there (handled_by c.args.user c.args.exchange c.args.handled) c.in-Some.i (vec_items me.sessions) me.users p.0 p.1) }

pub returns-in_default : goal.returns-in_default
returns-in_default c =
    let me = c.args.self.now in
    record { state = ap (λ ss. with_sessions ss (model me)) (sym (noted_nowhere (handled_by c.args.user c.args.exchange c.args.handled) (vec_items me.sessions) (placed_none _ _ (sym c.session_place.ensures ∙ c.in_default.is)))) }
