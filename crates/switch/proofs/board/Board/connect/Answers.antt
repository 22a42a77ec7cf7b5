-- The call stands last, and above all others.
use Rattle.std.proofs.Common.{◌≡◌, true, [], ◌∷◌, ◌++◌, Ok, vec_items, sym, ap, ◌∙◌, subst, arith}
use Rattle.records.proofs.Tables.{rising_added}
use Rattle.records.specs.Questions.{rising}
use Rattle.switch.specs.State.{model}
use Rattle.switch.proofs.Boards.{connected_is, place_ok}
use Rattle.switch.proofs.board.Board.connect.Goals as goal

pub invariant_of-self-2 : goal.invariant_of-self-2
invariant_of-self-2 c =
    let me = c.args.self.now in
    let ok = place_ok (model me) c.args.call c.args.first c.args.second (Ok tt) _ (sym c.in_ok-check_place.ensures) in
    let id = ap (λ r. r.id.0) (connected_is _ c.args.call c.args.first c.args.second c.in_ok-record.record (sym c.in_ok-record.ensures.ok_part ∙ c.connect-connected.ensures.record)) in
    let up = rising_added 0 me.last (vec_items me.records) c.in_ok-record.record (omega (arith, id, ok.above)) me.ids in
    record { few_sessions = me.few_sessions; seats = me.seats; users = me.users; answers = me.answers; few_records = omega (arith, c.push_reserved.ensures.len, ok.few, me.records.ok.0); room = omega (arith, c.push_reserved.ensures.capacity, me.room); ids = ap (rising c.args.call.0) c.push_reserved.ensures.items ∙ subst (λ n. rising n (vec_items me.records ++ c.in_ok-record.record ∷ []) ≡ true) id up; top = ok.top }
