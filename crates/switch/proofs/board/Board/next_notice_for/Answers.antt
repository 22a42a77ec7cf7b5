-- The notice is of a record, whose identifier is in range.
use Rattle.std.proofs.Common.{◌≡◌, ℕ, true, vec_items, ap, ◌∙◌, subst}
use Rattle.records.specs.Notices.{Best, next_notice}
use Rattle.records.specs.Questions.{rising}
use Rattle.switch.proofs.Boards.{sendable}
use Rattle.switch.proofs.board.Board.next_notice_for.Goals as goal

pub returns : goal.returns
returns c =
    let me = c.args.self.now in
    let u = c.args.user.0 in
    let best = subst (λ rs. (last : ℕ) → rising last rs ≡ true → Best u rs c.next_notice.result) c.as_slice.ensures.value c.next_notice.ensures.best in
    record { choice = c.next_notice.ensures.choice ∙ ap (next_notice u) c.as_slice.ensures.value; range = sendable u me.last (vec_items me.records) c.next_notice.result me.ids me.top (best me.last me.ids) }
