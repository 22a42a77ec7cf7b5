-- The record with the news dropped is written at its place, or the place is freed.
use Rattle.std.proofs.Common.{vec_items, sym, ap, ◌∙◌, arith}
use Rattle.records.proofs.Tables.{placed_none}
use Rattle.records.specs.Changes.{for_user, hushed}
use Rattle.switch.specs.State.{model, with_records}
use Rattle.switch.proofs.Boards.{rising_left, there, told_facts, told_left, told_nowhere, told_spent}
use Rattle.switch.proofs.board.Board.hush.Goals as goal

pub returns-in_default : goal.returns-in_default
returns-in_default c =
    let me = c.args.self.now in
    record { state = ap (λ rs. with_records rs me.pool.used (model me)) (told_nowhere c.args.call.0 (for_user hushed c.args.user.0) (vec_items me.records) (placed_none _ _ (sym c.record_place.ensures ∙ c.in_default.is))) }

pub invariant_of-self : goal.invariant_of-self
invariant_of-self c =
    let me = c.args.self.now in
    let at = there me c.args.call.0 c.in-Some.i c.index_mut.result.now c.in-Some.ensures c.index_mut.ensures.value in
    record { few_sessions = me.few_sessions; seats = me.seats; users = me.users; answers = me.answers; few_records = omega (arith, c.remove.ensures.len, me.few_records); room = omega (arith, c.remove.ensures.capacity, me.room); ids = rising_left me c.args.user.0 c.args.call.0 c.in-Some.i c.index_mut.result.now c.tell.new.call c.index.result.now at c.tell.ensures c.index.ensures _ c.remove.ensures.items; top = me.top }

pub invariant_of-self-else-is_spent : goal.invariant_of-self-else-is_spent
invariant_of-self-else-is_spent c =
    let me = c.args.self.now in
    let at = there me c.args.call.0 c.in-Some.i c.index_mut.result.now c.in-Some.ensures c.index_mut.ensures.value in
    told_facts me c.args.user.0 c.args.call.0 c.in-Some.i c.index_mut.result.now c.tell.new.call c.index.result.now at c.tell.ensures c.index.ensures

pub returns-then-is_spent : goal.returns-then-is_spent
returns-then-is_spent c =
    let me = c.args.self.now in
    let at = there me c.args.call.0 c.in-Some.i c.index_mut.result.now c.in-Some.ensures c.index_mut.ensures.value in
    record { state = ap (λ rs. with_records rs me.pool.used (model me)) (told_spent me c.args.user.0 c.args.call.0 c.in-Some.i c.index_mut.result.now c.tell.new.call c.index.result.now at c.tell.ensures c.index.ensures _ (sym c.if-is_spent.ensures) c.remove.ensures.items) }

pub returns-else-is_spent : goal.returns-else-is_spent
returns-else-is_spent c =
    let me = c.args.self.now in
    let at = there me c.args.call.0 c.in-Some.i c.index_mut.result.now c.in-Some.ensures c.index_mut.ensures.value in
    record { state = ap (λ rs. with_records rs me.pool.used (model me)) (told_left me c.args.user.0 c.args.call.0 c.in-Some.i c.index_mut.result.now c.tell.new.call c.index.result.now at c.tell.ensures c.index.ensures (sym c.if-is_spent.ensures)) }
