-- The record written at its place is the call that ended.
use Rattle.std.proofs.Common.{refl, sym, ◌∙◌}
use Rattle.records.proofs.Tables.{placed_none}
use Rattle.records.specs.Changes.{cleared}
use Rattle.switch.specs.State.{model}
use Rattle.switch.proofs.Boards.{changed, ended_at, ended_nowhere, there}
use Rattle.switch.proofs.board.Board.end.Goals as goal

pub invariant_of-self : goal.invariant_of-self
invariant_of-self c =
    let me = c.args.self.now in
    let at = there me c.args.call.0 c.in-Some.i c.index_mut.result.now c.in-Some.ensures c.index_mut.ensures.value in
    changed me c.args.call.0 c.in-Some.i cleared c.index_mut.result.now c.clear.new.self at (λ _. refl) c.clear.ensures.record

pub returns-in-Some : goal.returns-in-Some
returns-in-Some c =
    let me = c.args.self.now in
    let at = there me c.args.call.0 c.in-Some.i c.index_mut.result.now c.in-Some.ensures c.index_mut.ensures.value in
    record { state = ended_at (model me) c.args.call.0 c.in-Some.i _ _ cleared c.index_mut.result.now c.clear.new.self at c.clear.ensures.record c.clear.ensures.used c.clear.ensures.size }

pub returns-in_default : goal.returns-in_default
returns-in_default c = record { state = ended_nowhere (model c.args.self.now) c.args.call.0 cleared (placed_none _ _ (sym c.record_place.ensures ∙ c.in_default.is)) }
