use Rattle.std.proofs.Common.{rules}
use Rattle.std.proofs.lemmas.List.Sorted.{answers_always}
use Rattle.register.proofs.Tables.{few, hit, miss}
use Rattle.register.proofs.table.Table.find.Goals as goal

pub returns-in-Ok : goal.returns-in-Ok
returns-in-Ok c =
    let t = c.args.self.now in
    record {
      limit = hit c.args.user.0 c.in-Ok.at t.entries.now t.order c.in-Ok.ensures.bound (c.in-Ok.ensures.position (λ e. e.user) (answers_always _ _ _ (λ f a r g k. search rules)) _);
      range = few t.entries.now t.limits c.in-Ok.at c.in-Ok.ensures.bound;
    }

pub returns-in-Err-clause-limit : goal.returns-in-Err-clause-limit
returns-in-Err-clause-limit c =
    let t = c.args.self.now in
    miss c.args.user.0 c.in-Err.field-0 t.entries.now t.order (c.in-Err.ensures.position (λ e. e.user) (answers_always _ _ _ (λ f a r g k. search rules)))
