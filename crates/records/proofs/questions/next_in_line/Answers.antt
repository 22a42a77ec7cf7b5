use Rattle.std.proofs.Common.{◌≡◌, rules, subst}
use Rattle.std.specs.Iterator.Runs.{ItemsMapTo}
use Rattle.records.proofs.Asked.{line_is}
use Rattle.records.proofs.questions.next_in_line.Goals as goal

pub returns : goal.returns
returns c =
    let p = c.find_map.ensures.runs in
    let e : p.0.from.rest.now ≡ c.args.records.now = cc in
    line_is _ _ c.args.user.0 c.args.records.now p.0 (λ x o q k. search rules) _ (subst (λ l. ItemsMapTo p.0 (λ y. y.now) l) e (c.iter.ensures.runs p.0 p.0.seen)) p.2
