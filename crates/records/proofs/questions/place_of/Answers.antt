use Rattle.std.proofs.Common.{ℕ, cond, eqb, ltb, length, Some, None, sym, ap, ◌∙◌, rules, tests}
use Rattle.std.proofs.lemmas.Iterator.{YieldsList-from_slice}
use Rattle.std.proofs.lemmas.Iterator.Search.{position_from_yields_List}
use Rattle.records.specs.declared.legs.Record.{Record}
use Rattle.records.proofs.Asked.{place_is}
use Rattle.records.proofs.questions.place_of.Goals as goal

pub returns : goal.returns
returns c =
    let rs = c.args.records.now in
    position_from_yields_List (λ (r : Record). eqb r.id.0 c.args.call.0) _ _ _ c.position.ensures.ran (YieldsList-from_slice rs cc) (λ x b q k. search (rules, tests))
    ∙ ap (λ (k : ℕ). cond (ltb k (length rs)) (Some k) None) (sym (place_is c.args.call.0 rs))
