use Rattle.std.proofs.Common.{sym, ◌∙◌, rules, tests}
use Rattle.std.proofs.lemmas.Iterator.{YieldsList-from_slice}
use Rattle.std.proofs.lemmas.Iterator.Consumers.{YieldsList-from_filter, count_from_yields_List}
use Rattle.records.specs.Legs.{standing, is_on_hold}
use Rattle.records.specs.declared.legs.Record.{Record}
use Rattle.records.proofs.Asked.{held_is}
use Rattle.records.proofs.questions.held_by.Goals as goal

pub returns : goal.returns
returns c =
    count_from_yields_List _ _ c.count.ensures.ran (YieldsList-from_filter _ (λ (r : Record). is_on_hold (standing c.args.user.0 r)) (YieldsList-from_slice c.args.records.now cc) c.filter.ensures.closure (λ x b q k. search (rules, tests)))
    ∙ sym (held_is c.args.user.0 c.args.records.now)
