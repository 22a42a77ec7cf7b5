use Rattle.std.proofs.Common.{◌∙◌, sym, rules, tests}
use Rattle.std.proofs.lemmas.Iterator.{YieldsList-from_slice}
use Rattle.std.proofs.lemmas.Iterator.Search.{all_from_yields_List}
use Rattle.std.proofs.lemmas.List.Sorted.{answers_always}
use Rattle.register.specs.User.{before, is_user}
use Rattle.register.specs.declared.table.Entry.{Entry}
use Rattle.register.proofs.Tables.{rise_is, rise_not}
use Rattle.register.proofs.table.checks.users_rise.Goals as goal

pub returns-then-all : goal.returns-then-all
returns-then-all c =
    let es = c.args.entries.now in
    rise_is es _ (sym (all_from_yields_List (λ (e : Entry). is_user e.user.0) _ _ _ c.all.ensures.ran (YieldsList-from_slice es cc) (λ x b q k. search (rules, tests))) ∙ c.if-all.true) (c.is_sorted_by.ensures.cases (λ x y. before x.user.0 y.user.0) (answers_always _ _ _ (λ f a r g k. search (rules, tests))))

pub returns-else-all : goal.returns-else-all
returns-else-all c =
    let es = c.args.entries.now in
    c.if-all.false ∙ rise_not es (sym (all_from_yields_List (λ (e : Entry). is_user e.user.0) _ _ _ c.all.ensures.ran (YieldsList-from_slice es cc) (λ x b q k. search (rules, tests))) ∙ c.if-all.false)
