use Rattle.std.proofs.Common.{rules, tests, eqb, ◌∙◌}
use Rattle.std.proofs.lemmas.Iterator.{YieldsList-from_slice}
use Rattle.std.proofs.lemmas.Iterator.Search.{find_from_yields_List}
use Rattle.books.proofs.Shown.{found_call}
use Rattle.books.proofs.books.counting.is_shown.Goals as goal

pub returns : goal.returns
returns c =
    let found = find_from_yields_List (λ x. eqb x.id.0 c.args.call.0) _ _ c.find.result c.find.ensures.ran (YieldsList-from_slice c.args.shown.now cc) (λ x b q k. search (rules, tests)) ∙ found_call c.args.call.0 c.args.shown.now in
    search (rules, tests)
