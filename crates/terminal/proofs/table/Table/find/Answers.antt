-- The first call that passes is the one found.
use Rattle.std.proofs.Common.{eqb, rules, tests, ◌∙◌}
use Rattle.std.proofs.lemmas.Iterator.{YieldsList-from_slice}
use Rattle.std.proofs.lemmas.Iterator.Search.{find_from_yields_List}
use Rattle.terminal.proofs.Marks.{found_is}
use Rattle.terminal.proofs.table.Table.find.Goals as goal

pub returns : goal.returns
returns c =
    c.copied.ensures ∙ (find_from_yields_List (λ k. eqb k.id.0 c.args.id.0) _ _ c.find.result c.find.ensures.ran (YieldsList-from_slice c.args.self.now cc) (λ x b q k. search (rules, tests)) ∙ found_is c.args.id.0 c.args.self.now)
