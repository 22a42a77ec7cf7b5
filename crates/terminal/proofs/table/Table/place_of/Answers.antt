-- The place is that of the first call that passes.
use Rattle.std.proofs.Common.{eqb, rules, tests}
use Rattle.std.proofs.lemmas.Iterator.{YieldsList-from_slice}
use Rattle.std.proofs.lemmas.Iterator.Search.{position_from_yields_List}
use Rattle.terminal.proofs.Marks.{place_is}
use Rattle.terminal.proofs.table.Table.place_of.Goals as goal

pub returns : goal.returns
returns c =
    rw (place_is c.args.id.0 c.args.self.now) (position_from_yields_List (λ k. eqb k.id.0 c.args.id.0) _ _ c.position.result c.position.ensures.ran (YieldsList-from_slice c.args.self.now cc) (λ x b q k. search (rules, tests)))
