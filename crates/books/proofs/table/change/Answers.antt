use Rattle.std.proofs.Common.{rules}
use Rattle.std.proofs.lemmas.List.Edits.{map_over_more}
use Rattle.books.proofs.table.change.Goals as goal

pub loop-row-preserved : goal.loop-row-preserved
loop-row-preserved g c = λ h gives. let so_far = c.loop-row.invariant h gives in let made = gives _ _ c.f.ensures in search (rules, map_over_more h)
