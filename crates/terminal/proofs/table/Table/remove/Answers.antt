-- The removal at the place leaves the calls without it.
use Rattle.terminal.proofs.Marks.{cut, uncut}
use Rattle.terminal.proofs.table.Table.remove.Goals as goal

pub returns-in-Some : goal.returns-in-Some
returns-in-Some c = rw (c.remove.ensures.items, c.self.view_is) (cut c.args.id.0 c.in-Some.i c.args.self.now cc)

pub returns-in_default : goal.returns-in_default
returns-in_default c = uncut c.args.id.0 c.args.self.now cc
