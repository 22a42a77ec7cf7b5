use Rattle.std.proofs.Common.{rules}
use Rattle.register.proofs.Tables.{means}
use Rattle.register.proofs.table.Table.new.Goals as goal

pub returns-clause-meaning : goal.returns-clause-meaning
returns-clause-meaning c = means c.args.entries.now (search rules) (search rules)
