use Rattle.std.proofs.Common.{rules}
use Rattle.pair.proofs.Stepping.{lawful}
use Rattle.pair.proofs.ends.Pair.request.Goals as goal

pub returns-clause-law : goal.returns-clause-law
returns-clause-law g c = lawful g.R.Register.limit g.U.Link.waits g.D.Link.waits _ _ _ (search rules)
