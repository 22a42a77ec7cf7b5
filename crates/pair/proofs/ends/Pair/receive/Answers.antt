use Rattle.std.proofs.Common.{refl}
use Rattle.law.proofs.Meant.{receiving_meant}
use Rattle.pair.proofs.Stepping.{lawful}
use Rattle.pair.proofs.ends.Pair.receive.Goals as goal

pub returns-clause-law : goal.returns-clause-law
returns-clause-law g c = lawful g.R.Register.limit g.U.Link.waits g.D.Link.waits _ _ _ (receiving_meant g.D.Link.waits g.D.Link.longest g.D.Link.takes g.met.D.Link.taken c.receive.ensures.outcome, refl, refl)
