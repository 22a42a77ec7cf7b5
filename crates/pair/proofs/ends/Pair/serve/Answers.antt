use Rattle.std.proofs.Common.{rules}
use Rattle.pair.proofs.Stepping.{serve_lawful}
use Rattle.pair.proofs.ends.Pair.serve.Goals as goal

pub returns-then-eq-clause-law : goal.returns-then-eq-clause-law
returns-then-eq-clause-law g c = serve_lawful g.R.Register.limit g.U.Link.waits g.D.Link.waits g.U.Link.longest g.D.Link.longest g.V.Link.longest g.E.Link.longest g.U.Link.takes g.met.U.Link.taken g.D.Link.sends g.met.D.Link.sent g.V.Link.waits g.E.Link.waits g.V.Link.takes g.met.V.Link.taken g.E.Link.sends g.met.E.Link.sent _ _ _ c.args.up.now c.args.up.now c.args.down.now c.args.down.now _ (search rules)

pub returns-else-eq-clause-law : goal.returns-else-eq-clause-law
returns-else-eq-clause-law g c = serve_lawful g.R.Register.limit g.U.Link.waits g.D.Link.waits g.U.Link.longest g.D.Link.longest g.V.Link.longest g.E.Link.longest g.U.Link.takes g.met.U.Link.taken g.D.Link.sends g.met.D.Link.sent g.V.Link.waits g.E.Link.waits g.V.Link.takes g.met.V.Link.taken g.E.Link.sends g.met.E.Link.sent _ _ _ c.args.up.now c.serve-else-eq.new.up c.args.down.now c.serve-else-eq.new.down _ (search rules)
