use Rattle.pair.proofs.Stepping.{notify_lawful}
use Rattle.pair.proofs.ends.Pair.notify.Goals as goal

pub returns : goal.returns
returns g c =
    let told = c.plain_notify.ensures in
    record {
      outcome = told.outcome;
      same = told.same;
      law = notify_lawful g.R.Register.limit g.U.Link.waits g.D.Link.waits g.D.Link.longest g.E.Link.longest g.D.Link.sends g.met.D.Link.sent g.E.Link.waits g.E.Link.sends g.met.E.Link.sent c.args.user c.args.self.now c.plain_notify.new.self c.args.down.now c.plain_notify.new.down c.plain_notify.result told.outcome;
    }
