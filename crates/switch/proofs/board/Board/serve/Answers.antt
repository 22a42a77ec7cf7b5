-- A frame that was read has an identifier in range, and what its user was answered last can be answered again.
use Rattle.std.proofs.Common.{Ok, subst}
use Rattle.signalling.specs.Carrying.{Pulling}
use Rattle.switch.specs.State.{model}
use Rattle.switch.proofs.Ranges.{pulled_call}
use Rattle.switch.proofs.Sessions.{served_kept}
use Rattle.switch.proofs.board.Board.serve.Goals as goal

pub respond-requires : goal.respond-requires
respond-requires g c =
    let me = c.args.self.now in
    let takes = g.U.Link.takes in
    let pulling = subst (λ o. Pulling takes c.args.up.now c.pull.new.link (Ok o)) c.in-Some.is c.in_ok-frame.ensures in
    record { call = pulled_call takes c.args.up.now c.pull.new.link c.in-Some.frame pulling; kept = served_kept (model me) c.args.user c.in_ok-session.session me.answers c.in_ok-session.ensures }
