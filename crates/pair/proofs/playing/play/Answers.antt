use Rattle.std.proofs.Common.{vec_items}
use Rattle.pair.proofs.Played.{plays}
use Rattle.pair.proofs.playing.play.Goals as goal

pub returns : goal.returns
returns g c =
    plays g.R.Register.limit g.U.Link.waits g.D.Link.waits c.args.pair.now c.loop-call.pair c.args.calls.now (vec_items c.loop-call.log) c.loop-call.call-index c.loop-call-test.false c.loop-call.invariant.1 c.loop-call.invariant.2 c.loop-call.invariant.0
