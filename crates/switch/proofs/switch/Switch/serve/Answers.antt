-- A frame served with the user's limit keeps what holds.
use Rattle.std.proofs.Common.{refl}
use Rattle.switch.proofs.SoundServing.{kept_serving, served_with}
use Rattle.switch.proofs.SoundSwitch.{facts, sound_switch}
use Rattle.switch.proofs.switch.Switch.serve.Goals as goal

pub invariant_of-self : goal.invariant_of-self
invariant_of-self g c =
    let me = c.args.self.now in
    let told = served_with g.U.Link.takes g.D.Link.sends c.limit_of-limit.result _ c.args.user _ _ _ _ _ _ _ c.limit_of-limit.ensures c.serve.ensures.outcome in
    facts (g.R.Register.limit me.register) me c.serve.new.self (kept_serving g.U.Link.takes g.D.Link.sends (g.R.Register.limit me.register) c.args.user _ _ _ _ _ _ _ (sound_switch me) told) me.limits

pub returns : goal.returns
returns g c =
    let me = c.args.self.now in
    let told = served_with g.U.Link.takes g.D.Link.sends c.limit_of-limit.result _ c.args.user _ _ _ _ _ _ _ c.limit_of-limit.ensures c.serve.ensures.outcome in
    record { outcome = told; register = refl }
