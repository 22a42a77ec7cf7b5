-- A notice told keeps what holds.
use Rattle.switch.proofs.SoundCalls.{kept_notifying}
use Rattle.switch.proofs.SoundSwitch.{facts, sound_switch}
use Rattle.switch.proofs.switch.Switch.notify.Goals as goal

pub invariant_of-self : goal.invariant_of-self
invariant_of-self g c =
    let me = c.args.self.now in
    facts (g.R.Register.limit me.register) me c.notify.new.self (kept_notifying g.D.Link.sends (g.R.Register.limit me.register) c.args.user _ _ _ _ _ (sound_switch me) c.notify.ensures.outcome) me.limits
