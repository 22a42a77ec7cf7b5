-- A session more keeps what holds.
use Rattle.switch.proofs.Sound.{kept_at}
use Rattle.switch.proofs.SoundCalls.{kept_opened}
use Rattle.switch.proofs.SoundSwitch.{facts, sound_switch}
use Rattle.switch.proofs.switch.Switch.open_session.Goals as goal

pub invariant_of-self : goal.invariant_of-self
invariant_of-self g c =
    let me = c.args.self.now in
    facts (g.R.Register.limit me.register) me c.open_session.new.self (kept_at (g.R.Register.limit me.register) _ _ _ c.open_session.ensures.state (kept_opened _ _ c.args.user (sound_switch me))) me.limits
