-- A call cleared keeps what holds.
use Rattle.switch.proofs.Sound.{kept_at}
use Rattle.switch.proofs.SoundCalls.{kept_clears}
use Rattle.switch.proofs.SoundSwitch.{facts, sound_switch}
use Rattle.switch.proofs.switch.Switch.clear.Goals as goal

pub invariant_of-self : goal.invariant_of-self
invariant_of-self g c =
    let me = c.args.self.now in
    facts (g.R.Register.limit me.register) me c.clear.new.self (kept_at (g.R.Register.limit me.register) _ _ _ c.clear.ensures.state (kept_clears _ _ c.args.call (sound_switch me))) me.limits
