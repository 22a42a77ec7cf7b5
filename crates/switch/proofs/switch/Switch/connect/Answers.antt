-- A call more keeps what holds.
use Rattle.switch.proofs.Sound.{kept_at}
use Rattle.switch.proofs.SoundCalls.{kept_connected}
use Rattle.switch.proofs.SoundSwitch.{facts, sound_switch}
use Rattle.switch.proofs.switch.Switch.connect.Goals as goal

pub invariant_of-self : goal.invariant_of-self
invariant_of-self g c =
    let me = c.args.self.now in
    facts (g.R.Register.limit me.register) me c.connect.new.self (kept_at (g.R.Register.limit me.register) _ _ _ c.connect.ensures.state (kept_connected _ _ c.args.call c.args.first c.args.second (sound_switch me))) me.limits
