-- An empty board has what holds of a switch.
use Rattle.std.proofs.Common.{refl}
use Rattle.switch.proofs.SoundSwitch.{parts_facts, parts_model}
use Rattle.switch.proofs.switch.Switch.new.Goals as goal

pub invariant_of-result : goal.invariant_of-result
invariant_of-result g c = parts_facts (g.R.Register.limit c.args.register) c.args.parts

pub returns : goal.returns
returns g c = record { state = parts_model c.args.parts; register = refl }
