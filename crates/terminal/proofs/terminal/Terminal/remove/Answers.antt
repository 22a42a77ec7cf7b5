-- The identifiers that are left still rise.
use Rattle.terminal.proofs.Marks.{rising_without}
use Rattle.terminal.proofs.terminal.Terminal.remove.Goals as goal

pub invariant_of-self : goal.invariant_of-self
invariant_of-self c =
    let me = c.self.inside in
    record { ids = rw c.remove.ensures (rising_without c.args.call.0 0 me.last me.table c.self.invariant.ids); top = c.self.invariant.top; asked = c.self.invariant.asked }
