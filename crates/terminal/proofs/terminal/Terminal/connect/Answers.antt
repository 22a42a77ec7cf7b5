-- A call that passes the checks keeps the identifiers rising and finds room.
use Rattle.std.proofs.Common.{sym, subst, ap, ◌∙◌, arith}
use Rattle.terminal.specs.Calls.{rising}
use Rattle.terminal.specs.State.{unmarked}
use Rattle.terminal.proofs.Marks.{Fits, fits, rising_more, known_above}
use Rattle.terminal.proofs.terminal.Terminal.connect.Goals as goal

pub invariant_of-self : goal.invariant_of-self
invariant_of-self c =
    let me = c.self.inside in
    let was = c.self.invariant in
    let h = subst (λ m. Fits m c.args.call) (sym c.self.view_is) (fits c.args.self.now c.args.call tt c.in_ok-check_connect.ensures) in
    record { ids = ap (rising c.args.call.0) c.push.ensures ∙ rising_more 0 me.last me.table (unmarked c.args.call) h.above was.ids; top = h.top; asked = known_above me.last c.args.call.0 me.request (omega (arith, h.above)) was.asked }
