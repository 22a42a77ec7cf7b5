-- The closure sets the mark, and leaves the identifiers.
use Rattle.std.proofs.Common.{refl, ap, ◌∙◌, rules}
use Rattle.terminal.specs.Calls.{rising, own_to}
use Rattle.terminal.proofs.Marks.{rising_change}
use Rattle.terminal.proofs.terminal.Terminal.set_own.Goals as goal

pub invariant_of-self : goal.invariant_of-self
invariant_of-self c =
    let me = c.self.inside in
    record {
      ids = ap (rising me.last) (c.change.ensures (own_to c.args.on) (λ x y e. search rules)) ∙ rising_change (own_to c.args.on) (λ _. refl) c.args.call.0 0 me.last me.table ∙ c.self.invariant.ids;
      top = c.self.invariant.top;
      asked = c.self.invariant.asked;
    }

pub returns : goal.returns
returns c = rw (c.change.ensures (own_to c.args.on) (λ x y e. search rules), ← c.self.view_is) refl
