-- The write through the lent call is the change.
use Rattle.std.proofs.Common.{set, ap, ◌∙◌, rules}
use Rattle.terminal.proofs.Marks.{wrote, unchanged}
use Rattle.terminal.proofs.table.Table.change.Goals as goal

pub returns-in-Some : goal.returns-in-Some
returns-in-Some g c = λ f h.
    ap (λ x. set c.args.self.now c.in-Some.i x) (h c.at.result.now c.f.new.arg2 (search rules)) ∙ wrote f c.args.id.0 c.in-Some.i c.args.self.now c.at.result.now (cc) c.at.ensures.value

pub returns-in_default : goal.returns-in_default
returns-in_default g c = λ f h. unchanged f c.args.id.0 c.args.self.now cc
