-- What the link handed out is read.
use Rattle.std.proofs.Common.{replicate, Some, None, Ok, refl, subst, rules}
use Rattle.signalling.proofs.carrying.pull.Goals as goal

pub returns-in_default : goal.returns-in_default
returns-in_default g c = record { mem = c.take.new.out; length = None; took = search rules; says = refl }

pub returns : goal.returns
returns g c =
    record { mem = c.take.new.out; length = Some c.in-Some.count; took = subst (λ x. g.L.Link.takes c.args.link.now (replicate 32 0) c.take.new.self c.take.new.out (Ok x)) c.in-Some.is c.in_ok-count.ensures; says = c.read_first.ensures }
