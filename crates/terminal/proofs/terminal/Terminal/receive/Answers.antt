-- The law follows from what the frame does.
use Rattle.std.proofs.Common.{refl}
use Rattle.terminal.proofs.Lawful.{lawful_effect}
use Rattle.terminal.proofs.terminal.Terminal.receive.Goals as goal

pub returns-in-Some-clause-law : goal.returns-in-Some-clause-law
returns-in-Some-clause-law g c =
    let m = c.args.self.now in
    let f = c.in-Some.frame in
    rw (c.arrive.ensures.outcome, c.arrive.ensures.state) (lawful_effect m f m.request f.body c.arrive.ensures.rising refl)
