use Rattle.std.proofs.Common.{◌-◌, sym, ap, ◌∙◌}
use Rattle.links.proofs.Calls.{costs_used}
use Rattle.links.proofs.stored.Stored.free.Goals as goal

pub returns : goal.returns
returns g c =
    let me = c.args.self.now in
    c.free.ensures ∙ ap (λ n. me.queue.size - n) (sym (costs_used _ g.met.P.Packing.lawful me.queue me.packed))
