use Rattle.std.proofs.Common.{◌+◌, vec_items, sym, ap, ◌∙◌, subst, arith, rules}
use Rattle.links.specs.Queue.{cells, round}
use Rattle.links.proofs.Queues.{length_cells, place_spot}
use Rattle.links.proofs.Round.{pushed, take_set, Spot}
use Rattle.links.proofs.queue.ByteQueue.push.Goals as goal

pub returns : goal.returns
returns c =
    let me = c.args.self.now in
    let long = length_cells me in
    let sp = subst (Spot (cells me) me.head me.used) (sym c.place_after-at.ensures) (place_spot me me.used (omega arith) (omega (arith, c.requires))) in
    record {
      held =
          ap (λ m. round m me.head (me.used + 1)) (take_set me.size (vec_items me.memory) c.place_after-at.result c.args.byte)
          ∙ pushed (cells me) me.head me.used _ c.args.byte (omega (arith, long, me.start)) (omega (arith, long, c.requires)) sp;
      memory = search rules;
    }
