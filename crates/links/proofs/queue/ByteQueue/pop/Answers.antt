use Rattle.std.proofs.Common.{◌≡◌, ◌-◌, ◌∷◌, get_or, vec_items, sym, ap, ◌∙◌, subst, arith, rules}
use Rattle.std.proofs.lemmas.List.{get_or_read, get_or-take}
use Rattle.links.specs.Queue.{cells, round}
use Rattle.links.proofs.Queues.{length_cells, place_spot}
use Rattle.links.proofs.Round.{popped, Spot}
use Rattle.links.proofs.queue.ByteQueue.pop.Goals as goal

pub returns : goal.returns
returns c =
    let me = c.args.self.now in
    let long = length_cells me in
    let sp = subst (Spot (cells me) me.head 1) (sym c.place_after-self.ensures) (place_spot me 1 (omega (arith, c.requires)) (omega (arith, c.requires))) in
    let byte : get_or (cells me) me.head 0 ≡ c.index-byte.result.now =
    get_or-take me.size (vec_items me.memory) me.head 0 (omega (arith, me.start))
    ∙ sym (get_or_read (vec_items me.memory) me.head c.index-byte.result.now (omega (arith, me.memory.ok.0, me.start, me.within)) c.index-byte.ensures 0) in
    record {
      held =
          popped (cells me) me.head me.used _ (omega (arith, long, me.start)) c.requires (omega (arith, long, me.fits)) sp
          ∙ ap (λ x. x ∷ round (cells me) c.place_after-self.result (me.used - 1)) byte;
      memory = search rules;
    }
