use Rattle.std.proofs.Common.{◌+◌, ◌++◌, length, ap, ◌∙◌, arith, length-take}
use Rattle.std.proofs.lemmas.Slice.{take-put_mid}
use Rattle.text.specs.Octets.{held}
use Rattle.text.proofs.Filling.{filled, held_length}
use Rattle.text.proofs.buffer.Buffer.append.Goals as goal

pub returns : goal.returns
returns g c =
    let me = c.args.self.now in
    let more = c.args.more.now in
    let k = c.min-count.result in
    let new = c.copy_from_slice.new.self in
    let long = held_length me in
    let copied = ap length c.copy_from_slice.ensures.after in
    take-put_mid me.len _ me.bytes new (me.len + k) (omega (arith, copied, length-take k more, c.min-count.ensures)) (omega (arith, me.size, me.fits))
    ∙ ap (λ l. held me ++ l) c.copy_from_slice.ensures.after
    ∙ filled (held me) more g.row.N k (omega (arith, me.fits)) (omega (arith, c.min-count.ensures))
