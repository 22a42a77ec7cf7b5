use Rattle.std.proofs.Common.{◌<◌, ◌^◌, refl, sym, subst, arith}
use Rattle.frames.proofs.Packing.{top_fits, holds}
use Rattle.frames.proofs.writer.pdu.Pdu.of.Goals as goal

pub overflow_cast-number-2 : goal.overflow_cast-number-2
overflow_cast-number-2 c = record { fits = top_fits c.total-bits.result c.join.result (omega arith) (subst (λ m. c.join.result < 2 ^ m) (sym c.total-bits.ensures) c.join.ensures.small) }

pub invariant_of-result : goal.invariant_of-result
invariant_of-result c =
    let h = holds c.args.fields.now c.total-bits.result c.join.result c.div_ceil.result c.total-bits.ensures c.join.ensures.value (omega (arith, c.div_ceil.ensures)) c.requires.few c.join.ensures.small in
    record { few = omega arith; short = rw (c.append.ensures, c.empty-octets.ensures, c.to_be_bytes.ensures) h.short }

pub returns : goal.returns
returns c =
    let h = holds c.args.fields.now c.total-bits.result c.join.result c.div_ceil.result c.total-bits.ensures c.join.ensures.value (omega (arith, c.div_ceil.ensures)) c.requires.few c.join.ensures.small in
    rw (c.append.ensures, c.empty-octets.ensures, c.to_be_bytes.ensures, h.same, c.total-bits.ensures) refl
