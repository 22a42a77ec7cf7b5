use Rattle.std.proofs.Common.{rules, ◌<◌, ◌^◌, refl, sym, ◌∙◌, subst, arith}
use Rattle.std.proofs.Math.ListN.{length-replicate}
use Rattle.std.proofs.lemmas.Iterator.{YieldsList-from_slice}
use Rattle.std.proofs.lemmas.Iterator.Consumers.{fits_from_yields_list}
use Rattle.std.proofs.lemmas.List.Recursion.{is_sum_by}
use Rattle.frames.specs.Bits.{sum}
use Rattle.frames.proofs.Loops.{splitting_first, narrow_part}
use Rattle.frames.proofs.bits.split.Goals as goal

pub sum-left-requires-clause-fits : goal.sum-left-requires-clause-fits
sum-left-requires-clause-fits g c =
    fits_from_yields_list c.iter.result _ (YieldsList-from_slice c.args.widths.now cc)
    (subst (λ n. n < 2 ^ 32) (is_sum_by sum (λ w. w) refl (λ _ _. refl) c.args.widths.now) (omega arith))

pub loop-i-init : goal.loop-i-init
loop-i-init g c =
    splitting_first c.args.widths.now c.args.number c.sum-left.result _
    (length-replicate g.row.N 0 ∙ sym c.told-widths) c.requires.narrow
    (search (rules, is_sum_by sum (λ w. w) refl (λ _ _. refl)))
    c.requires.small

pub overflow_cast-out-in-loop-i : goal.overflow_cast-out-in-loop-i
overflow_cast-out-in-loop-i g c = record { fits = narrow_part c.args.widths.now c.args.number c.loop-i.i c.loop-i.left c.loop-i.rest c.loop-i.out (omega arith) c.loop-i.invariant }
