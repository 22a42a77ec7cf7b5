use Rattle.std.proofs.Common.{rules, tests, ◌<◌, ◌^◌, refl, subst, arith}
use Rattle.std.proofs.lemmas.Iterator.{YieldsList-from_slice, YieldsList-from_map}
use Rattle.std.proofs.lemmas.Iterator.Consumers.{YieldsList-at, fits_by_from_yields_list}
use Rattle.std.proofs.lemmas.List.Recursion.{is_sum_by}
use Rattle.frames.specs.Bits.{total}
use Rattle.frames.specs.declared.bits.Field.{Field}
use Rattle.frames.proofs.bits.total.Goals as goal

pub sum-requires-clause-fits : goal.sum-requires-clause-fits
sum-requires-clause-fits c =
    fits_by_from_yields_list (λ (f : Field). f.width) c.args.fields.now c.map.result _
    (YieldsList-from_map _ (λ (f : Field). f.width) (YieldsList-at c.map.ensures.source (YieldsList-from_slice c.args.fields.now cc)) c.map.ensures.closure (λ x r q k. search (rules, tests)))
    (subst (λ n. n < 2 ^ 32) (is_sum_by total (λ (f : Field). f.width) refl (λ _ _. refl) c.args.fields.now) (omega arith))

pub returns : goal.returns
returns c = search (rules, is_sum_by total (λ (f : Field). f.width) refl (λ _ _. refl))
