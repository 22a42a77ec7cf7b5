-- The line so far, one user more, and its end.
use Rattle.std.proofs.Common.{true, false, set, take, sym, ap, ◌∙◌, arith}
use Rattle.std.proofs.lemmas.List.{length-set}
use Rattle.waiting.specs.Line.{step_by}
use Rattle.waiting.proofs.Chains.{stepped_any}
use Rattle.waiting.proofs.Places.{at_end, at_full, begun, more}
use Rattle.waiting.proofs.walk.walk.Goals as goal

pub loop-length-init : goal.loop-length-init
loop-length-init c = begun c.args.records.now c.args.user c.args.line.now c.requires.places

pub returns-in_default : goal.returns-in_default
returns-in_default c =
    let k = c.loop-length in
    let ends = ap (λ o. step_by o (take k.length k.line)) (sym c.next_in_line.ensures ∙ c.in_default.is) in
    let done = at_end c.args.records.now c.args.user k.length k.line k.last c.args.line.now false k.invariant (omega arith) c.loop-length-test.true (omega (arith, length-set c.args.line.now 0 c.args.user, c.requires.places)) ends in
    record { outcome = done.0; after = done.1 }

pub returns-then-contains : goal.returns-then-contains
returns-then-contains c =
    let k = c.loop-length in
    let ends = stepped_any _ _ c.in-Some.next true (sym c.in-Some.ensures) (sym c.if-contains.ensures.value) in
    let done = at_end c.args.records.now c.args.user k.length k.line k.last c.args.line.now true k.invariant (omega arith) c.loop-length-test.true (omega (arith, length-set c.args.line.now 0 c.args.user, c.requires.places)) ends in
    record { outcome = done.0; after = done.1 }

pub loop-length-preserved : goal.loop-length-preserved
loop-length-preserved c =
    let k = c.loop-length in
    let goes = stepped_any _ _ c.in-Some.next false (sym c.in-Some.ensures) (sym c.if-contains.ensures.value) in
    more c.args.records.now c.args.user k.length k.line k.last (set c.args.line.now 0 c.args.user) c.in-Some.next k.invariant c.loop-length-test.true (omega (arith, length-set c.args.line.now 0 c.args.user, c.requires.places)) goes

pub returns : goal.returns
returns c =
    let k = c.loop-length in
    let done = at_full c.args.records.now c.args.user k.length k.line k.last c.args.line.now c.is_some.result c.next_in_line-2.result c.requires.short k.invariant (omega arith) (omega (arith, length-set c.args.line.now 0 c.args.user, c.requires.places)) c.is_some.ensures c.next_in_line-2.ensures in
    record { outcome = done.0; after = done.1 }
