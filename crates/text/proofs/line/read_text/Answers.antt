use Rattle.std.proofs.Common.{length, Ok, sym, ap, ◌∙◌, arith}
use Rattle.std.proofs.lemmas.Result.{err_from_is_err_and}
use Rattle.text.specs.Octets.{held}
use Rattle.text.specs.Text.{all_digits}
use Rattle.text.proofs.Lines.{of_pair, reading_next, reading_stops, reading_all, passes, size_checked}
use Rattle.text.proofs.Promises.{read_text_promise}
use Rattle.text.proofs.line.read_text.Goals as goal

pub returns-in_err-byte_at : goal.returns-in_err-byte_at
returns-in_err-byte_at c =
    let line = c.args.line.now in
    let p = err_from_is_err_and c.from_residual-in_err-byte_at.result c.from_residual-in_err-byte_at.ensures.1 in
    let wrong = of_pair line c.loop-i.i (omega arith) _ _ c.as_chunks.ensures.front c.in_err-byte_at.ensures in
    let stops = reading_stops line c.loop-i.i (omega arith) (held c.loop-i.octets) _ c.loop-i.invariant wrong in
    rw (p.1, p.2) (record { outcome = stops ∙ sym (passes line (sym c.in_ok-check_size.ensures)); spelling = tt })

pub loop-i-preserved : goal.loop-i-preserved
loop-i-preserved c =
    let line = c.args.line.now in
    let few = (size_checked (length line) (sym c.in_ok-check_size.ensures)).0 in
    let right = of_pair line c.loop-i.i (omega arith) _ _ c.as_chunks.ensures.front c.in_ok-byte_at.ensures in
    reading_next line c.loop-i.i (omega arith) (held c.loop-i.octets) _ _ few c.loop-i.invariant right c.push.ensures

pub returns : goal.returns
returns c =
    let line = c.args.line.now in
    let size = sym c.in_ok-check_size.ensures in
    let even = size_checked (length line) size in
    let done = reading_all line c.loop-i.i (held c.loop-i.octets) (omega arith) c.loop-i.invariant in
    let outcome = ap Ok done.1 ∙ sym (passes line size ∙ ap (λ o. all_digits o line) done.0) in
    record { outcome = outcome; spelling = read_text_promise line (Ok c.loop-i.octets) outcome }
