use Rattle.std.proofs.Common.{◌++◌, string_bytes, sym, ap, ◌∙◌, append-nil}
use Rattle.std.proofs.lemmas.List.{drop_all}
use Rattle.text.specs.Text.{text}
use Rattle.text.proofs.Promises.{write_text_promise}
use Rattle.text.proofs.line.write_text.Goals as goal

pub returns-clause-spelling : goal.returns-clause-spelling
returns-clause-spelling c some few =
    let bytes = c.args.bytes.now in
    let out = string_bytes c.loop-b.out in
    let outcome = sym (append-nil out) ∙ ap (λ l. out ++ text l) (sym (drop_all _ bytes c.loop-b-test.false)) ∙ c.loop-b.invariant in
    write_text_promise bytes _ (λ i. (c.type_inv.bytes i).fits) outcome some few
