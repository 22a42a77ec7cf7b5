use Rattle.std.proofs.Common.{string_bytes, sym, ap, ◌∙◌}
use Rattle.std.proofs.lemmas.List.{drop_all}
use Rattle.lister.specs.Steps.{progress, fed}
use Rattle.lister.proofs.Inputs.{feeds}
use Rattle.lister.proofs.lines.Lister.feed.Goals as goal

pub returns-clause-law : goal.returns-clause-law
returns-clause-law c =
    let chunk = c.args.chunk.now in
    let p = progress c.loop-byte.self (string_bytes c.loop-byte.out) in
    feeds _ _ chunk _ _ (ap (fed p) (sym (drop_all c.loop-byte.byte-index chunk c.loop-byte-test.false)) ∙ c.loop-byte.invariant)
