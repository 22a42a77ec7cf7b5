use Rattle.std.proofs.Common.{◌≡◌, IfOk, string_bytes, rules}
use Rattle.std.proofs.lemmas.Result.{IfOk-weaker}
use Rattle.lister.specs.Steps.{progress, finished}
use Rattle.lister.proofs.Inputs.{finishes}
use Rattle.lister.proofs.lines.Lister.finish.Goals as goal

pub returns-then-is_open-clause-law : goal.returns-then-is_open-clause-law
returns-then-is_open-clause-law c =
    let s = c.args.self.now in
    let s' = c.end_line.new.self in
    let out = string_bytes c.args.out.now in
    let out' = string_bytes c.end_line.new.out in
    let exact : IfOk c.end_line.result (λ _. progress s' out' ≡ finished (progress s out)) = search rules in
    IfOk-weaker c.end_line.result _ _ (λ _. finishes s s' out out') exact

pub returns-clause-law : goal.returns-clause-law
returns-clause-law c =
    let s = c.args.self.now in
    let out = string_bytes c.args.out.now in
    let exact : progress s out ≡ finished (progress s out) = search rules in
    finishes s s out out exact
