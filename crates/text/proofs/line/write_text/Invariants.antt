use Rattle.std.proofs.Common.{◌≡◌, ◌++◌, drop, string_bytes}
use Rattle.text.specs.Text.{text}
use Rattle.text.proofs.line.write_text.Given as goal

abbrev pub invariant-loop-b : goal.invariant-loop-b
invariant-loop-b l = string_bytes l.out ++ text (drop l.b-index l.bytes) ≡ text l.bytes
