use Rattle.std.proofs.Common.{◌≡◌, drop, string_bytes}
use Rattle.lister.specs.Steps.{progress, fed}
use Rattle.lister.proofs.lines.Lister.feed.Given as goal

abbrev pub invariant-loop-byte : goal.invariant-loop-byte
invariant-loop-byte l = fed (progress l.self (string_bytes l.out)) (drop l.byte-index l.chunk) ≡ fed (progress l.initial.self (string_bytes l.initial.out)) l.chunk
