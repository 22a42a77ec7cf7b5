-- Requests that ask the same are the same. Assumes nothing.
use Rattle.std.proofs.Common.{◌≡◌, true, arith}
use Rattle.signalling.specs.Ask.{same_ask}
use Rattle.signalling.specs.declared.ask.Ask.{Ask}

pub same_asked : (a b : Ask) → same_ask a b ≡ true → a ≡ b
same_asked a b e = grind arith
