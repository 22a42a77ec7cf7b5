-- A frame that waits has 1 to 8 bytes. Assumes nothing.
use Rattle.std.specs.Prelude.{◌<◌, List, [], ◌∷◌, length, map}
use Rattle.std.specs.List.{All}
use Rattle.std.proofs.Common.{arith}
use Rattle.std.proofs.lemmas.List.Elements.{All-head, All-tail}
use Rattle.links.specs.Meaning.{Framed}
use Rattle.text.specs.declared.buffer.Buffer.{Buffer}
use Rattle.text.specs.Octets.{held}
use Rattle.text.proofs.Filling.{held_length}

pub framed : (ls : List (Buffer 8)) → All (λ (l : Buffer 8). 0 < length (held l)) ls → Framed (map held ls)
framed [] a = tt
framed (l ∷ ls) a = (All-head (λ (l : Buffer 8). 0 < length (held l)) l ls a, omega (arith, held_length l, l.fits), framed ls (All-tail (λ (l : Buffer 8). 0 < length (held l)) l ls a))
