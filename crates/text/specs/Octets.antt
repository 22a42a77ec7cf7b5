-- The bytes that a buffer holds. Assumes nothing.
use Rattle.std.specs.Prelude.{ℕ, List, take}
use Rattle.text.specs.declared.buffer.Buffer.{Buffer}

abbrev pub held : {n : ℕ} → Buffer n → List ℕ
held b = take b.len b.bytes

-- as many bytes as a frame may have
abbrev pub Octets : Type 0
Octets = Buffer 32
