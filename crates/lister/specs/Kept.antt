-- The first bytes of a line. Assumes nothing.
use Rattle.std.specs.Prelude.{ℕ, cond, List, [], ◌∷◌, ◌++◌, length, nat_lt}
use Rattle.text.specs.declared.buffer.Buffer.{Buffer}
use Rattle.text.specs.Octets.{held}

-- the bytes that are kept
abbrev pub front : {n : ℕ} → Buffer n → List ℕ
front b = held b

-- one more byte of the line, of which the first 65 are kept
abbrev pub with_byte : List ℕ → ℕ → List ℕ
with_byte bs b = cond (nat_lt (length bs) 65) (bs ++ b ∷ []) bs
