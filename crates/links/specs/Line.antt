-- How frames stand as text lines: two hexadecimal digits for each byte, and a line feed at the end. Assumes nothing.
use Rattle.std.specs.Prelude.{◌≡◌, ℕ, ◌+◌, ◌*◌, true, cond, List, [], ◌∷◌, ◌++◌, length, Option, Some, None, ◌==◌}
use Rattle.text.specs.Text.{text, bytes}
use Rattle.links.specs.declared.queue.ByteQueue.{ByteQueue}
use Rattle.links.specs.Packing.{Packing, octets}
use Rattle.links.specs.Queue.{held, SameMemory}

-- what stands before the first line feed, which is 10, and after it
abbrev pub line : List ℕ → List ℕ
line [] = []
line (b ∷ bs) = cond (b == 10) [] (b ∷ line bs)

abbrev pub after_line : List ℕ → List ℕ
after_line [] = []
after_line (b ∷ bs) = cond (b == 10) bs (after_line bs)

-- the packing of a line link
abbrev pub in_lines : Packing
in_lines = record { longest = 32; cost = λ f. 2 * length f + 1; written = λ f. text f ++ 10 ∷ []; first = λ bs. bytes (line bs); after = after_line }

-- bytes that begin with what is left of a line
pub record Rest (bs : List ℕ) : Type 0 where
  pub whole : bs ≡ in_lines.written (in_lines.first bs) ++ in_lines.after bs
  pub octets : octets (in_lines.first bs) ≡ true

-- the next byte of a line was taken out
pub record Byte (a b : ByteQueue) (v : ℕ) : Type 0 where
  pub first : in_lines.first (held a) ≡ v ∷ in_lines.first (held b)
  pub after : in_lines.after (held a) ≡ in_lines.after (held b)
  pub rest : Rest (held b)
  pub memory : SameMemory a b

-- its line feed was
pub record Ended (a b : ByteQueue) : Type 0 where
  pub first : in_lines.first (held a) ≡ []
  pub after : in_lines.after (held a) ≡ held b
  pub memory : SameMemory a b

abbrev pub NextByte : ByteQueue → ByteQueue → Option ℕ → Type 0
NextByte a b (Some v) = Byte a b v
NextByte a b None = Ended a b
