-- The law of bytes and their text, in the words of the format. Assumes nothing.
use Rattle.std.specs.Prelude.{◌≡◌, ℕ, ◌<◌, List, Ok, slice_index}
use Rattle.text.specs.Text.{text, reads_text}

-- numbers that are bytes
abbrev pub Bytes : List ℕ → Type 0
Bytes bs = (i : ℕ) → slice_index bs i < 256

-- the line of text that spells bytes: what is written of them is it, what is read of it is them, and no second line reads so
pub record Spelling (bs line : List ℕ) : Type 0 where
  pub written : text bs ≡ line
  pub read_back : reads_text line ≡ Ok bs
  pub one_line : (other : List ℕ) → reads_text other ≡ Ok bs → other ≡ line
