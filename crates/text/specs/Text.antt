-- Bytes as a line of text: pairs of hexadecimal digits. Assumes nothing.
use Rattle.std.specs.Prelude.{ℕ, ◌+◌, ◌*◌, ◌%◌, cond, ◌||◌, List, [], ◌∷◌, ◌++◌, length, is_some, Some, None, Ok, Err, Option, Result, ◌==◌, nat_lt}
use Rattle.std.specs.Option.{unwrap_or}
use Rattle.text.specs.declared.fault.Fault.{Fault}
use Rattle.text.specs.Fault.{in_line, after, unless}
use Rattle.text.specs.Hex.{digit_of, pair}
use Rattle.text.specs.Octets.{Octets, held}

-- what is written of bytes
abbrev pub text : List ℕ → List ℕ
text [] = []
text (b ∷ bs) = pair b ++ text bs

-- the place of the first byte that is no digit, counted from i
abbrev pub no_digit : ℕ → List ℕ → Option ℕ
no_digit i [] = None
no_digit i (b ∷ bs) = cond (is_some (digit_of b)) (no_digit (i + 1) bs) (Some i)

-- the bytes that digits write, pair by pair
abbrev pub bytes : List ℕ → List ℕ
bytes [] = []
bytes (h ∷ []) = []
bytes (h ∷ l ∷ ds) = (unwrap_or (digit_of h) 0 * 16 + unwrap_or (digit_of l) 0) ∷ bytes ds

abbrev pub all_digits : Option ℕ → List ℕ → Result (List ℕ) Fault
all_digits (Some i) line = Err (in_line 3 i)
all_digits None line = Ok (bytes line)

-- the size of a line, with its checks in their order
abbrev pub checks_size : ℕ → Result Unit Fault
checks_size n =
    unless (nat_lt 64 n) (in_line 1 64)
    (unless (n == 0 || n % 2 == 1) (in_line 2 n)
    (Ok tt))

-- what is read of a line
abbrev pub reads_text : List ℕ → Result (List ℕ) Fault
reads_text line = after (checks_size (length line)) (λ _. all_digits (no_digit 0 line) line)

-- the value of a byte at a place as a digit
abbrev pub digit_or : Option ℕ → ℕ → Result ℕ Fault
digit_or (Some v) i = Ok v
digit_or None i = Err (in_line 3 i)

abbrev pub digit_at : ℕ → ℕ → Result ℕ Fault
digit_at i b = digit_or (digit_of b) i

-- the byte that two digits at a place and the next spell
abbrev pub byte_at : ℕ → ℕ → ℕ → Result ℕ Fault
byte_at i h l = after (digit_at i h) (λ u. after (digit_at (i + 1) l) (λ v. Ok (u * 16 + v)))

-- an answer by the bytes that it holds
abbrev pub told_octets : Result Octets Fault → Result (List ℕ) Fault
told_octets (Ok o) = Ok (held o)
told_octets (Err f) = Err f
