-- Hexadecimal digits: the values 0 to 15 are written 0–9 and A–F, a byte as two of them. Assumes nothing.
use Rattle.std.specs.Prelude.{ℕ, suc, ◌+◌, ◌-◌, ◌*◌, ◌/◌, ◌%◌, Bool, true, false, cond, ◌&&◌, List, [], ◌∷◌, Some, None, Option, ◌==◌, nat_le, nat_lt}

-- the digit of a value below 16: '0' is 48, 'A' is 65
abbrev pub digit : ℕ → ℕ
digit v = cond (nat_lt v 10) (48 + v) (55 + v)

-- the value of a digit
abbrev pub digit_of : ℕ → Option ℕ
digit_of b = cond (nat_le 48 b && nat_le b 57) (Some (b - 48)) (cond (nat_le 65 b && nat_le b 70) (Some (b - 55)) None)

-- what an entry of the table of values says: 255 means no digit
abbrev pub entry_says : ℕ → Option ℕ
entry_says v = cond (v == 255) None (Some v)

abbrev pub same : Option ℕ → Option ℕ → Bool
same None None = true
same None (Some b) = false
same (Some a) None = false
same (Some a) (Some b) = a == b

-- the test of an entry: what it says is the value of the byte at whose place it stands
abbrev pub right : ℕ → ℕ → Bool
right b v = same (entry_says v) (digit_of b)

-- a test passes at each entry of a table and its place, counted from i
abbrev pub every : (ℕ → ℕ → Bool) → ℕ → List ℕ → Bool
every f i [] = true
every f i (x ∷ xs) = f i x && every f (suc i) xs

-- the two digits of a byte, the high one first
abbrev pub pair : ℕ → List ℕ
pair b = digit (b / 16) ∷ digit (b % 16) ∷ []

abbrev pub both : Option ℕ → Option ℕ → Option ℕ
both None l = None
both (Some h) None = None
both (Some h) (Some l) = Some (h * 16 + l)

abbrev pub byte_of : ℕ → ℕ → Option ℕ
byte_of h l = both (digit_of h) (digit_of l)
