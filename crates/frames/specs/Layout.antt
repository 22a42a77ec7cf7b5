-- The layout of frames: which fields stand one after the other, and how wide each is. Assumes nothing.
use Rattle.std.specs.Prelude.{ℕ, ◌+◌, ◌-◌, ◌*◌, ◌/◌, Bool, false, ◌||◌, List, [], ◌∷◌, nat_lt}
use Rattle.frames.specs.declared.codes.Kind.{Kind}
use Rattle.frames.specs.declared.codes.Kind.TheVariants.{Request, Answer, ClearRequest, ClearAnswer, Notice}

-- kind, three zero bits, exchange bit, call identifier, number of PDU bits
abbrev pub header_widths : List ℕ
header_widths = 4 ∷ 3 ∷ 1 ∷ 16 ∷ 8 ∷ []

-- SS-type, PDU type, result, cause; the last bit is always filling
abbrev pub pdu_widths : List ℕ
pdu_widths = 6 ∷ 5 ∷ 1 ∷ 3 ∷ 1 ∷ []

-- how many bytes a PDU of n bits takes, and how many filling bits end it
abbrev pub pdu_octets : ℕ → ℕ
pdu_octets n = (n + 7) / 8

abbrev pub filling : ℕ → ℕ
filling n = 8 * pdu_octets n - n

-- no call identifier: they go from 1 to 16,383
abbrev pub no_call : ℕ → Bool
no_call c = nat_lt c 1 || nat_lt 16383 c

-- a notice has exchange bit 0
abbrev pub bars_bit : Kind → Bool → Bool
bars_bit Request x = false
bars_bit Answer x = false
bars_bit ClearRequest x = false
bars_bit ClearAnswer x = false
bars_bit Notice x = x
