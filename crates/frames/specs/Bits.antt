-- Fields of bits one after the other, the first bit highest. Assumes nothing.
use Rattle.std.specs.Prelude.{ℕ, ◌+◌, ◌*◌, ◌/◌, ◌%◌, ◌^◌, ◌<◌, ◌≤◌, List, [], ◌∷◌}
use Rattle.frames.specs.declared.bits.Field.{Field}

abbrev pub field : ℕ → ℕ → Field
field w v = record { width = w; value = v }

abbrev pub sum : List ℕ → ℕ
sum [] = 0
sum (w ∷ ws) = w + sum ws

abbrev pub widths : List Field → List ℕ
widths [] = []
widths (f ∷ fs) = f.width ∷ widths fs

abbrev pub total : List Field → ℕ
total fs = sum (widths fs)

-- each value has no more bits than its field
abbrev pub Fit : List Field → Type 0
Fit [] = Unit {0}
Fit (f ∷ fs) = (f.value < 2 ^ f.width) × Fit fs

-- no width passes 16 bits
abbrev pub Narrow : List ℕ → Type 0
Narrow [] = Unit {0}
Narrow (w ∷ ws) = (w ≤ 16) × Narrow ws

abbrev pub joined_onto : ℕ → List Field → ℕ
joined_onto n [] = n
joined_onto n (f ∷ fs) = joined_onto (n * 2 ^ f.width + f.value) fs

-- the number whose bits are those of the fields
abbrev pub joined : List Field → ℕ
joined fs = joined_onto 0 fs

-- the fields of these widths that the bits of a number are
abbrev pub parts : List ℕ → ℕ → List ℕ
parts [] n = []
parts (w ∷ ws) n = n / 2 ^ sum ws ∷ parts ws (n % 2 ^ sum ws)

-- bytes as fields of eight bits
abbrev pub octets : List ℕ → List Field
octets [] = []
octets (b ∷ bs) = field 8 b ∷ octets bs
