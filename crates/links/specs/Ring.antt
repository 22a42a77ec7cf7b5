-- How frames stand in a ring: the length of each, then its bytes. Assumes nothing.
use Rattle.std.specs.Prelude.{ℕ, ◌+◌, List, [], ◌∷◌, length, take, drop}
use Rattle.links.specs.Packing.{Packing}

-- the frame whose length is the first byte, and what stands after it
abbrev pub first_counted : List ℕ → List ℕ
first_counted [] = []
first_counted (n ∷ bs) = take n bs

abbrev pub after_counted : List ℕ → List ℕ
after_counted [] = []
after_counted (n ∷ bs) = drop n bs

-- the packing of a ring
abbrev pub in_ring : Packing
in_ring = record { longest = 16; cost = λ f. length f + 1; written = λ f. length f ∷ f; first = first_counted; after = after_counted }
