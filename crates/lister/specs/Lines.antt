-- The lines of an input and their listing. Assumes nothing.
use Rattle.std.specs.Prelude.{◌≡◌, ℕ, ◌+◌, Bool, true, cond, not, ◌&&◌, List, [], ◌∷◌, ◌++◌, codes, ◌==◌, nat_lt}
use Rattle.lister.specs.Listing.{listing}

-- the lines that line feeds end, where a part of the first has come before
abbrev pub lines_from : List ℕ → List ℕ → List (List ℕ)
lines_from part [] = []
lines_from part (b ∷ bs) = cond (b == 10) (part ∷ lines_from [] bs) (lines_from (part ++ b ∷ []) bs)

-- what stands after the last line feed, where a part of the first line has come before
abbrev pub rest_from : List ℕ → List ℕ → List ℕ
rest_from part [] = part
rest_from part (b ∷ bs) = cond (b == 10) (rest_from [] bs) (rest_from (part ++ b ∷ []) bs)

-- the complete lines of an input
abbrev pub lines : List ℕ → List (List ℕ)
lines input = lines_from [] input

-- what stands after the last line feed of an input
abbrev pub rest : List ℕ → List ℕ
rest input = rest_from [] input

-- no byte is a line feed
abbrev pub unbroken : List ℕ → Bool
unbroken [] = true
unbroken (b ∷ bs) = not (b == 10) && unbroken bs

abbrev pub each_unbroken : List (List ℕ) → Bool
each_unbroken [] = true
each_unbroken (l ∷ ls) = unbroken l && each_unbroken ls

-- lines, each with the line feed that ends it
abbrev pub with_ends : List (List ℕ) → List ℕ
with_ends [] = []
with_ends (l ∷ ls) = l ++ (10 ∷ with_ends ls)

-- an input is its lines, each ended by a line feed, and what is left; they hold no other line feed
pub record Splits (input : List ℕ) (ls : List (List ℕ)) (left : List ℕ) : Type 0 where
  pub whole : with_ends ls ++ left ≡ input
  pub each : each_unbroken ls ≡ true
  pub last : unbroken left ≡ true

-- the end of the input ends a last line that has a byte
abbrev pub last_line : List ℕ → List (List ℕ)
last_line [] = []
last_line (b ∷ bs) = (b ∷ bs) ∷ []

-- the lines of an input that has ended
abbrev pub all_lines : List ℕ → List (List ℕ)
all_lines input = lines input ++ last_line (rest input)

-- as many lines are listed at most
abbrev pub most : ℕ
most = 9999

-- what is printed of the line after n others
abbrev pub printed : ℕ → List ℕ → List ℕ
printed n line = cond (nat_lt n most) (listing (n + 1) line ++ codes "\n") []

-- what is printed of lines numbered from n + 1
abbrev pub listings : ℕ → List (List ℕ) → List ℕ
listings n [] = []
listings n (l ∷ ls) = printed n l ++ listings (n + 1) ls
