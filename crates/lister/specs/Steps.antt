-- What a lister does with the bytes that come one after the other, and what that is for whole inputs. Assumes nothing.
use Rattle.std.specs.Prelude.{◌≡◌, ℕ, ◌+◌, min, cond, List, [], ◌∷◌, ◌++◌, length, take, codes, ◌==◌, nat_lt}
use Rattle.lister.specs.declared.lines.Lister.{Lister}
use Rattle.lister.specs.Kept.{front, with_byte}
use Rattle.lister.specs.Lines.{lines, rest, Splits, all_lines, most, listings}
use Rattle.lister.specs.Listing.{listing}

-- how many lines are told, the first bytes of the line that has not ended, and the text so far
pub record Progress : Type 0 where
  pub count : ℕ
  pub part : List ℕ
  pub text : List ℕ

abbrev pub progress : Lister → List ℕ → Progress
progress s out = record { count = s.told; part = front s.kept; text = out }

-- a line ends: it is told, unless as many as are listed have been
abbrev pub ended : Progress → Progress
ended p = cond (nat_lt p.count most)
    (record { count = p.count + 1; part = []; text = p.text ++ (listing (p.count + 1) p.part ++ codes "\n") })
    (record { count = p.count; part = []; text = p.text })

abbrev pub stepped : Progress → ℕ → Progress
stepped p b = cond (b == 10) (ended p) (record { count = p.count; part = with_byte p.part b; text = p.text })

abbrev pub fed : Progress → List ℕ → Progress
fed p [] = p
fed p (b ∷ bs) = fed (stepped p b) bs

-- the end of the input ends a line that has a byte
abbrev pub finished : Progress → Progress
finished p = cond (nat_lt 0 (length p.part)) (ended p) p

-- a lister stands for an input: it has told its complete lines, up to the most, and keeps the first bytes of the rest
pub record Stands (s : Lister) (input : List ℕ) : Type 0 where
  pub tells : s.told ≡ min most (length (lines input))
  pub keeps : front s.kept ≡ take 65 (rest input)

-- what was printed of some lines, and the text that is added now, are the listing of all lines
pub record Completes (before all : List (List ℕ)) (out out' : List ℕ) : Type 0 where
  pub added : List ℕ
  pub appended : out' ≡ out ++ added
  pub whole : listings 0 before ++ added ≡ listings 0 all

-- bytes come after whatever input the lister stands for: then it stands for both, and the text added completes the listing of their lines
abbrev pub Feeds : Lister → Lister → List ℕ → List ℕ → List ℕ → Type 0
Feeds s s' chunk out out' = (before : List ℕ) → Stands s before → Stands s' (before ++ chunk) × Completes (lines before) (lines (before ++ chunk)) out out'

-- the input that the lister stands for ends: it is its lines and the rest; all of them are told, up to the most, and the text added completes their listing
abbrev pub Finishes : Lister → Lister → List ℕ → List ℕ → Type 0
Finishes s s' out out' = (input : List ℕ) → Stands s input → Splits input (lines input) (rest input) × (s'.told ≡ min most (length (all_lines input))) × Completes (lines input) (all_lines input) out out'
