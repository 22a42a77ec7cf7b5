-- What is printed of one line. Assumes nothing.
use Rattle.std.specs.Prelude.{ℕ, List, ◌++◌, Some, None, Ok, Err, codes, decimal, Option, Result}
use Rattle.text.specs.declared.fault.Fault.{Fault}
use Rattle.frames.specs.Read.{reads}
use Rattle.text.specs.Fault.{after}
use Rattle.text.specs.Text.{reads_text, text}
use Rattle.frames.specs.Write.{writes}

-- the frame of a line written anew: the bytes that the writer makes of the content that the reader finds, or the first refusal
abbrev pub written_anew : List ℕ → Result (List ℕ) Fault
written_anew line = after (reads_text line) (λ bs. after (reads bs) writes)

-- `NUMBER OK FRAME`
abbrev pub accepted : ℕ → List ℕ → List ℕ
accepted n bs = decimal n ++ (codes " OK " ++ text bs)

-- `NUMBER NO REFUSAL PLACE`, or `NUMBER NO REFUSAL` where the refusal has no place
abbrev pub refused_at : ℕ → ℕ → Option ℕ → List ℕ
refused_at n k (Some place) = decimal n ++ (codes " NO " ++ (decimal k ++ (codes " " ++ decimal place)))
refused_at n k None = decimal n ++ (codes " NO " ++ decimal k)

abbrev pub outcome : ℕ → Result (List ℕ) Fault → List ℕ
outcome n (Ok bs) = accepted n bs
outcome n (Err f) = refused_at n f.number f.place

-- what is printed of a line, with its number
abbrev pub listing : ℕ → List ℕ → List ℕ
listing n line = outcome n (written_anew line)
