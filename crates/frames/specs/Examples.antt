-- Worked examples of the format: lines of text, and what is read of each. Assumes nothing.
use Rattle.std.specs.Prelude.{◌≡◌, ℕ, true, false, List, [], ◌∷◌, Ok, Err, codes, Result}
use Rattle.frames.specs.declared.content.Body.TheVariants.{Request, Answer}
use Rattle.frames.specs.declared.content.Cause.TheVariants.{CallNotThere}
use Rattle.frames.specs.declared.content.Frame.{Frame}
use Rattle.frames.specs.declared.content.Operation.TheVariants.{Retrieve}
use Rattle.frames.specs.declared.content.Verdict.TheVariants.{Granted, Declined}
use Rattle.text.specs.declared.fault.Fault.{Fault}
use Rattle.text.specs.Fault.{in_frame}
use Rattle.frames.specs.Line.{reads_line}

abbrev pub Example : Type 0
Example = List ℕ × Result Frame Fault

abbrev retrieval : ℕ → Frame
retrieval c = record { exchange = false; call = record { 0 = c }; body = Request Retrieve }

abbrev pub examples : List Example
examples =
    (codes "1000050B30C0", Ok (retrieval 5))
    ∷ (codes "2000050C30F0", Ok (record { exchange = false; call = record { 0 = 5 }; body = Answer Retrieve Granted }))
    ∷ (codes "2100050F30E2", Ok (record { exchange = true; call = record { 0 = 5 }; body = Answer Retrieve (Declined CallNotThere) }))
    ∷ (codes "2100050F30E0", Err (in_frame 17 3))
    ∷ (codes "1000050B30C1", Err (in_frame 14 3))
    ∷ (codes "1000000B30C0", Err (in_frame 13 1))
    ∷ (codes "1000050B34C0", Err (in_frame 15 4))
    ∷ (codes "5000050804", Err (in_frame 17 3))
    ∷ (codes "103FFF0B30C0", Ok (retrieval 16383))
    ∷ (codes "1040000B30C0", Err (in_frame 13 1))
    ∷ []

-- each line reads as the example says
abbrev pub HoldTrue : List Example → Type 0
HoldTrue [] = Unit {0}
HoldTrue (e ∷ es) = (reads_line e.0 ≡ e.1) × HoldTrue es
