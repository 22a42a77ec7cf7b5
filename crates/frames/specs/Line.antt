-- A frame as a line of text. Assumes nothing.
use Rattle.std.specs.Prelude.{ℕ, List, Ok, Result}
use Rattle.frames.specs.declared.content.Frame.{Frame}
use Rattle.text.specs.declared.fault.Fault.{Fault}
use Rattle.frames.specs.Read.{reads}
use Rattle.text.specs.Fault.{after}
use Rattle.text.specs.Text.{reads_text, text}
use Rattle.frames.specs.Write.{writes}

abbrev pub reads_line : List ℕ → Result Frame Fault
reads_line line = after (reads_text line) reads

abbrev pub writes_line : Frame → Result (List ℕ) Fault
writes_line f = after (writes f) (λ bs. Ok (text bs))
