-- The frames that the writer does not refuse. Assumes nothing.
use Rattle.std.specs.Prelude.{◌≡◌, ℕ, Bool, true, not, ◌&&◌, List, is_some, Ok}
use Rattle.frames.specs.Codes.{kind, cause_number}
use Rattle.frames.specs.Layout.{no_call, bars_bit}
use Rattle.frames.specs.Write.{writes}
use Rattle.frames.specs.declared.content.Body.{Body}
use Rattle.frames.specs.declared.content.Body.TheVariants.{Request, Answer, ClearRequest, ClearAnswer, Notice}
use Rattle.frames.specs.declared.content.Frame.{Frame}
use Rattle.frames.specs.declared.content.Verdict.TheVariants.{Granted, Declined}

-- an answer that declines has a cause that its operation lists
abbrev pub lists : Body → Bool
lists (Request o) = true
lists (Answer o Granted) = true
lists (Answer o (Declined c)) = is_some (cause_number o c)
lists ClearRequest = true
lists ClearAnswer = true
lists (Notice w) = true

-- an identifier from 1 to 16,383, exchange bit 0 in a notice, and a listed cause
abbrev pub writable : Frame → Bool
writable f = not (no_call f.call.0) && (not (bars_bit (kind f.body) f.exchange) && lists f.body)

-- a frame and its bytes
pub record Written (f : Frame) : Type 0 where
  pub bytes : List ℕ
  pub is : writes f ≡ Ok bytes
