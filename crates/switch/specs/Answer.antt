-- The answer to a request that was carried out. Assumes nothing.
use Rattle.std.specs.Prelude.{Bool}
use Rattle.frames.specs.declared.content.Body.TheVariants.{Answer, ClearAnswer}
use Rattle.frames.specs.declared.content.Frame.{Frame}
use Rattle.switch.specs.declared.told.Handled.{Handled}
use Rattle.switch.specs.declared.told.Handled.TheVariants.{Answered, Cleared}

-- with an exchange bit
abbrev pub answer : Bool → Handled → Frame
answer x (Answered o c v) = record { exchange = x; call = c; body = Answer o v }
answer x (Cleared c l) = record { exchange = x; call = c; body = ClearAnswer }
