-- The state of a terminal, and connecting. Assumes nothing.
use Rattle.std.specs.Prelude.{ℕ, Bool, false, ◌||◌, List, [], ◌∷◌, ◌++◌, length, None, Ok, Err, Option, Result, nat_le}
use Rattle.frames.specs.Layout.{no_call}
use Rattle.frames.specs.declared.content.CallId.{CallId}
use Rattle.text.specs.Fault.{in_terminal, unless}
use Rattle.text.specs.declared.fault.Fault.{Fault}
use Rattle.terminal.specs.declared.call.Call.{Call}
use Rattle.terminal.specs.declared.request.Request.{Request}

-- what a terminal is to its callers: `last` is the highest identifier ever accepted, `exchange` the exchange bit of the open request, or of the next one
pub record Model : Type 0 where
  pub calls : List Call
  pub last : ℕ
  pub request : Option Request
  pub exchange : Bool

-- a new terminal
abbrev pub fresh : Model
fresh = record { calls = []; last = 0; request = None; exchange = false }

-- other calls, and the rest as it was
abbrev pub with_calls : List Call → Model → Model
with_calls cs m = record { calls = cs; last = m.last; request = m.request; exchange = m.exchange }

-- what connecting answers
abbrev pub connect_checked : Model → CallId → Result Unit Fault
connect_checked m c =
    unless (no_call c.0 || nat_le c.0 m.last) (in_terminal 24)
    (unless (nat_le 8 (length m.calls)) (in_terminal 25)
    (Ok tt))

-- a call with no mark set
abbrev pub unmarked : CallId → Call
unmarked c = record { id = c; own = false; other = false }

-- the state after connecting: the call stands last, and its identifier is the last accepted; a refusal changes nothing
abbrev pub connects : Result Unit Fault → Model → CallId → Model
connects (Ok u) m c = record { calls = m.calls ++ unmarked c ∷ []; last = c.0; request = m.request; exchange = m.exchange }
connects (Err e) m c = m

abbrev pub connected : Model → CallId → Model
connected m c = connects (connect_checked m c) m c
