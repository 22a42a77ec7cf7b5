-- Laws of receiving, in the words of the service. Assumes nothing.
use Rattle.std.specs.Prelude.{◌≡◌, ℕ, Bool, true, false, not, List, is_some, Some, None, Ok, Err, Option, Result, ◌==◌}
use Rattle.frames.specs.declared.content.CallId.{CallId}
use Rattle.signalling.specs.declared.ask.Ask.{Ask}
use Rattle.text.specs.declared.fault.Fault.{Fault}
use Rattle.terminal.specs.Calls.{find}
use Rattle.terminal.specs.State.{Model}
use Rattle.terminal.specs.declared.call.Call.{Call}
use Rattle.terminal.specs.declared.request.Request.{Request}
use Rattle.terminal.specs.declared.told.Received.{Received}
use Rattle.terminal.specs.declared.told.Received.TheVariants.{Nothing, Stale, Notice, Closed}
use Rattle.terminal.specs.declared.told.Reply.{Reply}
use Rattle.terminal.specs.declared.told.Reply.TheVariants.{Granted, Declined, Cleared}

-- the own mark of a call, if it is held
abbrev pub own_of : Option Call → Option Bool
own_of None = None
own_of (Some c) = Some c.own

abbrev pub shown : ℕ → List Call → Option Bool
shown i cs = own_of (find i cs)

-- an outcome that grants what was asked for a call
abbrev pub grants_by : Reply → CallId → ℕ → Bool
grants_by Granted c i = c.0 == i
grants_by (Declined x) c i = false
grants_by Cleared c i = false

abbrev pub grants : Result Received Fault → ℕ → Bool
grants (Err e) i = false
grants (Ok Nothing) i = false
grants (Ok Stale) i = false
grants (Ok (Notice c w)) i = false
grants (Ok (Closed k c r)) i = grants_by r c i

-- the open request, and the exchange bit, stay
pub record KeptOpen (m n : Model) : Type 0 where
  pub request : n.request ≡ m.request
  pub exchange : n.exchange ≡ m.exchange

-- the open request was for this and is closed; the next has the other exchange bit
pub record Closes (k : Ask) (c : CallId) (m n : Model) : Type 0 where
  pub was : Request
  pub open_before : m.request ≡ Some was
  pub ask : was.ask ≡ k
  pub call : was.call ≡ c
  pub none_after : n.request ≡ None
  pub exchange : n.exchange ≡ not m.exchange

-- a request is closed only by its answer, which the outcome tells
abbrev pub Closing : Result Received Fault → Model → Model → Type 0
Closing (Err e) m n = KeptOpen m n
Closing (Ok Nothing) m n = KeptOpen m n
Closing (Ok Stale) m n = KeptOpen m n
Closing (Ok (Notice c w)) m n = KeptOpen m n
Closing (Ok (Closed k c r)) m n = Closes k c m n

-- what holds of a frame received, whatever it was
pub record Lawful (m n : Model) (r : Result Received Fault) : Type 0 where
  -- of a call that is held then, only a granted answer for it moves the own mark; it was held before, too
  pub marks : (i : ℕ) → is_some (find i n.calls) ≡ true → grants r i ≡ false → shown i n.calls ≡ shown i m.calls
  pub closing : Closing r m n
  -- no identifier is accepted
  pub last : n.last ≡ m.last
