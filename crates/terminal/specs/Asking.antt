-- Requesting and ticking. Assumes nothing.
use Rattle.std.specs.Prelude.{◌≡◌, ℕ, ◌+◌, ◌-◌, Bool, true, false, cond, not, List, is_some, Some, None, Ok, Err, Option, Result, ◌==◌, nat_le}
use Rattle.frames.specs.declared.content.CallId.{CallId}
use Rattle.frames.specs.declared.content.Frame.{Frame}
use Rattle.links.specs.Meaning.{SendAnswer}
pub use Rattle.signalling.specs.Ask.{body_for}
pub use Rattle.signalling.specs.Carrying.{Sending, Telling}
use Rattle.signalling.specs.declared.ask.Ask.{Ask}
use Rattle.signalling.specs.declared.ask.Ask.TheVariants.{Hold, Retrieve, Clear}
use Rattle.text.specs.Fault.{in_terminal, unless}
use Rattle.text.specs.declared.fault.Fault.{Fault}
use Rattle.terminal.specs.Calls.{find}
use Rattle.terminal.specs.State.{Model}
use Rattle.terminal.specs.declared.call.Call.{Call}
use Rattle.terminal.specs.declared.request.Request.{Request}
use Rattle.terminal.specs.declared.told.Ticked.{Ticked}
use Rattle.terminal.specs.declared.told.Ticked.TheVariants.{Idle, Waiting, Repeated}

-- the whole of what a request's frame says
abbrev pub content : Request → Bool → Frame
content q x = record { exchange = x; call = q.call; body = body_for q.ask }

-- a hold of a call that is on hold, and a retrieval of one that is not
abbrev pub pointless : Ask → Bool → Bool
pointless Hold own = own
pointless Retrieve own = not own
pointless Clear own = false

-- whether something may be asked of the call that was found
abbrev pub call_checked : Ask → Option Call → Result Unit Fault
call_checked k None = Err (in_terminal 21)
call_checked k (Some c) = unless (pointless k c.own) (in_terminal 23) (Ok tt)

-- whether a request may be made
abbrev pub request_checked : Model → Ask → CallId → Result Unit Fault
request_checked m k c = unless (is_some m.request) (in_terminal 22) (call_checked k (find c.0 m.calls))

-- a request as it is opened: 20 ticks are left, and it was not repeated
abbrev pub opening : Ask → CallId → Request
opening k c = record { ask = k; call = c; countdown = 20; repeats = 0 }

-- another open request, or none, and the rest as it was
abbrev pub with_request : Option Request → Model → Model
with_request q m = record { calls = m.calls; last = m.last; request = q; exchange = m.exchange }

-- the state after requesting; a refusal changes nothing
abbrev pub opens : Result Unit Fault → Model → Ask → CallId → Model
opens (Ok u) m k c = with_request (Some (opening k c)) m
opens (Err e) m k c = m

abbrev pub requested : Model → Ask → CallId → Model
requested m k c = opens (request_checked m k c) m k c

-- the tick that sends again: no more than one was left
abbrev pub due : Request → Bool
due q = nat_le q.countdown 1

-- the request after that: 20 ticks are left, and the count rises, stopping at 255
abbrev pub repeated : Request → Request
repeated q = record { ask = q.ask; call = q.call; countdown = 20; repeats = cond (q.repeats == 255) 255 (q.repeats + 1) }

-- the request after any other tick
abbrev pub waited : Request → Request
waited q = record { ask = q.ask; call = q.call; countdown = q.countdown - 1; repeats = q.repeats }

-- the state after a tick
abbrev pub ticks : Option Request → Model → Model
ticks None m = m
ticks (Some q) m = with_request (Some (cond (due q) (repeated q) (waited q))) m

abbrev pub ticked : Model → Model
ticked m = ticks m.request m

module _ {X : Type 0} (sends : X → List ℕ → X → SendAnswer → Type 0) where
  -- what requesting tells: a refusal leaves the link alone
  abbrev pub Asks : Result Unit Fault → Frame → X → X → Result (Option Fault) Fault → Type 0
  Asks (Err e) f a b r = (r ≡ Err e) × (b ≡ a)
  Asks (Ok u) f a b (Ok told) = Telling sends f a b told
  Asks (Ok u) f a b (Err e) = ⊥

  abbrev pub Requesting : Model → Ask → CallId → X → X → Result (Option Fault) Fault → Type 0
  Requesting m k c a b r = Asks (request_checked m k c) (content (opening k c) m.exchange) a b r

  -- a frame sent again, with the count
  pub record Repeating (q : Request) (x : Bool) (a b : X) (r : Ticked) : Type 0 where
    pub told : Option Fault
    pub telling : Telling sends (content q x) a b told
    pub says : r ≡ Repeated (repeated q).repeats told

  -- what a tick tells, by whether it is due; only the one that sends again touches the link
  abbrev pub TicksBy : Bool → Request → Bool → X → X → Ticked → Type 0
  TicksBy true q x a b r = Repeating q x a b r
  TicksBy false q x a b r = (r ≡ Waiting (q.countdown - 1)) × (b ≡ a)

  abbrev pub Ticks : Option Request → Bool → X → X → Ticked → Type 0
  Ticks None x a b r = (r ≡ Idle) × (b ≡ a)
  Ticks (Some q) x a b r = TicksBy (due q) q x a b r

  abbrev pub Ticking : Model → X → X → Ticked → Type 0
  Ticking m a b r = Ticks m.request m.exchange a b r
