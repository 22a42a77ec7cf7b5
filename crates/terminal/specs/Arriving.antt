-- What a frame does that arrives at a terminal. Assumes nothing.
use Rattle.std.specs.Prelude.{◌≡◌, ℕ, Bool, true, false, cond, not, ◌&&◌, List, Some, None, Ok, Err, Option, Result, ◌==◌}
use Rattle.std.specs.Bool.{beq}
use Rattle.frames.specs.declared.content.Body.{Body}
use Rattle.frames.specs.declared.content.Body.TheVariants.{Request as request_body, Answer, ClearRequest, ClearAnswer, Notice as notice_body}
use Rattle.frames.specs.declared.content.CallId.{CallId}
use Rattle.frames.specs.declared.content.Cause.{Cause}
use Rattle.frames.specs.declared.content.Cause.TheVariants.{NotSubscribed, LimitReached, CallNotThere, AlreadyOnHold, NotOnHold, NoChannel}
use Rattle.frames.specs.declared.content.Frame.{Frame}
use Rattle.frames.specs.declared.content.News.{News}
use Rattle.frames.specs.declared.content.News.TheVariants.{PutOnHold, Retrieved, Released}
use Rattle.frames.specs.declared.content.Verdict.{Verdict}
use Rattle.frames.specs.declared.content.Verdict.TheVariants as verdict
use Rattle.links.specs.Meaning.{TakeAnswer}
pub use Rattle.signalling.specs.Ask.{asked_by, same_ask}
pub use Rattle.signalling.specs.Carrying.{pulled, Pulling}
use Rattle.signalling.specs.declared.ask.Ask.{Ask}
use Rattle.signalling.specs.declared.ask.Ask.TheVariants.{Hold, Retrieve, Clear}
use Rattle.text.specs.Fault.{in_terminal}
use Rattle.text.specs.declared.fault.Fault.{Fault}
use Rattle.terminal.specs.Calls.{find, mark, mark_other, without}
use Rattle.terminal.specs.State.{Model, with_calls}
use Rattle.terminal.specs.declared.call.Call.{Call}
use Rattle.terminal.specs.declared.request.Request.{Request}
use Rattle.terminal.specs.declared.told.Received.{Received}
use Rattle.terminal.specs.declared.told.Received.TheVariants.{Nothing, Stale, Notice, Closed}
use Rattle.terminal.specs.declared.told.Reply.{Reply}
use Rattle.terminal.specs.declared.told.Reply.TheVariants.{Granted, Declined, Cleared}

-- what a verdict tells of a request
abbrev pub reply_of : Verdict → Reply
reply_of verdict.Granted = Granted
reply_of (verdict.Declined c) = Declined c

-- an answer counts if it has the exchange bit and the call of the request and is an answer to what was asked
abbrev pub counts : Request → Bool → Ask → Frame → Bool
counts q x k f = beq x f.exchange && (q.call.0 == f.call.0 && same_ask q.ask k)

-- what an arriving frame comes to
pub data Effect : Type 0 where
  -- it is no frame for a terminal
  refused : Effect
  -- it changes nothing
  stale : Effect
  -- news of a call
  noted : CallId → News → Effect
  -- the answer to the open request
  closed : Ask → CallId → Reply → Effect

-- an answer while a request is open, with the exchange bit of that
abbrev pub answered : Request → Bool → Ask → Frame → Reply → Effect
answered q x k f r = cond (counts q x k f) (closed k f.call r) stale

-- a notice for a call that is not held is stale
abbrev pub heard : Option Call → CallId → News → Effect
heard (Some held) c w = noted c w
heard None c w = stale

-- the open request and the frame together
abbrev pub effect_of : Model → Frame → Option Request → Body → Effect
effect_of m f None (request_body o) = refused
effect_of m f None ClearRequest = refused
effect_of m f None (notice_body w) = heard (find f.call.0 m.calls) f.call w
effect_of m f None (Answer o v) = stale
effect_of m f None ClearAnswer = stale
effect_of m f (Some q) (request_body o) = refused
effect_of m f (Some q) ClearRequest = refused
effect_of m f (Some q) (notice_body w) = heard (find f.call.0 m.calls) f.call w
effect_of m f (Some q) (Answer o v) = answered q m.exchange (asked_by o) f (reply_of v)
effect_of m f (Some q) ClearAnswer = answered q m.exchange Clear f Cleared

abbrev pub effect : Model → Frame → Effect
effect m f = effect_of m f m.request f.body

-- what is told of an effect
abbrev pub told_of : Effect → Result Received Fault
told_of refused = Err (in_terminal 26)
told_of stale = Ok Stale
told_of (noted c w) = Ok (Notice c w)
told_of (closed k c r) = Ok (Closed k c r)

-- a call that is not there is removed, and no other cause removes one
abbrev pub after_cause : Cause → ℕ → List Call → List Call
after_cause NotSubscribed n cs = cs
after_cause LimitReached n cs = cs
after_cause CallNotThere n cs = without n cs
after_cause AlreadyOnHold n cs = cs
after_cause NotOnHold n cs = cs
after_cause NoChannel n cs = cs

-- the calls after the answer to a request
abbrev pub settled : Ask → Reply → ℕ → List Call → List Call
settled Hold Granted n cs = mark n true cs
settled Retrieve Granted n cs = mark n false cs
settled Clear Granted n cs = cs
settled Hold (Declined c) n cs = after_cause c n cs
settled Retrieve (Declined c) n cs = after_cause c n cs
settled Clear (Declined c) n cs = after_cause c n cs
settled Hold Cleared n cs = without n cs
settled Retrieve Cleared n cs = without n cs
settled Clear Cleared n cs = without n cs

-- the calls after news
abbrev pub informed : News → ℕ → List Call → List Call
informed PutOnHold n cs = mark_other n true cs
informed Retrieved n cs = mark_other n false cs
informed Released n cs = without n cs

-- no request is open, and the next has the other exchange bit
abbrev pub shut : Model → Model
shut m = record { calls = m.calls; last = m.last; request = None; exchange = not m.exchange }

-- the state after an effect
abbrev pub state_of : Effect → Model → Model
state_of refused m = m
state_of stale m = m
state_of (noted c w) m = with_calls (informed w c.0 m.calls) m
state_of (closed k c r) m = shut (with_calls (settled k r c.0 m.calls) m)

-- what receiving tells of what was pulled, and the state after
abbrev pub received : Model → Result (Option Frame) Fault → Result Received Fault
received m (Err e) = Err e
received m (Ok None) = Ok Nothing
received m (Ok (Some f)) = told_of (effect m f)

abbrev pub receives : Model → Result (Option Frame) Fault → Model
receives m (Err e) = m
receives m (Ok None) = m
receives m (Ok (Some f)) = state_of (effect m f) m

module _ {X : Type 0} (takes : X → List ℕ → X → List ℕ → TakeAnswer → Type 0) where
  -- what receiving tells and leaves, by what was pulled
  pub record Receiving (m : Model) (a : X) (n : Model) (b : X) (r : Result Received Fault) : Type 0 where
    pub came : Result (Option Frame) Fault
    pub pulling : Pulling takes a b came
    pub outcome : r ≡ received m came
    pub state : n ≡ receives m came
