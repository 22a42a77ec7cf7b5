-- The law of the pair: three sums that stand after every call of every run. Assumes nothing.
use Rattle.std.specs.Prelude.{◌≡◌, ℕ, ◌+◌, ◌≤◌, Bool, true, false, not, ◌&&◌, ◌||◌, ◌↔◌, List, [], ◌∷◌, reverse, drop, Some, None, Ok, Err, Option, Result}
use Rattle.frames.specs.declared.content.Cause.TheVariants.{NoChannel}
use Rattle.frames.specs.declared.content.Operation.TheVariants.{Hold, Retrieve}
use Rattle.frames.specs.declared.content.Verdict.{Verdict}
use Rattle.frames.specs.declared.content.Verdict.TheVariants.{Declined}
use Rattle.register.specs.declared.user.User.{User}
use Rattle.records.specs.Changes.{find}
use Rattle.records.specs.Legs.{one, is_live, is_on_hold, standing_in}
use Rattle.switch.specs.declared.told.Handled.{Handled}
use Rattle.switch.specs.declared.told.Handled.TheVariants.{Answered, Cleared as clear_handled}
use Rattle.switch.specs.declared.told.Served.{Served as ServedTold}
use Rattle.switch.specs.declared.told.Served.TheVariants.{Nothing, Fresh, Repeat}
use Rattle.terminal.specs.Calls as table
use Rattle.terminal.specs.declared.call.Call.{Call}
use Rattle.terminal.specs.declared.request.Request.{Request}
use Rattle.text.specs.declared.fault.Fault.{Fault}
use Rattle.law.specs.declared.event.Event.{Event}
use Rattle.law.specs.declared.event.Event.TheVariants.{Opened, Connected, Joined, Requested, Ticked, Received, Served, Notified, Cleared}
use Rattle.law.specs.Run.{State, Run}
use Rattle.law.specs.History.{Deed, deeds, live, on_hold, holds_granted, retrievals_granted, held_calls_cleared, calls_on_hold, legs_not_on_hold, total, all_calls}

-- the own mark of a call that was found at the terminal; one that is not there has none
abbrev pub marked : Option Call → Bool
marked None = false
marked (Some x) = x.own

-- the terminal shows a call as held by its user
abbrev pub shows : List Call → ℕ → Bool
shows cs c = marked (table.find c cs)

-- the terminal and the outcomes at the switch differ about a call: on hold and not shown so, or live, shown so and not on hold
abbrev pub differs : List Deed → List Call → ℕ → ℕ → Bool
differs ds cs u c = (on_hold ds u c && not (shows cs c)) || (live ds c && (shows cs c && not (on_hold ds u c)))

-- on how many calls they differ
abbrev pub calls_differing : List Deed → List Call → ℕ → ℕ
calls_differing ds cs u = total (λ c. one (differs ds cs u c)) all_calls

-- (a) the holds that the terminal shows are those at the switch, but for one call while its request is open
pub record MarksAgree (u : User) (ds : List Deed) (p : State) : Type 0 where
  pub none_differs : p.terminal.request ≡ None → calls_differing ds p.terminal.calls u.0 ≡ 0
  pub one_differs : (r : Request) → p.terminal.request ≡ Some r → calls_differing ds p.terminal.calls u.0 ≤ 1
  pub that_one : (r : Request) → p.terminal.request ≡ Some r → (c : ℕ) → differs ds p.terminal.calls u.0 c ≡ true → c ≡ r.call.0

-- (b) the calls that the user has on hold are the holds granted less the retrievals granted less the held calls cleared, and never over the limit
pub record HoldsCount (limit : ℕ → ℕ) (u : User) (ds : List Deed) : Type 0 where
  pub sum : calls_on_hold ds u.0 + retrievals_granted ds u.0 + held_calls_cleared ds u.0 ≡ holds_granted ds u.0
  pub limited : calls_on_hold ds u.0 ≤ limit u.0

-- (c) the channels in use are the legs not on hold in live calls, and never more than there are
pub record ChannelsCount (size : ℕ) (ds : List Deed) (p : State) : Type 0 where
  pub sum : p.switch.used ≡ legs_not_on_hold ds
  pub within : legs_not_on_hold ds ≤ size

-- the switch's records show the same as the outcomes: which calls are live, and whose legs are on hold
pub record RecordsAgree (ds : List Deed) (p : State) : Type 0 where
  pub lives : (c : ℕ) → is_live (find c p.switch.records) ≡ live ds c
  pub holds : (v c : ℕ) → is_on_hold (standing_in v (find c p.switch.records)) ≡ on_hold ds v c

-- a retrieval that was carried out: the user, the call and the verdict
pub record Retrieval : Type 0 where
  pub user : ℕ
  pub call : ℕ
  pub verdict : Verdict

abbrev pub handled_retrieval : ℕ → Handled → Option Retrieval
handled_retrieval v (Answered Hold c w) = None
handled_retrieval v (Answered Retrieve c w) = Some (record { user = v; call = c.0; verdict = w })
handled_retrieval v (clear_handled c l) = None

abbrev pub served_retrieval : ℕ → Result ServedTold Fault → Option Retrieval
served_retrieval v (Err e) = None
served_retrieval v (Ok Nothing) = None
served_retrieval v (Ok (Fresh h x)) = handled_retrieval v h
served_retrieval v (Ok (Repeat h x)) = None

-- the retrieval that a call carried out, if it did
abbrev pub retrieval : Event → Option Retrieval
retrieval (Served v r) = served_retrieval v.0 r
retrieval (Opened v r) = None
retrieval (Connected c a b r) = None
retrieval (Joined c r) = None
retrieval (Requested k c r) = None
retrieval (Ticked r) = None
retrieval (Received r) = None
retrieval (Notified v r) = None
retrieval (Cleared c r) = None

-- a retrieval of a call that its user has on hold finds no channel exactly if the legs not on hold, just before, are as many as there are channels
abbrev pub WantsChannel : ℕ → List Deed → Option Retrieval → Type 0
WantsChannel size ds None = Unit {0}
WantsChannel size ds (Some q) = on_hold ds q.user q.call ≡ true → (q.verdict ≡ Declined NoChannel) ↔ (legs_not_on_hold ds ≡ size)

-- of the latest call
abbrev pub WantOfChannel : ℕ → List Event → Type 0
WantOfChannel size [] = Unit {0}
WantOfChannel size (e ∷ es) = WantsChannel size (deeds es) (retrieval e)

-- all of it, after these calls
pub record Sums (limit : ℕ → ℕ) (size : ℕ) (u : User) (es : List Event) (p : State) : Type 0 where
  pub marks : MarksAgree u (deeds es) p
  pub holds : HoldsCount limit u (deeds es)
  pub channels : ChannelsCount size (deeds es) p
  pub records : RecordsAgree (deeds es) p
  pub want : WantOfChannel size es

-- the law: whatever the limits, the size and the user, the sums stand after every run
abbrev pub SumsStand : Type 0
SumsStand = (limit : ℕ → ℕ) (size : ℕ) (u : User) (es : List Event) (p : State) → Run limit size u es p → Sums limit size u es p

-- a call after a run makes a longer run, and its sums stand
pub record Onward (limit : ℕ → ℕ) (size : ℕ) (u : User) (e : Event) (q : State) (es : List Event) : Type 0 where
  pub ran : Run limit size u (e ∷ es) q
  pub sums : Sums limit size u (e ∷ es) q

-- the state that a run had before its latest k calls, and the sums there
pub record Stood (limit : ℕ → ℕ) (size : ℕ) (u : User) (es : List Event) (k : ℕ) : Type 0 where
  pub state : State
  pub ran : Run limit size u (drop k es) state
  pub sums : Sums limit size u (drop k es) state

-- a history, the latest last, is a run to a state, and the sums stood all along
pub record Played (limit : ℕ → ℕ) (size : ℕ) (u : User) (es : List Event) (p : State) : Type 0 where
  pub ran : Run limit size u (reverse es) p
  pub sums : Sums limit size u (reverse es) p
  pub always : (k : ℕ) → Stood limit size u (reverse es) k
