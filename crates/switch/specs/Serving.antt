-- Serving one frame of a user. Assumes nothing.
use Rattle.std.specs.Prelude.{◌≡◌, ℕ, ◌+◌, ◌-◌, Bool, true, false, cond, not, List, [], ◌∷◌, Some, None, Ok, Err, Option, Result, ◌==◌, nat_le}
use Rattle.std.specs.Bool.{beq}
use Rattle.frames.specs.declared.content.Body.{Body}
use Rattle.frames.specs.declared.content.CallId.{CallId}
use Rattle.frames.specs.declared.content.Cause.TheVariants.{NotSubscribed, LimitReached, CallNotThere, AlreadyOnHold, NotOnHold, NoChannel}
use Rattle.frames.specs.declared.content.Frame.{Frame}
use Rattle.frames.specs.declared.content.Operation.TheVariants.{Hold, Retrieve}
use Rattle.frames.specs.declared.content.Verdict.{Verdict}
use Rattle.frames.specs.declared.content.Verdict.TheVariants.{Granted, Declined}
use Rattle.links.specs.Meaning.{SendAnswer, TakeAnswer}
use Rattle.register.specs.User.{is_user, same}
use Rattle.register.specs.declared.user.User.{User}
use Rattle.records.specs.Changes.{change, find, for_user, put_on_hold, retrieved}
use Rattle.records.specs.Legs.{standing_in}
use Rattle.records.specs.Questions.{held_by}
use Rattle.records.specs.declared.legs.Standing.{Standing}
use Rattle.records.specs.declared.legs.Standing.TheVariants.{Absent, Talking, OnHold}
use Rattle.signalling.specs.Ask.{ask_of}
use Rattle.signalling.specs.Carrying.{Pulling, Telling}
use Rattle.signalling.specs.declared.ask.Ask.{Ask}
use Rattle.signalling.specs.declared.ask.Ask.TheVariants as ask
use Rattle.text.specs.Fault.{in_switch, unless}
use Rattle.text.specs.declared.fault.Fault.{Fault}
use Rattle.switch.specs.Answer.{answer}
use Rattle.switch.specs.Clearing.{party_legs, party_clears}
use Rattle.switch.specs.State.{Model, with_records, with_sessions}
use Rattle.switch.specs.Tables.{session}
use Rattle.switch.specs.declared.session.Session.{Session}
use Rattle.switch.specs.declared.told.Handled.{Handled}
use Rattle.switch.specs.declared.told.Handled.TheVariants.{Answered, Cleared}
use Rattle.switch.specs.declared.told.Served.{Served}
use Rattle.switch.specs.declared.told.Served.TheVariants.{Nothing, Fresh, Repeat}

-- the verdict on a hold: where the user stands, whether he is not subscribed, whether he has as many on hold as he may
abbrev pub hold_verdict : Standing → Bool → Bool → Verdict
hold_verdict Absent none full = Declined CallNotThere
hold_verdict OnHold none full = Declined AlreadyOnHold
hold_verdict Talking true full = Declined NotSubscribed
hold_verdict Talking false true = Declined LimitReached
hold_verdict Talking false false = Granted

-- the verdict on a retrieval: where the user stands, whether all channels are in use
abbrev pub retrieve_verdict : Standing → Bool → Verdict
retrieve_verdict Absent full = Declined CallNotThere
retrieve_verdict Talking full = Declined NotOnHold
retrieve_verdict OnHold true = Declined NoChannel
retrieve_verdict OnHold false = Granted

-- the state after each verdict: what is declined changes nothing
abbrev pub holds : Verdict → ℕ → ℕ → Model → Model
holds Granted u c m = with_records (change c (for_user put_on_hold u) m.records) (m.used - 1) m
holds (Declined x) u c m = m

abbrev pub retrieves : Verdict → ℕ → ℕ → Model → Model
retrieves Granted u c m = with_records (change c (for_user retrieved u) m.records) (m.used + 1) m
retrieves (Declined x) u c m = m

-- where a user stands in a call
abbrev pub standing_at : Model → ℕ → ℕ → Standing
standing_at m u c = standing_in u (find c m.records)

-- the verdicts in a state, with the user's limit
abbrev pub on_hold : ℕ → Model → ℕ → ℕ → Verdict
on_hold limit m u c = hold_verdict (standing_at m u c) (limit == 0) (nat_le limit (held_by u m.records))

abbrev pub on_retrieve : Model → ℕ → ℕ → Verdict
on_retrieve m u c = retrieve_verdict (standing_at m u c) (m.used == m.size)

-- what is told of a request, and the state after it
abbrev pub handled_of : ℕ → Model → ℕ → CallId → Ask → Handled
handled_of limit m u c ask.Hold = Answered Hold c (on_hold limit m u c.0)
handled_of limit m u c ask.Retrieve = Answered Retrieve c (on_retrieve m u c.0)
handled_of limit m u c ask.Clear = Cleared c (party_legs (standing_at m u c.0) (find c.0 m.records))

abbrev pub state_of : ℕ → Model → ℕ → CallId → Ask → Model
state_of limit m u c ask.Hold = holds (on_hold limit m u c.0) u c.0 m
state_of limit m u c ask.Retrieve = retrieves (on_retrieve m u c.0) u c.0 m
state_of limit m u c ask.Clear = party_clears (standing_at m u c.0) u c.0 m

-- what a body comes to: nothing where it is no request
pub data Carried : Type 0 where
  no_request : Carried
  carried : Handled → Model → Carried

abbrev pub carry_asked : ℕ → Model → ℕ → CallId → Option Ask → Carried
carry_asked limit m u c None = no_request
carry_asked limit m u c (Some k) = carried (handled_of limit m u c k) (state_of limit m u c k)

abbrev pub carry_out : ℕ → Model → ℕ → CallId → Body → Carried
carry_out limit m u c b = carry_asked limit m u c (ask_of b)

-- a user's session after a request with a bit was handled
abbrev pub handled_by : User → Bool → Handled → Session
handled_by u x h = record { user = u; exchange = x; handled = Some h }

unfoldable pub noted : Session → List Session → List Session
noted n [] = []
noted n (s ∷ ss) = cond (same s.user.0 n.user.0) n s ∷ noted n ss

-- what a frame comes to that is served
pub data Effect : Type 0 where
  -- it is refused
  refused : Fault → Effect
  -- the last answer is sent again
  repeated : Handled → Effect
  -- the request is carried out
  fresh : Handled → Model → Effect

-- a repeat, by what was handled last
abbrev pub again : Option Handled → Effect
again None = refused (in_switch 40)
again (Some h) = repeated h

-- by whether the bit is the last one handled
abbrev pub by_bit : Bool → User → Bool → Session → Handled → Model → Effect
by_bit true u x s h m = again s.handled
by_bit false u x s h m = fresh h (with_sessions (noted (handled_by u x h) m.sessions) m)

abbrev pub effect_of : Carried → User → Bool → Session → Effect
effect_of no_request u x s = refused (in_switch 39)
effect_of (carried h m) u x s = by_bit (beq x s.exchange) u x s h m

-- what a frame of a user with a session comes to, with his limit
abbrev pub effect : ℕ → Model → User → Session → Frame → Effect
effect limit m u s f = effect_of (carry_out limit m u.0 f.call f.body) u f.exchange s

-- whom the switch serves: a user, with a session
abbrev pub the_session : Option Session → Result Session Fault
the_session None = Err (in_switch 31)
the_session (Some s) = Ok s

abbrev pub serve_checked : Model → User → Result Session Fault
serve_checked m u = unless (not (is_user u.0)) (in_switch 30) (the_session (session u.0 m.sessions))

module _ {Y : Type 0} (sends : Y → List ℕ → Y → SendAnswer → Type 0) where
  -- an answer was sent, and what is told with the link's fault
  pub record Answering (f : Frame) (told : Option Fault → Served) (c d : Y) (r : Result Served Fault) : Type 0 where
    pub fault : Option Fault
    pub telling : Telling sends f c d fault
    pub says : r ≡ Ok (told fault)

  -- what an effect tells and leaves: the state, the down link
  abbrev pub Acts : Effect → Bool → Model → Model → Y → Y → Result Served Fault → Type 0
  Acts (refused e) x m n c d r = (r ≡ Err e) × (n ≡ m) × (d ≡ c)
  Acts (repeated h) x m n c d r = Answering (answer x h) (Repeat h) c d r × (n ≡ m)
  Acts (fresh h k) x m n c d r = Answering (answer x h) (Fresh h) c d r × (n ≡ k)

  -- what is made of what was pulled
  abbrev pub Serves : ℕ → User → Session → Result (Option Frame) Fault → Model → Model → Y → Y → Result Served Fault → Type 0
  Serves limit u s (Err e) m n c d r = (r ≡ Err e) × (n ≡ m) × (d ≡ c)
  Serves limit u s (Ok None) m n c d r = (r ≡ Ok Nothing) × (n ≡ m) × (d ≡ c)
  Serves limit u s (Ok (Some f)) m n c d r = Acts (effect limit m u s f) f.exchange m n c d r

module _ {X Y : Type 0} (takes : X → List ℕ → X → List ℕ → TakeAnswer → Type 0) (sends : Y → List ℕ → Y → SendAnswer → Type 0) where
  -- a frame was taken from the up link, or nothing, and served
  pub record Taking (limit : ℕ) (u : User) (s : Session) (m n : Model) (a b : X) (c d : Y) (r : Result Served Fault) : Type 0 where
    pub came : Result (Option Frame) Fault
    pub pulling : Pulling takes a b came
    pub serves : Serves sends limit u s came m n c d r

  -- what serving tells and leaves; 30 and 31 take nothing
  abbrev pub ServingBy : Result Session Fault → ℕ → User → Model → Model → X → X → Y → Y → Result Served Fault → Type 0
  ServingBy (Err e) limit u m n a b c d r = (r ≡ Err e) × (n ≡ m) × (b ≡ a) × (d ≡ c)
  ServingBy (Ok s) limit u m n a b c d r = Taking limit u s m n a b c d r

  abbrev pub Serving : ℕ → User → Model → Model → X → X → Y → Y → Result Served Fault → Type 0
  Serving limit u m n a b c d r = ServingBy (serve_checked m u) limit u m n a b c d r
