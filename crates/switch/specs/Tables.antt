-- The sessions of a switch, and what holds of its sessions and records. Assumes nothing.
use Rattle.std.specs.Prelude.{ℕ, ◌+◌, ◌≤◌, Bool, true, false, cond, not, ◌&&◌, ◌||◌, List, [], ◌∷◌, length, is_some, Some, None, Option, nat_lt}
use Rattle.register.specs.User.{same}
use Rattle.records.specs.Changes.{find}
use Rattle.records.specs.Legs.{channels, side_of}
use Rattle.records.specs.Questions.{held_by, place}
use Rattle.records.specs.declared.legs.Leg.{Leg}
use Rattle.records.specs.declared.legs.Record.{Record}
use Rattle.records.specs.declared.legs.Side.{Side}
use Rattle.signalling.specs.Writable.{writable}
use Rattle.switch.specs.Answer.{answer}
use Rattle.switch.specs.declared.session.Session.{Session}
use Rattle.switch.specs.declared.told.Handled.{Handled}

-- the session of a user
unfoldable pub session : ℕ → List Session → Option Session
session u [] = None
session u (s ∷ ss) = cond (same s.user.0 u) (Some s) (session u ss)

-- its place, or the number of sessions
abbrev pub session_place : ℕ → List Session → ℕ
session_place u [] = 0
session_place u (s ∷ ss) = cond (same s.user.0 u) 0 (session_place u ss + 1)

-- the place, if he has one
abbrev pub session_placed : ℕ → List Session → Option ℕ
session_placed u ss = cond (nat_lt (session_place u ss) (length ss)) (Some (session_place u ss)) None

-- the place of a call's record, with the side of a user who is a party of it
abbrev pub leg_in : ℕ → Option Side → Option (ℕ × Side)
leg_in i None = None
leg_in i (Some s) = Some (i, s)

abbrev pub side_in : ℕ → Option Record → Option Side
side_in u None = None
side_in u (Some r) = side_of u r

abbrev pub leg_place : ℕ → ℕ → List Record → Option (ℕ × Side)
leg_place u c rs = leg_in (place c rs) (side_in u (find c rs))

-- no two sessions are one user's
abbrev pub apart : List Session → Bool
apart [] = true
apart (s ∷ ss) = not (is_some (session s.user.0 ss)) && apart ss

-- a leg of a live call that has no channel, so is on hold, is a user's with a session
abbrev pub leg_seated : List Session → Leg → Bool
leg_seated ss l = l.bearer.channel || is_some (session l.user.0 ss)

-- of a record: a live call's legs on hold have sessions; a cleared call has no channels
abbrev pub lawful_if : Bool → List Session → Record → Bool
lawful_if true ss r = leg_seated ss r.first && leg_seated ss r.second
lawful_if false ss r = not r.first.bearer.channel && not r.second.bearer.channel

-- of all records
unfoldable pub lawful : List Session → List Record → Bool
lawful ss [] = true
lawful ss (r ∷ rs) = lawful_if r.live ss r && lawful ss rs

-- how many legs are not on hold in live calls
unfoldable pub legs_not_on_hold : List Record → ℕ
legs_not_on_hold [] = 0
legs_not_on_hold (r ∷ rs) = cond r.live (channels r) 0 + legs_not_on_hold rs

-- what was answered can be answered again: its frame is one that the writer does not refuse
abbrev pub answerable : Option Handled → Bool
answerable None = true
answerable (Some h) = writable (answer false h)

unfoldable pub all_answerable : List Session → Bool
all_answerable [] = true
all_answerable (s ∷ ss) = answerable s.handled && all_answerable ss

-- nobody has more calls on hold than his limit
abbrev pub WithinLimits : (ℕ → ℕ) → List Record → Type 0
WithinLimits limit rs = (user : ℕ) → held_by user rs ≤ limit user
