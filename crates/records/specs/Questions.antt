-- Questions asked of a list of records: where a call stands, how many a user has on hold, who is next in line. Assumes nothing.
use Rattle.std.specs.Prelude.{ℕ, ◌+◌, Bool, true, false, cond, ◌&&◌, List, [], ◌∷◌, length, Some, None, Option, ◌==◌, nat_le, nat_lt}
use Rattle.register.specs.declared.user.User.{User}
use Rattle.records.specs.Legs.{one, side_of, leg_on, other_side, standing, is_on_hold, channels}
use Rattle.records.specs.declared.legs.Record.{Record}
use Rattle.records.specs.declared.legs.Side.{Side}

-- the place of a call's record, or the number of records
abbrev pub place : ℕ → List Record → ℕ
place c [] = 0
place c (r ∷ rs) = cond (r.id.0 == c) 0 (place c rs + 1)

-- the place, if the call has a record
abbrev pub placed : ℕ → List Record → Option ℕ
placed c rs = cond (nat_lt (place c rs) (length rs)) (Some (place c rs)) None

-- each identifier is above the one before, the first above n, and none is above the last
abbrev pub rising_from : ℕ → ℕ → List Record → Bool
rising_from n last [] = nat_le n last
rising_from n last (r ∷ rs) = nat_lt n r.id.0 && rising_from r.id.0 last rs

abbrev pub rising : ℕ → List Record → Bool
rising last rs = rising_from 0 last rs

-- how many calls a user has on hold
unfoldable pub held_by : ℕ → List Record → ℕ
held_by u [] = 0
held_by u (r ∷ rs) = one (is_on_hold (standing u r)) + held_by u rs

-- how many channels the legs of all records have
unfoldable pub channels_of : List Record → ℕ
channels_of [] = 0
channels_of (r ∷ rs) = channels r + channels_of rs

-- the other party, if the user on a side talks and the other's leg is on hold
abbrev pub behind_if : Bool → Bool → Bool → User → Option User
behind_if false own other v = None
behind_if true false other v = None
behind_if true true true v = None
behind_if true true false v = Some v

abbrev pub behind_on : Option Side → Record → Option User
behind_on None r = None
behind_on (Some s) r = behind_if r.live (leg_on s r).bearer.channel (leg_on (other_side s) r).bearer.channel (leg_on (other_side s) r).user

-- who comes next in line after a user by one call
abbrev pub behind : ℕ → Record → Option User
behind u r = behind_on (side_of u r) r

abbrev pub first_of : Option User → Option User → Option User
first_of None q = q
first_of (Some v) q = Some v

-- who comes next in line after a user: by the lowest of his calls that has somebody
unfoldable pub next_in_line : ℕ → List Record → Option User
next_in_line u [] = None
next_in_line u (r ∷ rs) = first_of (behind u r) (next_in_line u rs)
