-- Where users stand in a call, by its record. Assumes nothing.
use Rattle.std.specs.Prelude.{ℕ, ◌+◌, Bool, true, false, not, ◌&&◌, Some, None, Option}
use Rattle.register.specs.User.{same}
use Rattle.records.specs.declared.legs.HeldLegs.{HeldLegs}
use Rattle.records.specs.declared.legs.HeldLegs.TheVariants as legs
use Rattle.records.specs.declared.legs.Leg.{Leg}
use Rattle.records.specs.declared.legs.Record.{Record}
use Rattle.records.specs.declared.legs.Side.{Side}
use Rattle.records.specs.declared.legs.Side.TheVariants.{First, Second}
use Rattle.records.specs.declared.legs.Standing.{Standing}
use Rattle.records.specs.declared.legs.Standing.TheVariants.{Absent, Talking, OnHold}

-- 1 for true
abbrev pub one : Bool → ℕ
one true = 1
one false = 0

-- which leg is a user's
abbrev pub side_if : Bool → Bool → Option Side
side_if true q = Some First
side_if false true = Some Second
side_if false false = None

abbrev pub side_of : ℕ → Record → Option Side
side_of u r = side_if (same r.first.user.0 u) (same r.second.user.0 u)

abbrev pub leg_on : Side → Record → Leg
leg_on First r = r.first
leg_on Second r = r.second

-- a record with another leg on a side
abbrev pub with_leg : Side → Record → Leg → Record
with_leg First r l = record { id = r.id; live = r.live; first = l; second = r.second }
with_leg Second r l = record { id = r.id; live = r.live; first = r.first; second = l }

abbrev pub other_side : Side → Side
other_side First = Second
other_side Second = First

-- a leg of a live call is on hold if it has no channel
abbrev pub standing_of : Bool → Standing
standing_of true = Talking
standing_of false = OnHold

abbrev pub stands : Bool → Option Side → Record → Standing
stands false s r = Absent
stands true None r = Absent
stands true (Some s) r = standing_of (leg_on s r).bearer.channel

-- where a user stands in a call
abbrev pub standing : ℕ → Record → Standing
standing u r = stands r.live (side_of u r) r

-- where he stands in the call that was found, if one was
abbrev pub standing_in : ℕ → Option Record → Standing
standing_in u None = Absent
standing_in u (Some r) = standing u r

abbrev pub is_on_hold : Standing → Bool
is_on_hold Absent = false
is_on_hold Talking = false
is_on_hold OnHold = true

-- a call that was found is live
abbrev pub is_live : Option Record → Bool
is_live None = false
is_live (Some r) = r.live

-- which legs are on hold, by whether the first and the second are
abbrev pub legs_of : Bool → Bool → HeldLegs
legs_of false false = legs.Neither
legs_of true false = legs.First
legs_of false true = legs.Second
legs_of true true = legs.Both

abbrev pub held_legs : Record → HeldLegs
held_legs r = legs_of (r.live && not r.first.bearer.channel) (r.live && not r.second.bearer.channel)

-- the number of each
abbrev pub legs_number : HeldLegs → ℕ
legs_number legs.Neither = 0
legs_number legs.First = 1
legs_number legs.Second = 2
legs_number legs.Both = 3

-- how many channels a record's legs have
abbrev pub channels : Record → ℕ
channels r = one r.first.bearer.channel + one r.second.bearer.channel
