-- What the outcomes of a run tell of calls, from the calls made and their outcomes alone, the latest first. Assumes nothing.
use Rattle.std.specs.Prelude.{ℕ, zero, suc, ◌+◌, Bool, true, false, cond, not, ◌&&◌, ◌||◌, List, [], ◌∷◌, ◌++◌, Some, None, Ok, Err, Option, Result, ◌==◌}
use Rattle.frames.specs.declared.content.Operation.TheVariants.{Hold, Retrieve}
use Rattle.frames.specs.declared.content.Verdict.TheVariants.{Granted, Declined}
use Rattle.register.specs.User.{same}
use Rattle.records.specs.Legs.{one}
use Rattle.records.specs.declared.legs.HeldLegs.{HeldLegs}
use Rattle.records.specs.declared.legs.HeldLegs.TheVariants as legs
use Rattle.switch.specs.declared.told.Handled.{Handled}
use Rattle.switch.specs.declared.told.Handled.TheVariants.{Answered, Cleared as clear_handled}
use Rattle.switch.specs.declared.told.Served.{Served as ServedTold}
use Rattle.switch.specs.declared.told.Served.TheVariants.{Nothing, Fresh, Repeat}
use Rattle.text.specs.declared.fault.Fault.{Fault}
use Rattle.law.specs.declared.event.Event.{Event}
use Rattle.law.specs.declared.event.Event.TheVariants.{Opened, Connected, Joined, Requested, Ticked, Received, Served, Notified, Cleared}

-- what an outcome tells of a call: users and calls are by their numbers
pub data Deed : Type 0 where
  -- a call, its first party and its second
  connected : ℕ → ℕ → ℕ → Deed
  -- a user and a call
  hold_granted : ℕ → ℕ → Deed
  retrieval_granted : ℕ → ℕ → Deed
  -- a user, a call, and its legs that were on hold
  cleared_by_party : ℕ → ℕ → HeldLegs → Deed
  cleared_by_network : ℕ → HeldLegs → Deed

-- a request carried out for a user; what is declined tells nothing
abbrev pub handled_deeds : ℕ → Handled → List Deed
handled_deeds v (Answered Hold c Granted) = hold_granted v c.0 ∷ []
handled_deeds v (Answered Hold c (Declined x)) = []
handled_deeds v (Answered Retrieve c Granted) = retrieval_granted v c.0 ∷ []
handled_deeds v (Answered Retrieve c (Declined x)) = []
handled_deeds v (clear_handled c l) = cleared_by_party v c.0 l ∷ []

-- a request counts when it is carried out, with or without a fault of the link; a repeat tells nothing
abbrev pub served_deeds : ℕ → Result ServedTold Fault → List Deed
served_deeds v (Err e) = []
served_deeds v (Ok Nothing) = []
served_deeds v (Ok (Fresh h x)) = handled_deeds v h
served_deeds v (Ok (Repeat h x)) = []

abbrev pub connected_deeds : ℕ → ℕ → ℕ → Result Unit Fault → List Deed
connected_deeds c a b (Ok t) = connected c a b ∷ []
connected_deeds c a b (Err e) = []

abbrev pub cleared_deeds : ℕ → Result HeldLegs Fault → List Deed
cleared_deeds c (Ok l) = cleared_by_network c l ∷ []
cleared_deeds c (Err e) = []

-- what one call tells
abbrev pub deed : Event → List Deed
deed (Opened v r) = []
deed (Connected c a b r) = connected_deeds c.0 a.0 b.0 r
deed (Joined c r) = []
deed (Requested k c r) = []
deed (Ticked r) = []
deed (Received r) = []
deed (Served v r) = served_deeds v.0 r
deed (Notified v r) = []
deed (Cleared c r) = cleared_deeds c.0 r

abbrev pub deeds : List Event → List Deed
deeds [] = []
deeds (e ∷ es) = deed e ++ deeds es

pub record Parties : Type 0 where
  pub first : ℕ
  pub second : ℕ

-- the parties of a call, by its connecting
unfoldable pub parties : List Deed → ℕ → Option Parties
parties [] c = None
parties (connected d a b ∷ ds) c = cond (d == c) (Some (record { first = a; second = b })) (parties ds c)
parties (hold_granted v d ∷ ds) c = parties ds c
parties (retrieval_granted v d ∷ ds) c = parties ds c
parties (cleared_by_party v d l ∷ ds) c = parties ds c
parties (cleared_by_network d l ∷ ds) c = parties ds c

abbrev pub party_of : ℕ → Option Parties → Bool
party_of v None = false
party_of v (Some q) = same q.first v || same q.second v

-- a user is a party of a call
abbrev pub party : List Deed → ℕ → ℕ → Bool
party ds v c = party_of v (parties ds c)

-- a call is live from its connecting until the network or one of its parties clears it
unfoldable pub live : List Deed → ℕ → Bool
live [] c = false
live (connected d a b ∷ ds) c = cond (d == c) true (live ds c)
live (hold_granted v d ∷ ds) c = live ds c
live (retrieval_granted v d ∷ ds) c = live ds c
live (cleared_by_party v d l ∷ ds) c = cond (d == c && party ds v c) false (live ds c)
live (cleared_by_network d l ∷ ds) c = cond (d == c) false (live ds c)

-- the leg of a user in a call is on hold from a granted hold to a granted retrieval or the clear
unfoldable pub on_hold : List Deed → ℕ → ℕ → Bool
on_hold [] v c = false
on_hold (connected d a b ∷ ds) v c = on_hold ds v c
on_hold (hold_granted w d ∷ ds) v c = cond (d == c && same w v) true (on_hold ds v c)
on_hold (retrieval_granted w d ∷ ds) v c = cond (d == c && same w v) false (on_hold ds v c)
on_hold (cleared_by_party w d l ∷ ds) v c = cond (d == c && party ds w c) false (on_hold ds v c)
on_hold (cleared_by_network d l ∷ ds) v c = cond (d == c) false (on_hold ds v c)

-- how many holds, and how many retrievals, a user was granted
abbrev pub holds_granted : List Deed → ℕ → ℕ
holds_granted [] v = 0
holds_granted (connected d a b ∷ ds) v = holds_granted ds v
holds_granted (hold_granted w d ∷ ds) v = one (same w v) + holds_granted ds v
holds_granted (retrieval_granted w d ∷ ds) v = holds_granted ds v
holds_granted (cleared_by_party w d l ∷ ds) v = holds_granted ds v
holds_granted (cleared_by_network d l ∷ ds) v = holds_granted ds v

abbrev pub retrievals_granted : List Deed → ℕ → ℕ
retrievals_granted [] v = 0
retrievals_granted (connected d a b ∷ ds) v = retrievals_granted ds v
retrievals_granted (hold_granted w d ∷ ds) v = retrievals_granted ds v
retrievals_granted (retrieval_granted w d ∷ ds) v = one (same w v) + retrievals_granted ds v
retrievals_granted (cleared_by_party w d l ∷ ds) v = retrievals_granted ds v
retrievals_granted (cleared_by_network d l ∷ ds) v = retrievals_granted ds v

-- the first leg, and the second, are among those on hold
abbrev pub first_among : HeldLegs → Bool
first_among legs.Neither = false
first_among legs.First = true
first_among legs.Second = false
first_among legs.Both = true

abbrev pub second_among : HeldLegs → Bool
second_among legs.Neither = false
second_among legs.First = false
second_among legs.Second = true
second_among legs.Both = true

-- the leg of a user is among those on hold
abbrev pub leg_among : HeldLegs → ℕ → Option Parties → Bool
leg_among l v None = false
leg_among l v (Some q) = (same q.first v && first_among l) || (same q.second v && second_among l)

-- how many calls were cleared, by anybody, that a user had on hold, by the legs that the clear told
abbrev pub held_calls_cleared : List Deed → ℕ → ℕ
held_calls_cleared [] v = 0
held_calls_cleared (connected d a b ∷ ds) v = held_calls_cleared ds v
held_calls_cleared (hold_granted w d ∷ ds) v = held_calls_cleared ds v
held_calls_cleared (retrieval_granted w d ∷ ds) v = held_calls_cleared ds v
held_calls_cleared (cleared_by_party w d l ∷ ds) v = one (leg_among l v (parties ds d)) + held_calls_cleared ds v
held_calls_cleared (cleared_by_network d l ∷ ds) v = one (leg_among l v (parties ds d)) + held_calls_cleared ds v

-- the sum of a number for each identifier below a bound
unfoldable pub total : (ℕ → ℕ) → ℕ → ℕ
total f zero = 0
total f (suc n) = f n + total f n

-- all identifiers are below this
abbrev pub all_calls : ℕ
all_calls = 16384

-- how many calls a user has on hold
abbrev pub calls_on_hold : List Deed → ℕ → ℕ
calls_on_hold ds v = total (λ c. one (on_hold ds v c)) all_calls

-- how many legs of a call, with these parties, are not on hold, if it is live
abbrev pub legs_of : List Deed → ℕ → Option Parties → ℕ
legs_of ds c None = 0
legs_of ds c (Some q) = cond (live ds c) (one (not (on_hold ds q.first c)) + one (not (on_hold ds q.second c))) 0

-- how many legs of live calls are not on hold
abbrev pub legs_not_on_hold : List Deed → ℕ
legs_not_on_hold ds = total (λ c. legs_of ds c (parties ds c)) all_calls
