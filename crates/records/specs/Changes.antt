-- What becomes of a call record: connected, put on hold, retrieved, cleared, told. Assumes nothing.
use Rattle.std.specs.Prelude.{ℕ, Bool, true, false, cond, not, ◌&&◌, ◌||◌, List, [], ◌∷◌, is_some, Some, None, Option, ◌==◌}
use Rattle.frames.specs.declared.content.CallId.{CallId}
use Rattle.frames.specs.declared.content.News.{News}
use Rattle.frames.specs.declared.content.News.TheVariants.{PutOnHold, Retrieved, Released}
use Rattle.pool.specs.Pool.{bare, carried, full}
use Rattle.pool.specs.declared.claim.Bearer.{Bearer}
use Rattle.pool.specs.declared.pool.Pool.{Pool}
use Rattle.register.specs.declared.user.User.{User}
use Rattle.records.specs.Legs.{side_of}
use Rattle.records.specs.declared.legs.Leg.{Leg}
use Rattle.records.specs.declared.legs.Record.{Record}
use Rattle.records.specs.declared.legs.Side.{Side}
use Rattle.records.specs.declared.legs.Side.TheVariants.{First, Second}

-- a leg with another channel or none, and one with other news or none
abbrev pub bearing : Bearer → Leg → Leg
bearing b l = record { user = l.user; bearer = b; news = l.news }

abbrev pub told : Option News → Leg → Leg
told n l = record { user = l.user; bearer = l.bearer; news = n }

-- a leg of a call that was just connected, and one of a call that is cleared
abbrev pub joined : User → Bearer → Leg
joined u b = record { user = u; bearer = b; news = None }

abbrev pub released : Option News → Leg → Leg
released n l = record { user = l.user; bearer = bare; news = n }

-- a call that was just connected
abbrev pub connected_call : CallId → User → User → Record
connected_call c a b = record { id = c; live = true; first = joined a carried; second = joined b carried }

-- what is made of a new call where two channels are free
abbrev pub connected_if : Bool → CallId → User → User → Option Record
connected_if true c a b = Some (connected_call c a b)
connected_if false c a b = None

-- one leg gets a channel or loses it, and the other party has news of that
abbrev pub moved : Bearer → News → Side → Record → Record
moved b n First r = record { id = r.id; live = r.live; first = bearing b r.first; second = told (Some n) r.second }
moved b n Second r = record { id = r.id; live = r.live; first = told (Some n) r.first; second = bearing b r.second }

abbrev pub put_on_hold : Side → Record → Record
put_on_hold s r = moved bare PutOnHold s r

abbrev pub retrieved : Side → Record → Record
retrieved s r = moved carried Retrieved s r

-- a leg can have a channel: it has one, or one is free
abbrev pub can_carry : Bearer → Pool → Bool
can_carry b p = b.channel || not (full p)

abbrev pub retrieved_if : Bool → Side → Record → Record
retrieved_if true s r = retrieved s r
retrieved_if false s r = r

-- no call any more, and no channels; each party has the news given, or none
abbrev pub ended : Option News → Option News → Record → Record
ended m n r = record { id = r.id; live = false; first = released m r.first; second = released n r.second }

-- cleared by the party on a side, whose own news is dropped; the other has the news of it
abbrev pub cleared_by : Side → Record → Record
cleared_by First r = ended None (Some Released) r
cleared_by Second r = ended (Some Released) None r

-- cleared by the network: both have the news of it
abbrev pub cleared : Record → Record
cleared r = ended (Some Released) (Some Released) r

-- the party on a side was told
abbrev pub hushed : Side → Record → Record
hushed First r = record { id = r.id; live = r.live; first = told None r.first; second = r.second }
hushed Second r = record { id = r.id; live = r.live; first = r.first; second = told None r.second }

-- a change of the leg of a user, if he is a party
abbrev pub at_side : (Side → Record → Record) → Option Side → Record → Record
at_side f None r = r
at_side f (Some s) r = f s r

abbrev pub for_user : (Side → Record → Record) → ℕ → Record → Record
for_user f u r = at_side f (side_of u r) r

-- a call that was cleared and of which nobody has news
abbrev pub is_spent : Record → Bool
is_spent r = not r.live && (not (is_some r.first.news) && not (is_some r.second.news))

-- the record of a call
unfoldable pub find : ℕ → List Record → Option Record
find c [] = None
find c (r ∷ rs) = cond (r.id.0 == c) (Some r) (find c rs)

-- the record of a call, changed by f
unfoldable pub change : ℕ → (Record → Record) → List Record → List Record
change c f [] = []
change c f (r ∷ rs) = cond (r.id.0 == c) (f r) r ∷ change c f rs

-- without the record of a call
unfoldable pub without : ℕ → List Record → List Record
without c [] = []
without c (r ∷ rs) = cond (r.id.0 == c) (without c rs) (r ∷ without c rs)
