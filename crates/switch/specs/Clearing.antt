-- Clearing a call, for a party and for the network. Assumes nothing.
use Rattle.std.specs.Prelude.{ℕ, ◌-◌, Bool, true, false, Some, None, Ok, Err, Option, Result}
use Rattle.frames.specs.declared.content.CallId.{CallId}
use Rattle.records.specs.Changes.{change, cleared, cleared_by, find, for_user}
use Rattle.records.specs.Legs.{channels, held_legs, is_live}
use Rattle.records.specs.declared.legs.HeldLegs.{HeldLegs}
use Rattle.records.specs.declared.legs.HeldLegs.TheVariants.{Neither}
use Rattle.records.specs.declared.legs.Record.{Record}
use Rattle.records.specs.declared.legs.Standing.{Standing}
use Rattle.records.specs.declared.legs.Standing.TheVariants.{Absent, Talking, OnHold}
use Rattle.text.specs.Fault.{in_switch}
use Rattle.text.specs.declared.fault.Fault.{Fault}
use Rattle.switch.specs.State.{Model, with_records}

-- the channels that the call found has, and its legs on hold
abbrev pub channels_in : Option Record → ℕ
channels_in None = 0
channels_in (Some r) = channels r

abbrev pub legs_in : Option Record → HeldLegs
legs_in None = Neither
legs_in (Some r) = held_legs r

-- the state after a record was changed by a clear: its channels are free
abbrev pub freeing : (Record → Record) → ℕ → Model → Model
freeing f c m = with_records (change c f m.records) (m.used - channels_in (find c m.records)) m

-- a user who stands in a call is a party of it
abbrev pub takes_part : Standing → Bool
takes_part Absent = false
takes_part Talking = true
takes_part OnHold = true

-- a party's clear, by where he stands in the call: which legs were on hold, and the state after; a call not there has none and stays
abbrev pub party_legs : Standing → Option Record → HeldLegs
party_legs Absent o = Neither
party_legs Talking o = legs_in o
party_legs OnHold o = legs_in o

abbrev pub party_clears : Standing → ℕ → ℕ → Model → Model
party_clears Absent u c m = m
party_clears Talking u c m = freeing (for_user cleared_by u) c m
party_clears OnHold u c m = freeing (for_user cleared_by u) c m

-- the network's clear: refused of a call that is not live
abbrev pub network_legs : Bool → Option Record → Result HeldLegs Fault
network_legs true o = Ok (legs_in o)
network_legs false o = Err (in_switch 38)

abbrev pub network_clears : Bool → ℕ → Model → Model
network_clears true c m = freeing cleared c m
network_clears false c m = m

abbrev pub clear_told : Model → CallId → Result HeldLegs Fault
clear_told m c = network_legs (is_live (find c.0 m.records)) (find c.0 m.records)

abbrev pub clears : Model → CallId → Model
clears m c = network_clears (is_live (find c.0 m.records)) c.0 m
