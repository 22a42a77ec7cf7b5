-- What becomes of a record that lends one of its legs. Assumes nothing.
use Rattle.std.specs.Borrow.{Fml, Lends, MutBor}
use Rattle.records.specs.Legs.{with_leg}
use Rattle.records.specs.contracts.legs.Leg as leg
use Rattle.records.specs.contracts.legs.Record as rec
use Rattle.records.specs.declared.legs.Leg.{Leg}
use Rattle.records.specs.declared.legs.Record.{Record}
use Rattle.records.specs.declared.legs.Side.{Side}

-- the record ends with what was left in the leg
abbrev pub LendsLeg : Side → MutBor Record → MutBor Leg → Fml
LendsLeg side r l = Lends rec.the_row leg.the_row r l (with_leg side r.now)
