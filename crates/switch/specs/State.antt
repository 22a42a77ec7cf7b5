-- The state of a switch. Assumes nothing.
use Rattle.std.specs.Prelude.{ℕ, List, [], vec_items}
use Rattle.records.specs.declared.legs.Record.{Record}
use Rattle.switch.specs.declared.board.Board.{Board}
use Rattle.switch.specs.declared.session.Session.{Session}
use Rattle.switch.specs.declared.switch.Switch.{Switch}

-- `last` is the highest identifier ever connected, `used` the channels in use of `size`
pub record Model : Type 0 where
  pub sessions : List Session
  pub records : List Record
  pub last : ℕ
  pub used : ℕ
  pub size : ℕ

-- the state that a switch has
abbrev pub model : Board → Model
model b = record { sessions = vec_items b.sessions; records = vec_items b.records; last = b.last; used = b.pool.used; size = b.pool.size }

abbrev pub state : {R : Type 0} {g : _} → Switch R g → Model
state s = model s.board

-- the register that it was made with
abbrev pub kept_register : {R : Type 0} {g : _} → Switch R g → R
kept_register s = s.register

-- a new switch with a pool of a size
abbrev pub fresh : ℕ → Model
fresh size = record { sessions = []; records = []; last = 0; used = 0; size = size }

-- other records and so many channels in use, or other sessions; the rest as it was
abbrev pub with_records : List Record → ℕ → Model → Model
with_records rs n m = record { sessions = m.sessions; records = rs; last = m.last; used = n; size = m.size }

abbrev pub with_sessions : List Session → Model → Model
with_sessions ss m = record { sessions = ss; records = m.records; last = m.last; used = m.used; size = m.size }
