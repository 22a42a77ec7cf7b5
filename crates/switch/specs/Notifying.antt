-- Notifying a user. Assumes nothing.
use Rattle.std.specs.Prelude.{◌≡◌, ℕ, Bool, true, false, cond, not, List, Some, None, Ok, Err, Option, Result}
use Rattle.frames.specs.Layout.{no_call}
use Rattle.frames.specs.declared.content.Body.TheVariants as body
use Rattle.frames.specs.declared.content.Frame.{Frame}
use Rattle.links.specs.Meaning.{SendAnswer}
use Rattle.register.specs.User.{is_user}
use Rattle.register.specs.declared.user.User.{User}
use Rattle.records.specs.Changes.{change, find, for_user, hushed, is_spent, without}
use Rattle.records.specs.Notices.{next_notice}
use Rattle.records.specs.declared.legs.Record.{Record}
use Rattle.records.specs.declared.notices.Notice.{Notice}
use Rattle.signalling.specs.Carrying.{Telling}
use Rattle.text.specs.Fault.{in_switch}
use Rattle.text.specs.declared.fault.Fault.{Fault}
use Rattle.switch.specs.State.{Model, with_records}
use Rattle.switch.specs.declared.told.Notified.{Notified}
use Rattle.switch.specs.declared.told.Notified.TheVariants.{Nothing, Notice as told_notice}

-- the frame of a notice: its exchange bit is 0
abbrev pub notice_frame : Notice → Frame
notice_frame q = record { exchange = false; call = q.call; body = body.Notice q.news }

-- the identifier of a notice's call is in range
abbrev pub can_be_sent : Option Notice → Bool
can_be_sent None = true
can_be_sent (Some q) = not (no_call q.call.0)

-- a record is freed when the call was cleared and nobody has news of it
abbrev pub spent : Option Record → Bool
spent None = false
spent (Some r) = is_spent r

abbrev pub tidied : ℕ → List Record → List Record
tidied c rs = cond (spent (find c rs)) (without c rs) rs

-- the state after a user was sent his notice of a call: that news is dropped
abbrev pub tells : ℕ → ℕ → Model → Model
tells u c m = with_records (tidied c (change c (for_user hushed u) m.records)) m.used m

module _ {Y : Type 0} (sends : Y → List ℕ → Y → SendAnswer → Type 0) where
  -- a notice was sent
  pub record Noticing (q : Notice) (c d : Y) (r : Result Notified Fault) : Type 0 where
    pub fault : Option Fault
    pub telling : Telling sends (notice_frame q) c d fault
    pub says : r ≡ Ok (told_notice q.call q.news fault)

  -- by whether he is a user, and by his next notice
  abbrev pub Notifies : Bool → Option Notice → ℕ → Model → Model → Y → Y → Result Notified Fault → Type 0
  Notifies false o u m n c d r = (r ≡ Err (in_switch 30)) × (n ≡ m) × (d ≡ c)
  Notifies true None u m n c d r = (r ≡ Ok Nothing) × (n ≡ m) × (d ≡ c)
  Notifies true (Some q) u m n c d r = Noticing q c d r × (n ≡ tells u q.call.0 m)

  abbrev pub Notifying : User → Model → Model → Y → Y → Result Notified Fault → Type 0
  Notifying u m n c d r = Notifies (is_user u.0) (next_notice u.0 m.records) u.0 m n c d r
