-- Connecting a call. Assumes nothing.
use Rattle.std.specs.Prelude.{◌+◌, not, ◌&&◌, ◌||◌, [], ◌∷◌, ◌++◌, length, Ok, Err, Result, nat_le}
use Rattle.frames.specs.Layout.{no_call}
use Rattle.frames.specs.declared.content.CallId.{CallId}
use Rattle.register.specs.User.{is_user, same}
use Rattle.register.specs.declared.user.User.{User}
use Rattle.records.specs.Changes.{connected_call}
use Rattle.text.specs.Fault.{in_switch, unless}
use Rattle.text.specs.declared.fault.Fault.{Fault}
use Rattle.switch.specs.State.{Model}

-- what connecting answers
abbrev pub connect_checked : Model → CallId → User → User → Result Unit Fault
connect_checked m c a b =
    unless (not (is_user a.0 && is_user b.0)) (in_switch 30)
    (unless (same a.0 b.0) (in_switch 34)
    (unless (no_call c.0 || nat_le c.0 m.last) (in_switch 35)
    (unless (nat_le 64 (length m.records)) (in_switch 36)
    (unless (not (nat_le (m.used + 2) m.size)) (in_switch 37)
    (Ok tt)))))

-- what is checked before channels are drawn
abbrev pub place_checked : Model → CallId → User → User → Result Unit Fault
place_checked m c a b =
    unless (not (is_user a.0 && is_user b.0)) (in_switch 30)
    (unless (same a.0 b.0) (in_switch 34)
    (unless (no_call c.0 || nat_le c.0 m.last) (in_switch 35)
    (unless (nat_le 64 (length m.records)) (in_switch 36)
    (Ok tt))))

-- the state after connecting: the call stands last with a channel for each leg, and its identifier is the last; a refusal changes nothing
abbrev pub connects : Result Unit Fault → Model → CallId → User → User → Model
connects (Ok t) m c a b = record { sessions = m.sessions; records = m.records ++ connected_call c a b ∷ []; last = c.0; used = m.used + 2; size = m.size }
connects (Err e) m c a b = m

abbrev pub connected : Model → CallId → User → User → Model
connected m c a b = connects (connect_checked m c a b) m c a b
