-- Opening a session. Assumes nothing.
use Rattle.std.specs.Prelude.{true, not, [], ◌∷◌, ◌++◌, length, is_some, None, Ok, Err, Result, nat_le}
use Rattle.register.specs.User.{is_user}
use Rattle.register.specs.declared.user.User.{User}
use Rattle.text.specs.Fault.{in_switch, unless}
use Rattle.text.specs.declared.fault.Fault.{Fault}
use Rattle.switch.specs.State.{Model, with_sessions}
use Rattle.switch.specs.Tables.{session}
use Rattle.switch.specs.declared.session.Session.{Session}

-- what opening answers
abbrev pub open_checked : Model → User → Result Unit Fault
open_checked m u =
    unless (not (is_user u.0)) (in_switch 30)
    (unless (is_some (session u.0 m.sessions)) (in_switch 32)
    (unless (nat_le 32 (length m.sessions)) (in_switch 33)
    (Ok tt)))

-- a new session: the last bit handled counts as 1, and nothing was answered
abbrev pub new_session : User → Session
new_session u = record { user = u; exchange = true; handled = None }

-- the state after opening; a refusal changes nothing
abbrev pub opens : Result Unit Fault → Model → User → Model
opens (Ok t) m u = with_sessions (m.sessions ++ new_session u ∷ []) m
opens (Err e) m u = m

abbrev pub opened : Model → User → Model
opened m u = opens (open_checked m u) m u
