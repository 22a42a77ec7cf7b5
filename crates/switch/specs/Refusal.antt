-- The refusals of a switch by their numbers. Assumes nothing.
use Rattle.std.specs.Prelude.{ℕ, cond, Ok, Err, Result}
use Rattle.register.specs.User.{is_user}
use Rattle.text.specs.Fault.{in_switch}
use Rattle.text.specs.declared.fault.Fault.{Fault}
use Rattle.switch.specs.declared.refusal.Refusal.{Refusal}
use Rattle.switch.specs.declared.refusal.Refusal.TheVariants.{NoUser, NoSession, HasSession, SessionsFull, OneUserTwice, NoNewIdentifier, RecordsFull, NoChannels, NotLive, NoRequest, NothingToRepeat, FewPlaces}

abbrev pub told : Refusal → Fault
told NoUser = in_switch 30
told NoSession = in_switch 31
told HasSession = in_switch 32
told SessionsFull = in_switch 33
told OneUserTwice = in_switch 34
told NoNewIdentifier = in_switch 35
told RecordsFull = in_switch 36
told NoChannels = in_switch 37
told NotLive = in_switch 38
told NoRequest = in_switch 39
told NothingToRepeat = in_switch 40
told FewPlaces = in_switch 44

-- the check of a user
abbrev pub user_checked : ℕ → Result Unit Refusal
user_checked u = cond (is_user u) (Ok tt) (Err NoUser)
