-- The waiting line of a user, by a walk from each to the next. Assumes nothing.
use Rattle.std.specs.Prelude.{ℕ, zero, suc, Bool, true, false, cond, not, ◌||◌, List, [], ◌∷◌, ◌++◌, length, drop, Some, None, Ok, Err, Option, Result, nat_lt}
use Rattle.records.specs.Questions.{next_in_line}
use Rattle.records.specs.declared.legs.Record.{Record}
use Rattle.register.specs.User.{is_user, same}
use Rattle.register.specs.declared.user.User.{User}
use Rattle.switch.specs.State.{Model}
use Rattle.text.specs.Fault.{after, in_switch, unless}
use Rattle.text.specs.declared.fault.Fault.{Fault}
use Rattle.waiting.specs.declared.told.WaitingLine.{WaitingLine}

-- a line, and whether it is a ring
pub record Line : Type 0 where
  pub users : List User
  pub ring : Bool

-- whether a user stands in a line
unfoldable pub stands_in : ℕ → List User → Bool
stands_in u [] = false
stands_in u (v ∷ vs) = same v.0 u || stands_in u vs

-- what comes after the last user of a line: its end, as a ring or not, or one more user
pub data Step : Type 0 where
  End : Bool → Step
  On : User → Step

-- by who is next: it ends, as a ring if that one stands in it, or goes on
abbrev pub step_by : Option User → List User → Step
step_by None line = End false
step_by (Some v) line = cond (stands_in v.0 line) (End true) (On v)

abbrev pub carry_on : Step → List User → (User → Line) → Line
carry_on (End r) line on = record { users = line; ring = r }
carry_on (On v) line on = on v

-- the line from a part of it and its last user, in so many steps at most
unfoldable pub walk : ℕ → List Record → List User → User → Line
walk zero rs line last = record { users = line; ring = false }
walk (suc n) rs line last = carry_on (step_by (next_in_line last.0 rs) line) line (λ v. walk n rs (line ++ v ∷ []) v)

-- the line of a user; no line takes more than 33 steps
abbrev pub line_of : List Record → User → Line
line_of rs u = walk 33 rs (u ∷ []) u

-- what is told of it, and what is written over the places handed over
abbrev pub tells : Line → WaitingLine
tells l = record { length = length l.users; ring = l.ring }

abbrev pub written : Line → List User → List User
written l before = l.users ++ drop (length l.users) before

-- the checks, by the number of places
abbrev pub checks : User → ℕ → Result Unit Fault
checks u places = unless (not (is_user u.0)) (in_switch 30) (unless (nat_lt places 33) (in_switch 44) (Ok tt))

abbrev pub line_checked : Model → User → ℕ → Result Line Fault
line_checked m u places = after (checks u places) (λ _. Ok (line_of m.records u))

-- the outcome, and the places after it
abbrev pub line_told : Result Line Fault → Result WaitingLine Fault
line_told (Ok l) = Ok (tells l)
line_told (Err e) = Err e

abbrev pub line_written : Result Line Fault → List User → List User
line_written (Ok l) before = written l before
line_written (Err e) before = before
