-- A table of users and limits: its checks, and the limit of each user. Assumes nothing.
use Rattle.std.specs.Prelude.{◌≡◌, ℕ, ◌<◌, min, Bool, true, cond, not, ◌&&◌, List, [], ◌∷◌, length, Some, None, Ok, Option, Result, ◌≢◌, nat_le, slice_index_or}
use Rattle.std.specs.Option.{unwrap_or}
use Rattle.text.specs.declared.fault.Fault.{Fault}
use Rattle.text.specs.Fault.{in_making, unless}
use Rattle.register.specs.declared.table.Entry.{Entry}
use Rattle.register.specs.User.{before, is_user, same}

-- a limit is 0 to 7
abbrev pub fits : ℕ → Bool
fits n = nat_le n 7

abbrev pub limits_fit : List Entry → Bool
limits_fit [] = true
limits_fit (e ∷ es) = fits e.limit && limits_fit es

-- a user who may stand after the last one; 0 is before all users
abbrev pub next : ℕ → ℕ → Bool
next last user = before last user && is_user user

-- each user is in range and comes after the one before him
abbrev pub users_rise : ℕ → List Entry → Bool
users_rise last [] = true
users_rise last (e ∷ es) = next last e.user.0 && users_rise e.user.0 es

-- the checks of a table in their order
abbrev pub checks_table : List Entry → Result Unit Fault
checks_table es =
    unless (not (limits_fit es)) (in_making 51)
    (unless (not (users_rise 0 es)) (in_making 52)
    (Ok tt))

-- the limit of the entry with a user
abbrev pub found : ℕ → List Entry → Option ℕ
found user [] = None
found user (e ∷ es) = cond (same e.user.0 user) (Some e.limit) (found user es)

-- the limit of a user: that of his entry, 0 for one who is absent; no more than 7 in any list, so that the range holds of lists unchecked
abbrev pub limit_in : ℕ → List Entry → ℕ
limit_in user es = min (unwrap_or (found user es) 0) 7

-- what stands past the end of a table
abbrev pub blank : Entry
blank = record { user = record { 0 = 0 }; limit = 0 }

-- the user and the limit of the entry at a place
abbrev pub user_at : List Entry → ℕ → ℕ
user_at es i = (slice_index_or es i blank).user.0

abbrev pub limit_at : List Entry → ℕ → ℕ
limit_at es i = (slice_index_or es i blank).limit

-- what a table of entries means: each user in it has the limit beside him, any other has 0
pub record Means (es : List Entry) (limit : ℕ → ℕ) : Type 0 where
  pub listed : (i : ℕ) → i < length es → limit (user_at es i) ≡ limit_at es i
  pub absent : (user : ℕ) → ((i : ℕ) → i < length es → user_at es i ≢ user) → limit user ≡ 0
