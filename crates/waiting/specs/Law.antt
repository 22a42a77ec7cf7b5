-- The law of a waiting line, in the words of the service. Assumes nothing.
use Rattle.std.specs.Prelude.{◌≡◌, ℕ, ◌+◌, ◌<◌, ◌≤◌, Bool, true, false, List, length, Some, None, Contains, Option, ◌≢◌, slice_index_or}
use Rattle.records.specs.Questions.{next_in_line}
use Rattle.records.specs.declared.legs.Record.{Record}
use Rattle.register.specs.declared.user.User.{User}

-- a line as far as it goes: it starts with the user, nobody stands in it twice, and each is the next of the one before
pub record Chain (rs : List Record) (u : User) (line : List User) : Type 0 where
  pub some : 0 < length line
  pub starts : (d : User) → slice_index_or line 0 d ≡ u
  pub once : (i j : ℕ) (d : User) → i < j → j < length line → slice_index_or line i d ≢ slice_index_or line j d
  pub follows : (i : ℕ) (d : User) → i + 1 < length line → next_in_line (slice_index_or line i d).0 rs ≡ Some (slice_index_or line (i + 1) d)

-- it ends where nobody is next, or, as a ring, where the next stands in it already
abbrev pub Ended : Bool → Option User → List User → Type 0
Ended false next line = next ≡ None
Ended true next line = (v : User) × (next ≡ Some v) × Contains line v

-- the law of a whole line, of so many users, with what is told of a ring
pub record LineLaw (rs : List Record) (u : User) (n : ℕ) (line : List User) (ring : Bool) : Type 0 where
  pub chain : Chain rs u line
  pub long : length line ≡ n
  pub few : n ≤ 33
  pub ended : (i : ℕ) (d : User) → i + 1 ≡ n → Ended ring (next_in_line (slice_index_or line i d).0 rs) line

-- no line is longer than 33, whoever it starts with
abbrev pub Short : List Record → Type 0
Short rs = (u : User) (line : List User) → Chain rs u line → length line ≤ 33
