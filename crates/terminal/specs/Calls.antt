-- The calls that a terminal holds. Assumes nothing.
use Rattle.std.specs.Prelude.{◌≡◌, ℕ, ◌+◌, ◌≤◌, Bool, true, cond, ◌&&◌, List, [], ◌∷◌, length, Some, None, Option, ◌==◌, nat_le, nat_lt}
use Rattle.terminal.specs.declared.call.Call.{Call}
use Rattle.terminal.specs.declared.request.Request.{Request}

-- each identifier is above the one before, the first above n, and none is above the last
abbrev pub rising_from : ℕ → ℕ → List Call → Bool
rising_from n last [] = nat_le n last
rising_from n last (c ∷ cs) = nat_lt n c.id.0 && rising_from c.id.0 last cs

-- a table's calls: identifiers above 0 that rise, to the last accepted at most
abbrev pub rising : ℕ → List Call → Bool
rising last cs = rising_from 0 last cs

-- an open request is for an identifier that was accepted
abbrev pub known : ℕ → Option Request → Bool
known last None = true
known last (Some q) = nat_lt 0 q.call.0 && nat_le q.call.0 last

-- what holds of every terminal
pub record Sound (last : ℕ) (calls : List Call) (request : Option Request) : Type 0 where
  pub ids : rising last calls ≡ true
  pub top : last ≤ 16383
  pub asked : known last request ≡ true

-- the place of a call, or the length
abbrev pub place : ℕ → List Call → ℕ
place n [] = 0
place n (c ∷ cs) = cond (c.id.0 == n) 0 (place n cs + 1)

-- the place of a call that is held
abbrev pub held_at : ℕ → List Call → Option ℕ
held_at n cs = cond (nat_lt (place n cs) (length cs)) (Some (place n cs)) None

-- the call that has an identifier
abbrev pub find : ℕ → List Call → Option Call
find n [] = None
find n (c ∷ cs) = cond (c.id.0 == n) (Some c) (find n cs)

-- the call that has an identifier, changed by f
abbrev pub change : (Call → Call) → ℕ → List Call → List Call
change f n [] = []
change f n (c ∷ cs) = cond (c.id.0 == n) (f c ∷ cs) (c ∷ change f n cs)

-- a call with its own mark, or the other party's, set or dropped
abbrev pub own_to : Bool → Call → Call
own_to b c = record { id = c.id; own = b; other = c.other }

abbrev pub other_to : Bool → Call → Call
other_to b c = record { id = c.id; own = c.own; other = b }

-- the own mark of a call, and the other party's
abbrev pub mark : ℕ → Bool → List Call → List Call
mark n b cs = change (own_to b) n cs

abbrev pub mark_other : ℕ → Bool → List Call → List Call
mark_other n b cs = change (other_to b) n cs

-- without the call that has an identifier
abbrev pub without : ℕ → List Call → List Call
without n [] = []
without n (c ∷ cs) = cond (c.id.0 == n) cs (c ∷ without n cs)
