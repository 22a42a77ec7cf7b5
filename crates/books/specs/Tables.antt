-- The tables of the books: what is found in them and what is put into them. Assumes nothing.
use Rattle.std.specs.Prelude.{◌≡◌, ℕ, ◌+◌, Bool, false, cond, not, ◌&&◌, List, [], ◌∷◌, ◌++◌, map, is_some, Some, None, Option, ◌==◌, nat_lt}
use Rattle.std.specs.List.{find}
use Rattle.records.specs.Legs.{one}
use Rattle.register.specs.User.{same}
use Rattle.terminal.specs.declared.call.Call.{Call}
use Rattle.law.specs.History.{Parties}
use Rattle.law.specs.Law.{shows}
use Rattle.books.specs.declared.entry.Entry.{Entry}
use Rattle.books.specs.declared.entry.Mark.{Mark}

-- no two are alike
abbrev pub Apart : {X : Type 0} → (X → X → Bool) → List X → Type 0
Apart r [] = Unit {0}
Apart r (x ∷ xs) = (find (r x) xs ≡ None) × Apart r xs

-- a new one in place of one that is like it
abbrev pub renewed : {X : Type 0} → (X → X → Bool) → X → X → X
renewed r n x = cond (r n x) n x

-- a new one in place of those that are like it, or else at the end
abbrev pub put : {X : Type 0} → (X → X → Bool) → X → List X → List X
put r n xs = cond (is_some (find (r n) xs)) (map (renewed r n) xs) (xs ++ n ∷ [])

-- an entry is of a call; a mark is of a user's leg in a call
abbrev pub is_call : ℕ → Entry → Bool
is_call c e = e.call.0 == c

abbrev pub is_leg : ℕ → ℕ → Mark → Bool
is_leg v c m = same m.user.0 v && m.call.0 == c

abbrev pub same_call : Entry → Entry → Bool
same_call n e = is_call n.call.0 e

abbrev pub same_leg : Mark → Mark → Bool
same_leg n m = is_leg n.user.0 n.call.0 m

abbrev pub call_in : ℕ → List Entry → Option Entry
call_in c es = find (is_call c) es

abbrev pub leg_in : ℕ → ℕ → List Mark → Option Mark
leg_in v c ms = find (is_leg v c) ms

-- the parties by an entry, and whether it is live
abbrev pub parties_by : Option Entry → Option Parties
parties_by None = None
parties_by (Some e) = Some (record { first = e.first.0; second = e.second.0 })

abbrev pub live_by : Option Entry → Bool
live_by None = false
live_by (Some e) = e.live

-- a leg is marked as on hold
abbrev pub held_by : Option Mark → Bool
held_by None = false
held_by (Some m) = m.held

abbrev pub marked : ℕ → ℕ → List Mark → Bool
marked v c ms = held_by (leg_in v c ms)

-- an entry, and a mark, once a call has ended
abbrev pub ended : ℕ → Entry → Entry
ended c e = cond (is_call c e) (record { call = e.call; first = e.first; second = e.second; live = false }) e

abbrev pub freed : ℕ → Mark → Mark
freed c m = cond (m.call.0 == c) (record { user = m.user; call = m.call; held = false }) m

-- all identifiers are below this
abbrev pub within : ℕ → Bool
within c = nat_lt c 16384

-- what a mark counts among the calls that a user has on hold and a terminal does not show so
abbrev pub missed_one : List Call → ℕ → Mark → ℕ
missed_one cs u m = cond (same m.user.0 u && within m.call.0) (one (m.held && not (shows cs m.call.0))) 0

-- what an entry counts among the live calls that a terminal shows as held and the user does not have on hold
abbrev pub wrong_one : List Mark → List Call → ℕ → Entry → ℕ
wrong_one ms cs u e = cond (within e.call.0) (one (e.live && (shows cs e.call.0 && not (marked u e.call.0 ms)))) 0

-- how many legs of an entry are not on hold, if it is live
abbrev pub free_legs : List Mark → Entry → ℕ
free_legs ms e = cond e.live (one (not (marked e.first.0 e.call.0 ms)) + one (not (marked e.second.0 e.call.0 ms))) 0

abbrev pub legs_one : List Mark → Entry → ℕ
legs_one ms e = cond (within e.call.0) (free_legs ms e) 0
