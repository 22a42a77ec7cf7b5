-- The books as their tables and counts, which is how a clause sees them, and what each deed changes. Assumes nothing.
use Rattle.std.specs.Prelude.{◌≡◌, ℕ, ◌+◌, Bool, true, false, cond, not, ◌&&◌, List, [], ◌∷◌, map, is_some, Ok, Err, Result, ◌==◌}
use Rattle.records.specs.Legs.{one}
use Rattle.records.specs.declared.legs.HeldLegs.{HeldLegs}
use Rattle.register.specs.User.{same}
use Rattle.law.specs.History.{Deed, leg_among, party_of}
use Rattle.law.specs.History.Deed.{connected, hold_granted, retrieval_granted, cleared_by_party, cleared_by_network}
use Rattle.books.specs.Tables.{call_in, ended, freed, leg_in, parties_by, put, renewed, same_call, same_leg}
use Rattle.books.specs.declared.entry.Entry.{Entry}
use Rattle.books.specs.declared.entry.Mark.{Mark}
use Rattle.books.specs.declared.error.NoteError.{NoteError}
use Rattle.books.specs.declared.error.NoteError.TheVariants.{NoMemory, Full}

pub record Model : Type 0 where
  pub user : ℕ
  pub calls : List Entry
  pub marks : List Mark
  pub granted : ℕ
  pub retrieved : ℕ
  pub cleared : ℕ

abbrev pub fresh : ℕ → Model
fresh u = record { user = u; calls = []; marks = []; granted = 0; retrieved = 0; cleared = 0 }

abbrev pub entry_for : ℕ → ℕ → ℕ → Entry
entry_for c a b = record { call = record { 0 = c }; first = record { 0 = a }; second = record { 0 = b }; live = true }

abbrev pub mark_for : ℕ → ℕ → Bool → Mark
mark_for v c h = record { user = record { 0 = v }; call = record { 0 = c }; held = h }

abbrev pub after_connect : Entry → Model → Model
after_connect n m =
    record { user = m.user; calls = put same_call n m.calls; marks = m.marks; granted = m.granted; retrieved = m.retrieved; cleared = m.cleared }

abbrev pub after_hold : ℕ → ℕ → Model → Model
after_hold v c m =
    record { user = m.user; calls = m.calls; marks = put same_leg (mark_for v c true) m.marks; granted = m.granted + one (same v m.user); retrieved = m.retrieved; cleared = m.cleared }

abbrev pub after_retrieval : ℕ → ℕ → Model → Model
after_retrieval v c m =
    record { user = m.user; calls = m.calls; marks = map (renewed same_leg (mark_for v c false)) m.marks; granted = m.granted; retrieved = m.retrieved + one (same v m.user); cleared = m.cleared }

-- a clear, by whether it ends the call
abbrev pub after_clear : Bool → ℕ → HeldLegs → Model → Model
after_clear ends c l m =
    record {
      user = m.user;
      calls = cond ends (map (ended c) m.calls) m.calls;
      marks = cond ends (map (freed c) m.marks) m.marks;
      granted = m.granted;
      retrieved = m.retrieved;
      cleared = m.cleared + one (leg_among l m.user (parties_by (call_in c m.calls)));
    }

abbrev pub after : Deed → Model → Model
after (connected c a b) m = after_connect (entry_for c a b) m
after (hold_granted v c) m = after_hold v c m
after (retrieval_granted v c) m = after_retrieval v c m
after (cleared_by_party v c l) m = after_clear (party_of v (parties_by (call_in c m.calls))) c l m
after (cleared_by_network c l) m = after_clear true c l m

-- one more is counted, and the count is at the end of its range
abbrev pub ends_count : ℕ → Bool → Bool
ends_count n more = more && n == 18446744073709551615

abbrev pub clear_at_end : ℕ → HeldLegs → Model → Bool
clear_at_end c l m = ends_count m.cleared (leg_among l m.user (parties_by (call_in c m.calls)))

-- the deed counts, and its count is at the end of its range
abbrev pub at_end : Deed → Model → Bool
at_end (connected c a b) m = false
at_end (hold_granted v c) m = ends_count m.granted (same v m.user)
at_end (retrieval_granted v c) m = ends_count m.retrieved (same v m.user)
at_end (cleared_by_party v c l) m = clear_at_end c l m
at_end (cleared_by_network c l) m = clear_at_end c l m

-- the deed puts a call or a leg that is not there yet
abbrev pub wants_room : Deed → Model → Bool
wants_room (connected c a b) m = not (is_some (call_in c m.calls))
wants_room (hold_granted v c) m = not (is_some (leg_in v c m.marks))
wants_room (retrieval_granted v c) m = false
wants_room (cleared_by_party v c l) m = false
wants_room (cleared_by_network c l) m = false

-- the latest deed first
abbrev pub after_all : List Deed → Model → Model
after_all [] m = m
after_all (d ∷ ds) m = after d (after_all ds m)

-- the same of what one call tells, which is one deed or none
abbrev pub any_at_end : List Deed → Model → Bool
any_at_end [] m = false
any_at_end (d ∷ ds) m = at_end d m

abbrev pub any_wants_room : List Deed → Model → Bool
any_wants_room [] m = false
any_wants_room (d ∷ ds) m = wants_room d m

-- what becomes of books m, by what they would be after, whether a count is at its end and whether room is wanted:
-- a count at its end is refused first, and memory may be wanting only where room is wanted; where they are refused, they stay
abbrev pub EntersBy : Model → Bool → Bool → Model → Model → Result Unit NoteError → Type 0
EntersBy a e w m n (Ok t) = (n ≡ a) × (e ≡ false)
EntersBy a e w m n (Err NoMemory) = (n ≡ m) × (w ≡ true) × (e ≡ false)
EntersBy a e w m n (Err Full) = (n ≡ m) × (e ≡ true)

abbrev pub Enters : List Deed → Model → Model → Result Unit NoteError → Type 0
Enters ds m n r = EntersBy (after_all ds m) (any_at_end ds m) (any_wants_room ds m) m n r
