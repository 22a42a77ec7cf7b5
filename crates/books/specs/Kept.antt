-- What the books say of the deeds they were kept from. Assumes nothing.
use Rattle.std.specs.Prelude.{◌≡◌, ℕ, true, false, List, ◌++◌, Ok, Err, Result}
use Rattle.terminal.specs.declared.call.Call.{Call}
use Rattle.law.specs.History.{Deed, deed, held_calls_cleared, holds_granted, legs_not_on_hold, live, on_hold, parties, retrievals_granted}
use Rattle.law.specs.Law.{calls_differing}
use Rattle.law.specs.declared.event.Event.{Event}
use Rattle.books.specs.Model.{Model, any_at_end, any_wants_room}
use Rattle.books.specs.Tables.{Apart, call_in, live_by, marked, parties_by, same_call, same_leg}
use Rattle.books.specs.declared.error.NoteError.{NoteError}
use Rattle.books.specs.declared.error.NoteError.TheVariants.{NoMemory, Full}

-- the books show of every call and every user what the deeds tell
pub record Kept (ds : List Deed) (m : Model) : Type 0 where
  pub calls : (c : ℕ) → parties_by (call_in c m.calls) ≡ parties ds c
  pub lives : (c : ℕ) → live_by (call_in c m.calls) ≡ live ds c
  pub marks : (v c : ℕ) → marked v c m.marks ≡ on_hold ds v c
  pub granted : m.granted ≡ holds_granted ds m.user
  pub retrieved : m.retrieved ≡ retrievals_granted ds m.user
  pub cleared : m.cleared ≡ held_calls_cleared ds m.user
  pub calls_apart : Apart same_call m.calls
  pub marks_apart : Apart same_leg m.marks

-- books kept of the deeds before an event are kept of those after it; a count at its end is refused first,
-- memory may be wanting only where a call or a leg is not there yet, and where they are refused, nothing changes
abbrev pub Notes : Event → Model → Model → Result Unit NoteError → Type 0
Notes e m n (Ok t) = (n.user ≡ m.user) × ((ds : List Deed) → Kept ds m → Kept (deed e ++ ds) n) × (any_at_end (deed e) m ≡ false)
Notes e m n (Err NoMemory) = (n ≡ m) × (any_wants_room (deed e) m ≡ true) × (any_at_end (deed e) m ≡ false)
Notes e m n (Err Full) = (n ≡ m) × (any_at_end (deed e) m ≡ true)

-- a number is what a count of the deeds says, for the books' user
abbrev pub Says : (List Deed → ℕ → ℕ) → Model → ℕ → Type 0
Says count m r = (ds : List Deed) → Kept ds m → r ≡ count ds m.user

abbrev pub differing : List Call → List Deed → ℕ → ℕ
differing cs ds u = calls_differing ds cs u

abbrev pub legs : List Deed → ℕ → ℕ
legs ds u = legs_not_on_hold ds
