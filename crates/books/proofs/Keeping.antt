-- Every deed that is noted keeps the books. Assumes nothing.
use Rattle.std.proofs.Common.{◌≡◌, ℕ, Bool, true, false, cond, ◌&&◌, eqb, List, [], ◌∷◌, ◌++◌, map, Some, Ok, Err, Result, sym, refl, ap, ◌∙◌, subst, arith}
use Rattle.std.proofs.lemmas.Bool.Decides.{nat_tests}
use Rattle.records.specs.Legs.{one}
use Rattle.records.specs.declared.legs.HeldLegs.{HeldLegs}
use Rattle.law.specs.History.{Deed, deed, leg_among, live, on_hold, parties, party, party_of}
use Rattle.law.specs.History.Deed.{connected, hold_granted, retrieval_granted, cleared_by_party, cleared_by_network}
use Rattle.law.specs.declared.event.Event.{Event}
use Rattle.books.specs.Kept.{Kept, Notes}
use Rattle.books.specs.Model.{Enters, Model, after, after_all, entry_for, fresh, mark_for}
use Rattle.books.specs.Tables.{Apart, call_in, ended, freed, is_call, live_by, marked, parties_by, put, renewed, same_call, same_leg}
use Rattle.books.specs.declared.error.NoteError.{NoteError}
use Rattle.books.specs.declared.error.NoteError.TheVariants.{NoMemory, Full}
use Rattle.books.proofs.Found.{apart_map, apart_put, found_put}
use Rattle.books.proofs.Sights.{call_alike, call_ended, call_renewed, leg_alike, leg_freed, leg_renewed, live_ended, marked_freed, marked_put, marked_renewed, parties_ended, sees_call}

pub kept_fresh : (u : ℕ) → Kept [] (fresh u)
unfolding parties live on_hold
kept_fresh u =
    record { calls = λ c. refl; lives = λ c. refl; marks = λ v c. refl; granted = refl; retrieved = refl; cleared = refl; calls_apart = tt; marks_apart = tt }

module _ (ds : List Deed) (m : Model) (k : Kept ds m) where
  kept_connected : (c a b : ℕ) → Kept (connected c a b ∷ ds) (after (connected c a b) m)
  unfolding parties live on_hold
  kept_connected c a b =
      record {
        calls = λ d. let s = seen d in let h = k.calls d in grind (arith, nat_tests);
        lives = λ d. let s = seen d in let h = k.lives d in grind (arith, nat_tests);
        marks = k.marks;
        granted = k.granted;
        retrieved = k.retrieved;
        cleared = k.cleared;
        calls_apart = apart_put same_call (entry_for c a b) m.calls (call_alike (entry_for c a b)) (call_renewed (entry_for c a b)) k.calls_apart;
        marks_apart = k.marks_apart;
      }
    where
      seen : (d : ℕ) → call_in d (put same_call (entry_for c a b) m.calls) ≡ cond (eqb c d) (Some (entry_for c a b)) (call_in d m.calls)
      seen d = found_put same_call (entry_for c a b) (is_call d) (sees_call (entry_for c a b) d) m.calls

  kept_hold : (v c : ℕ) → Kept (hold_granted v c ∷ ds) (after (hold_granted v c) m)
  unfolding parties live on_hold
  kept_hold v c =
      record {
        calls = k.calls;
        lives = k.lives;
        marks = λ w d. let s = marked_put (mark_for v c true) w d m.marks in let h = k.marks w d in grind (arith, nat_tests);
        granted = let h = k.granted in omega arith;
        retrieved = k.retrieved;
        cleared = k.cleared;
        calls_apart = k.calls_apart;
        marks_apart = apart_put same_leg (mark_for v c true) m.marks (leg_alike (mark_for v c true)) (leg_renewed (mark_for v c true)) k.marks_apart;
      }

  kept_retrieval : (v c : ℕ) → Kept (retrieval_granted v c ∷ ds) (after (retrieval_granted v c) m)
  unfolding parties live on_hold
  kept_retrieval v c =
      record {
        calls = k.calls;
        lives = k.lives;
        marks = λ w d. let s = marked_renewed v c w d m.marks in let h = k.marks w d in grind (arith, nat_tests);
        granted = k.granted;
        retrieved = let h = k.retrieved in omega arith;
        cleared = k.cleared;
        calls_apart = k.calls_apart;
        marks_apart = apart_map same_leg (renewed same_leg (mark_for v c false)) m.marks (leg_renewed (mark_for v c false)) k.marks_apart;
      }

  -- the clears, by whether they end the call
  clear_parties : (z : Bool) (c d : ℕ) → parties_by (call_in d (cond z (map (ended c) m.calls) m.calls)) ≡ parties ds d
  clear_parties z c d = let s = parties_ended c d m.calls in let h = k.calls d in grind (arith, nat_tests)

  clear_live : (z : Bool) (c d : ℕ) → live_by (call_in d (cond z (map (ended c) m.calls) m.calls)) ≡ cond (z && eqb c d) false (live ds d)
  clear_live z c d = let s = live_ended c d m.calls in let h = k.lives d in grind (arith, nat_tests)

  clear_marks : (z : Bool) (c w d : ℕ) → marked w d (cond z (map (freed c) m.marks) m.marks) ≡ cond (z && eqb c d) false (on_hold ds w d)
  clear_marks z c w d = let s = marked_freed c w d m.marks in let h = k.marks w d in grind (arith, nat_tests)

  clear_calls_apart : (z : Bool) (c : ℕ) → Apart same_call (cond z (map (ended c) m.calls) m.calls)
  clear_calls_apart true c = apart_map same_call (ended c) m.calls (call_ended c) k.calls_apart
  clear_calls_apart false c = k.calls_apart

  clear_marks_apart : (z : Bool) (c : ℕ) → Apart same_leg (cond z (map (freed c) m.marks) m.marks)
  clear_marks_apart true c = apart_map same_leg (freed c) m.marks (leg_freed c) k.marks_apart
  clear_marks_apart false c = k.marks_apart

  clear_count : (c : ℕ) (l : HeldLegs) → one (leg_among l m.user (parties_by (call_in c m.calls))) ≡ one (leg_among l m.user (parties ds c))
  clear_count c l = ap (λ o. one (leg_among l m.user o)) (k.calls c)

  -- a party of the call that is cleared
  and_at : (P : ℕ → Bool) (c d : ℕ) → P c && eqb c d ≡ eqb c d && P d
  and_at P c d = grind (arith, nat_tests)

  ends : (v c d : ℕ) → party_of v (parties_by (call_in c m.calls)) && eqb c d ≡ eqb c d && party ds v d
  ends v c d = ap (λ o. party_of v o && eqb c d) (k.calls c) ∙ and_at (party ds v) c d

  kept_party : (v c : ℕ) (l : HeldLegs) → Kept (cleared_by_party v c l ∷ ds) (after (cleared_by_party v c l) m)
  unfolding parties live on_hold
  kept_party v c l =
      record {
        calls = λ d. clear_parties (party_of v (parties_by (call_in c m.calls))) c d;
        lives = λ d. clear_live (party_of v (parties_by (call_in c m.calls))) c d ∙ ap (λ z. cond z false (live ds d)) (ends v c d);
        marks = λ w d. clear_marks (party_of v (parties_by (call_in c m.calls))) c w d ∙ ap (λ z. cond z false (on_hold ds w d)) (ends v c d);
        granted = k.granted;
        retrieved = k.retrieved;
        cleared = let h = k.cleared in let e = clear_count c l in omega arith;
        calls_apart = clear_calls_apart (party_of v (parties_by (call_in c m.calls))) c;
        marks_apart = clear_marks_apart (party_of v (parties_by (call_in c m.calls))) c;
      }

  kept_network : (c : ℕ) (l : HeldLegs) → Kept (cleared_by_network c l ∷ ds) (after (cleared_by_network c l) m)
  unfolding parties live on_hold
  kept_network c l =
      record {
        calls = λ d. clear_parties true c d;
        lives = λ d. clear_live true c d;
        marks = λ w d. clear_marks true c w d;
        granted = k.granted;
        retrieved = k.retrieved;
        cleared = let h = k.cleared in let e = clear_count c l in omega arith;
        calls_apart = clear_calls_apart true c;
        marks_apart = clear_marks_apart true c;
      }

  kept_after : (d : Deed) → Kept (d ∷ ds) (after d m)
  kept_after (connected c a b) = kept_connected c a b
  kept_after (hold_granted v c) = kept_hold v c
  kept_after (retrieval_granted v c) = kept_retrieval v c
  kept_after (cleared_by_party v c l) = kept_party v c l
  kept_after (cleared_by_network c l) = kept_network c l

kept_all : (xs ds : List Deed) (m : Model) → Kept ds m → Kept (xs ++ ds) (after_all xs m)
kept_all [] ds m k = k
kept_all (x ∷ xs) ds m k = kept_after (xs ++ ds) (after_all xs m) (kept_all xs ds m k) x

user_after : (d : Deed) (m : Model) → (after d m).user ≡ m.user
user_after (connected c a b) m = refl
user_after (hold_granted v c) m = refl
user_after (retrieval_granted v c) m = refl
user_after (cleared_by_party v c l) m = refl
user_after (cleared_by_network c l) m = refl

user_after_all : (xs : List Deed) (m : Model) → (after_all xs m).user ≡ m.user
user_after_all [] m = refl
user_after_all (x ∷ xs) m = user_after x (after_all xs m) ∙ user_after_all xs m

pub noted : (e : Event) (m n : Model) (r : Result Unit NoteError) → Enters (deed e) m n r → Notes e m n r
noted e m n (Ok t) h =
    (ap (λ z. z.user) h.0 ∙ user_after_all (deed e) m, λ ds k. subst (λ z. Kept (deed e ++ ds) z) (sym h.0) (kept_all (deed e) ds m k), h.1)
noted e m n (Err NoMemory) h = h
noted e m n (Err Full) h = h
