-- What the tables of the books show after each change. Assumes nothing.
use Rattle.std.proofs.Common.{◌≡◌, ℕ, false, cond, eqb, List, [], ◌∷◌, map, refl, arith}
use Rattle.std.proofs.lemmas.Bool.Decides.{nat_tests}
use Rattle.books.specs.Model.{mark_for}
use Rattle.books.specs.Tables.{call_in, ended, freed, is_call, is_leg, live_by, marked, parties_by, put, renewed, same_call, same_leg}
use Rattle.books.specs.declared.entry.Entry.{Entry}
use Rattle.books.specs.declared.entry.Mark.{Mark}
use Rattle.books.proofs.Found.{found_put, found_renewed, Sees}

pub sees_call : (n : Entry) (c : ℕ) → Sees same_call n (is_call c)
sees_call n c = record { alike = λ x e. grind (arith, nat_tests); only = λ e x. grind (arith, nat_tests) }

pub sees_leg : (n : Mark) (v c : ℕ) → Sees same_leg n (is_leg v c)
sees_leg n v c = record { alike = λ x e. grind (arith, nat_tests); only = λ e x. grind (arith, nat_tests) }

pub call_alike : (n x : Entry) → same_call x n ≡ same_call n x
call_alike n x = grind (arith, nat_tests)

pub leg_alike : (n x : Mark) → same_leg x n ≡ same_leg n x
leg_alike n x = grind (arith, nat_tests)

pub call_renewed : (n x y : Entry) → same_call (renewed same_call n x) (renewed same_call n y) ≡ same_call x y
call_renewed n x y = grind (arith, nat_tests)

pub leg_renewed : (n x y : Mark) → same_leg (renewed same_leg n x) (renewed same_leg n y) ≡ same_leg x y
leg_renewed n x y = grind (arith, nat_tests)

pub call_ended : (c : ℕ) (x y : Entry) → same_call (ended c x) (ended c y) ≡ same_call x y
call_ended c x y = grind (arith, nat_tests)

pub leg_freed : (c : ℕ) (x y : Mark) → same_leg (freed c x) (freed c y) ≡ same_leg x y
leg_freed c x y = grind (arith, nat_tests)

-- after a hold and after a retrieval
pub marked_put : (n : Mark) (w d : ℕ) (ms : List Mark) → marked w d (put same_leg n ms) ≡ cond (is_leg w d n) n.held (marked w d ms)
marked_put n w d ms = let seen = found_put same_leg n (is_leg w d) (sees_leg n w d) ms in grind (arith, nat_tests)

pub marked_renewed : (v c w d : ℕ) (ms : List Mark) → marked w d (map (renewed same_leg (mark_for v c false)) ms) ≡ cond (is_leg w d (mark_for v c false)) false (marked w d ms)
marked_renewed v c w d ms = let seen = found_renewed same_leg (mark_for v c false) (is_leg w d) (sees_leg (mark_for v c false) w d) ms in grind (arith, nat_tests)

-- after a clear
pub parties_ended : (c d : ℕ) (es : List Entry) → parties_by (call_in d (map (ended c) es)) ≡ parties_by (call_in d es)
parties_ended c d [] = refl
parties_ended c d (e ∷ es) = let ih = parties_ended c d es in grind (arith, nat_tests)

pub live_ended : (c d : ℕ) (es : List Entry) → live_by (call_in d (map (ended c) es)) ≡ cond (eqb c d) false (live_by (call_in d es))
live_ended c d [] = grind (arith, nat_tests)
live_ended c d (e ∷ es) = let ih = live_ended c d es in grind (arith, nat_tests)

pub marked_freed : (c w d : ℕ) (ms : List Mark) → marked w d (map (freed c) ms) ≡ cond (eqb c d) false (marked w d ms)
marked_freed c w d [] = grind (arith, nat_tests)
marked_freed c w d (m ∷ ms) = let ih = marked_freed c w d ms in grind (arith, nat_tests)
