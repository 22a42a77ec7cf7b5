-- Laws of the table of calls: finding a call, and what a change, an added and a removed call leave. Assumes nothing.
use Rattle.std.proofs.Common.{◌≡◌, ℕ, suc, ◌+◌, ◌<◌, ◌≤◌, Bool, true, false, cond, ◌&&◌, eqb, List, [], ◌∷◌, ◌++◌, length, get_or, set, Some, None, Ok, Option, sym, refl, ap, ◌∙◌, subst, add-one, arith}
use Rattle.std.specs.List.{find as list_find, position_or_len, remove}
use Rattle.std.proofs.lemmas.Bool.{and_parts}
use Rattle.std.proofs.lemmas.Bool.Decides.{nat_tests}
use Rattle.std.proofs.lemmas.Grind.{common_steps}
use Rattle.std.proofs.lemmas.List.{set_past}
use Rattle.std.proofs.lemmas.List.Recursion.{is_position_or_len, same_from_clauses}
use Rattle.terminal.specs.Calls.{rising_from, known, place, held_at, find, change, without}
use Rattle.frames.specs.declared.content.CallId.{CallId}
use Rattle.terminal.specs.State.{Model, connect_checked}
use Rattle.terminal.specs.declared.call.Call.{Call}
use Rattle.terminal.specs.declared.request.Request.{Request}

pub and_right : (a b : Bool) → (a && b) ≡ true → b ≡ true
and_right a b e = (and_parts a b e).1

-- the place and the call found, in the words of iterators
pub place_is : (n : ℕ) (cs : List Call) → place n cs ≡ position_or_len (λ c. eqb c.id.0 n) cs
place_is n cs = is_position_or_len (place n) (λ c. eqb c.id.0 n) refl (λ c cs. ap (cond (eqb c.id.0 n) 0) (omega arith)) cs

pub found_is : (n : ℕ) (cs : List Call) → list_find (λ c. eqb c.id.0 n) cs ≡ find n cs
found_is n cs = same_from_clauses (list_find (λ c. eqb c.id.0 n)) (find n) (λ c r. cond (eqb c.id.0 n) (Some c) r) refl (λ _ _. refl) (λ _ _. refl) cs

-- the call at the place is the one found
pub find_at : (n : ℕ) (cs : List Call) (d : Call) → place n cs < length cs → find n cs ≡ Some (get_or cs (place n cs) d)
find_at n [] d h = absurd (omega arith)
find_at n (c ∷ cs) d h = go (eqb c.id.0 n) h (find_at n cs d)
  where
    go : (b : Bool) → cond b 0 (place n cs + 1) < suc (length cs) → (place n cs < length cs → find n cs ≡ Some (get_or cs (place n cs) d)) → cond b (Some c) (find n cs) ≡ Some (get_or (c ∷ cs) (cond b 0 (place n cs + 1)) d)
    go true h ih = refl
    go false h ih = rw add-one (ih (omega arith))

pub find_none : (n : ℕ) (cs : List Call) → length cs ≤ place n cs → find n cs ≡ None
find_none n [] h = refl
find_none n (c ∷ cs) h = go (eqb c.id.0 n) h (find_none n cs)
  where
    go : (b : Bool) → suc (length cs) ≤ cond b 0 (place n cs + 1) → (length cs ≤ place n cs → find n cs ≡ None) → cond b (Some c) (find n cs) ≡ None
    go true h ih = absurd (omega arith)
    go false h ih = ih (omega arith)

pub found : (n i : ℕ) (cs : List Call) (c : Call) → i ≡ place n cs → i < length cs → c ≡ get_or cs i c → Some c ≡ find n cs
found n i cs c at lt e = sym (find_at n cs c (subst (λ k. k < length cs) at lt) ∙ ap (λ k. Some (get_or cs k c)) (sym at) ∙ ap (λ x. Some x) (sym e))

pub held : (n i : ℕ) (cs : List Call) → Some i ≡ held_at n cs → i ≡ place n cs
held n i cs e = grind (arith, nat_tests)

pub unheld : (n : ℕ) (cs : List Call) → None ≡ held_at n cs → length cs ≤ place n cs
unheld n cs e = grind (arith, nat_tests)

rising_top : (k last : ℕ) (cs : List Call) → rising_from k last cs ≡ true → k ≤ last
rising_top k last [] h = grind (arith, nat_tests)
rising_top k last (c ∷ cs) h = let ih = rising_top c.id.0 last cs in grind (arith, nat_tests, ih)

-- a call that is found has an identifier in range
pub find_range : (n k last : ℕ) (cs : List Call) (c : Call) → rising_from k last cs ≡ true → find n cs ≡ Some c → (k < n) × (n ≤ last)
find_range n k last [] c h e = cc
find_range n k last (x ∷ cs) c h e = let ih = find_range n x.id.0 last cs c in let top = rising_top x.id.0 last cs in grind (arith, nat_tests, ih, top)

-- a change at the place
pub change_at : (f : Call → Call) (n : ℕ) (cs : List Call) (d : Call) → change f n cs ≡ set cs (place n cs) (f (get_or cs (place n cs) d))
change_at f n [] d = refl
change_at f n (c ∷ cs) d = let ih = change_at f n cs d in grind (arith, nat_tests, common_steps, ih)

pub change_none : (f : Call → Call) (n : ℕ) (cs : List Call) → length cs ≤ place n cs → change f n cs ≡ cs
change_none f n cs h = change_at f n cs (record { id = record { 0 = 0 }; own = false; other = false }) ∙ set_past cs (place n cs) _ h

-- a write to the call that is held is the change, as is none where it is not held
pub wrote : (f : Call → Call) (n i : ℕ) (cs : List Call) (c : Call) → Some i ≡ held_at n cs → c ≡ get_or cs i c → set cs i (f c) ≡ change f n cs
wrote f n i cs c h e = sym (change_at f n cs c ∙ ap (λ k. set cs k (f (get_or cs k c))) (sym (held n i cs h)) ∙ ap (λ x. set cs i (f x)) (sym e))

pub unchanged : (f : Call → Call) (n : ℕ) (cs : List Call) → None ≡ held_at n cs → cs ≡ change f n cs
unchanged f n cs h = sym (change_none f n cs (unheld n cs h))

pub rising_change : (f : Call → Call) → ((c : Call) → (f c).id ≡ c.id) → (n k last : ℕ) (cs : List Call) → rising_from k last (change f n cs) ≡ rising_from k last cs
rising_change f same n k last [] = refl
rising_change f same n k last (c ∷ cs) = let ih = rising_change f same n c.id.0 last cs in grind (arith, nat_tests, ih, same)

-- a removal at the place
pub without_at : (n : ℕ) (cs : List Call) → without n cs ≡ remove cs (place n cs)
without_at n [] = refl
without_at n (c ∷ cs) = let ih = without_at n cs in grind (arith, nat_tests, common_steps, ih)

pub without_none : (n : ℕ) (cs : List Call) → length cs ≤ place n cs → without n cs ≡ cs
without_none n cs le = without_at n cs ∙ grind (arith, common_steps)

pub cut_is : (n i : ℕ) (cs : List Call) → i ≡ place n cs → i < length cs → remove cs i ≡ without n cs
cut_is n i cs e lt = ap (remove cs) e ∙ sym (without_at n cs)

pub cut : (n i : ℕ) (cs : List Call) → Some i ≡ held_at n cs → remove cs i ≡ without n cs
cut n i cs h = ap (remove cs) (held n i cs h) ∙ sym (without_at n cs)

pub uncut : (n : ℕ) (cs : List Call) → None ≡ held_at n cs → cs ≡ without n cs
uncut n cs h = sym (without_none n cs (unheld n cs h))

lower : (n m last : ℕ) (cs : List Call) → n < m → rising_from m last cs ≡ true → rising_from n last cs ≡ true
lower n m last [] lt h = grind (arith, nat_tests)
lower n m last (c ∷ cs) lt h = grind (arith, nat_tests)

pub rising_without : (n k last : ℕ) (cs : List Call) → rising_from k last cs ≡ true → rising_from k last (without n cs) ≡ true
rising_without n k last [] h = h
rising_without n k last (c ∷ cs) h = let ih = rising_without n c.id.0 last cs in let low = lower k c.id.0 last cs in grind (arith, nat_tests, ih, low)

-- a call more, above the last
pub rising_more : (k last : ℕ) (cs : List Call) (x : Call) → last < x.id.0 → rising_from k last cs ≡ true → rising_from k x.id.0 (cs ++ x ∷ []) ≡ true
rising_more k last [] x lt h = grind (arith, nat_tests)
rising_more k last (c ∷ cs) x lt h = let ih = rising_more c.id.0 last cs x lt in grind (arith, nat_tests, ih)

pub rising_above : (k last top : ℕ) (cs : List Call) → last ≤ top → rising_from k last cs ≡ true → rising_from k top cs ≡ true
rising_above k last top [] le h = grind (arith, nat_tests)
rising_above k last top (c ∷ cs) le h = let ih = rising_above c.id.0 last top cs le in grind (arith, nat_tests, ih)

-- a call that may be connected
pub record Fits (m : Model) (c : CallId) : Type 0 where
  pub above : m.last < c.0
  pub top : c.0 ≤ 16383
  pub room : length m.calls < 8

pub fits : (m : Model) (c : CallId) (u : Unit) → Ok u ≡ connect_checked m c → Fits m c
fits m c u e = grind (arith, nat_tests)

-- the open request's call stays known where the last identifier rises
pub known_above : (last top : ℕ) (q : Option Request) → last ≤ top → known last q ≡ true → known top q ≡ true
known_above last top None le h = refl
known_above last top (Some q) le h = grind (arith, nat_tests)
