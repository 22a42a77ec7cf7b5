-- Sums over identifiers are sums over the tables. Assumes nothing.
use Rattle.std.proofs.Common.{◌≡◌, ℕ, zero, suc, ◌+◌, ◌<◌, ◌≤◌, Bool, true, false, cond, not, ◌&&◌, ◌||◌, eqb, ltb, ◌⊎◌, List, [], ◌∷◌, Some, None, length, filter, sum_by, Option, sym, refl, ap, ◌∙◌, inl, inr, arith}
use Rattle.std.proofs.lemmas.List.Sums.{length-filter, sum_by-cons}
use Rattle.std.proofs.lemmas.Bool.Decides.{nat_tests, leb_tells}
use Rattle.records.specs.Legs.{one}
use Rattle.register.specs.User.{same}
use Rattle.terminal.specs.declared.call.Call.{Call}
use Rattle.law.specs.History.{Deed, all_calls, calls_on_hold, legs_not_on_hold, legs_of, live, on_hold, parties, total}
use Rattle.law.specs.Law.{calls_differing, differs, shows}
use Rattle.law.proofs.Total.{total_at, total_same, total_zero}
use Rattle.books.specs.Kept.{Kept}
use Rattle.books.specs.Model.{Model}
use Rattle.std.specs.List.{find}
use Rattle.books.specs.Tables.{Apart, call_in, free_legs, held_by, is_call, is_leg, leg_in, legs_one, live_by, marked, missed_one, parties_by, same_call, same_leg, within, wrong_one}
use Rattle.books.specs.declared.entry.Entry.{Entry}
use Rattle.books.specs.declared.entry.Mark.{Mark}

-- how many pass two tests
pub counted : {X : Type 0} (a b : X → Bool) (xs : List X) → length (filter (λ x. a x && b x) xs) ≡ sum_by (λ x. cond (a x) (one (b x)) 0) xs
counted a b xs = length-filter (λ x. a x && b x) xs ∙ simp split
  where
    split : (x : _) → cond (a x && b x) 1 0 ≡ cond (a x) (one (b x)) 0
    split x = grind (arith, nat_tests)

abbrev at : {X : Type 0} → (X → ℕ) → Option X → ℕ
at f None = 0
at f (Some x) = f x

pub total_plus : (f g : ℕ → ℕ) (n : ℕ) → total (λ c. f c + g c) n ≡ total f n + total g n
unfolding total
total_plus f g zero = refl
total_plus f g (suc n) = let i = total_plus f g n in omega arith

module _ {X : Type 0} (key : X → ℕ) (p : X → Bool) (f : X → ℕ) (n : ℕ) where
  abbrev keyed : ℕ → X → Bool
  keyed c x = p x && eqb (key x) c

  abbrev counts : X → ℕ
  counts x = cond (p x && ltb (key x) n) (f x) 0

  -- each identifier once
  abbrev Once : List X → Type 0
  Once [] = Unit {0}
  Once (x ∷ xs) = (p x ≡ true → find (keyed (key x)) xs ≡ None) × Once xs

  total_step : (x : X) (xs : List X) → (p x ≡ true → find (keyed (key x)) xs ≡ None) → total (λ c. at f (find (keyed c) xs)) n ≡ sum_by counts xs
      → total (λ c. at f (find (keyed c) (x ∷ xs))) n ≡ counts x + sum_by counts xs
  total_step x xs o ih = go (p x) refl (leb_tells (suc (key x)) n)
    where
      old : ℕ → ℕ
      old c = at f (find (keyed c) xs)

      new : ℕ → ℕ
      new c = at f (find (keyed c) (x ∷ xs))

      apart : (c : ℕ) → (key x ≡ c → ⊥) → keyed c x ≡ false
      apart c d = grind (arith, nat_tests)

      here : p x ≡ true → keyed (key x) x ≡ true
      here e = grind (arith, nat_tests)

      skip : (c : ℕ) → keyed c x ≡ false → at f (cond (keyed c x) (Some x) (find (keyed c) xs)) ≡ at f (find (keyed c) xs)
      skip c e = rw e

      stop : (c : ℕ) → keyed c x ≡ true → at f (cond (keyed c x) (Some x) (find (keyed c) xs)) ≡ f x
      stop c e = rw e

      go : (b : Bool) → p x ≡ b → ((ltb (key x) n ≡ true) × (suc (key x) ≤ n)) ⊎ ((ltb (key x) n ≡ false) × (n < suc (key x)))
          → total (λ c. at f (find (keyed c) (x ∷ xs))) n ≡ counts x + sum_by counts xs
      go false e l =
          let t = total_same (λ c. at f (find (keyed c) xs)) (λ c. at f (find (keyed c) (x ∷ xs))) n (λ c l. skip c (rw e)) in
          let z : counts x ≡ 0 = rw e in
          omega arith
      go true e (inl l) =
          let t = total_at (λ c. at f (find (keyed c) xs)) (λ c. at f (find (keyed c) (x ∷ xs))) n (key x) (omega (arith, l.1)) (λ c d. skip c (apart c d)) in
          let y : at f (find (keyed (key x)) xs) ≡ 0 = ap (at f) (o e) in
          let s : at f (find (keyed (key x)) (x ∷ xs)) ≡ f x = stop (key x) (here e) in
          let z : counts x ≡ f x = rw (e, l.0) in
          omega arith
      go true e (inr l) =
          let t = total_same (λ c. at f (find (keyed c) xs)) (λ c. at f (find (keyed c) (x ∷ xs))) n (λ c m. skip c (apart c (λ q. omega (arith, l.1)))) in
          let z : counts x ≡ 0 = rw (e, l.0) in
          omega arith

  total_found : (xs : List X) → Once xs → total (λ c. at f (find (keyed c) xs)) n ≡ sum_by counts xs
  total_found [] o = total_zero (λ c. 0) n (λ c l. refl)
  total_found (x ∷ xs) o = total_step x xs o.0 (total_found xs o.1) ∙ sym (sum_by-cons counts x xs)

-- of entries, and of a user's marks
calls_once : (f : Entry → ℕ) (es : List Entry) → Apart same_call es → Once (λ e. e.call.0) (λ _. true) f all_calls es
calls_once f [] a = tt
calls_once f (e ∷ es) a = (λ _. a.0, calls_once f es a.1)

marks_once : (u : ℕ) (f : Mark → ℕ) (ms : List Mark) → Apart same_leg ms → Once (λ m. m.call.0) (λ m. same m.user.0 u) f all_calls ms
marks_once u f [] a = tt
marks_once u f (m ∷ ms) a = (λ e. let i : m.user.0 ≡ u = grind (arith, nat_tests) in rw i at a.0, marks_once u f ms a.1)

pub total_calls : (f : Entry → ℕ) (es : List Entry) → Apart same_call es → total (λ c. at f (call_in c es)) all_calls ≡ sum_by (λ e. cond (ltb e.call.0 16384) (f e) 0) es
total_calls f es a = total_found (λ e. e.call.0) (λ _. true) f all_calls es (calls_once f es a)

pub total_marks : (u : ℕ) (f : Mark → ℕ) (ms : List Mark) → Apart same_leg ms
    → total (λ c. at f (leg_in u c ms)) all_calls ≡ sum_by (λ m. cond (same m.user.0 u && ltb m.call.0 16384) (f m) 0) ms
total_marks u f ms a = total_found (λ m. m.call.0) (λ m. same m.user.0 u) f all_calls ms (marks_once u f ms a)

-- what is found is of the call
found_passes : {X : Type 0} (t : X → Bool) (x : X) (xs : List X) → find t xs ≡ Some x → t x ≡ true
found_passes t x [] e = cc
found_passes t x (y ∷ xs) e = let ih = found_passes t x xs in grind (arith, nat_tests)

call_of : (c : ℕ) (e : Entry) (es : List Entry) → call_in c es ≡ Some e → e.call.0 ≡ c
call_of c e es h = let passes = found_passes (is_call c) e es h in grind (arith, nat_tests)

mark_of : (v c : ℕ) (m : Mark) (ms : List Mark) → leg_in v c ms ≡ Some m → m.call.0 ≡ c
mark_of v c m ms h = let passes = found_passes (is_leg v c) m ms h in grind (arith, nat_tests)

-- what a mark counts among the calls that a user has on hold
abbrev pub held_one : ℕ → Mark → ℕ
held_one u m = cond (same m.user.0 u && within m.call.0) (one m.held) 0

module _ (ds : List Deed) (m : Model) (k : Kept ds m) where
  held_at : (o : Option Mark) → at (λ x. one x.held) o ≡ one (held_by o)
  held_at None = refl
  held_at (Some x) = refl

  pub held_is : sum_by (held_one m.user) m.marks ≡ calls_on_hold ds m.user
  held_is =
      sym (total_marks m.user (λ x. one x.held) m.marks k.marks_apart)
      ∙ total_same (λ c. one (on_hold ds m.user c)) (λ c. at (λ x. one x.held) (leg_in m.user c m.marks)) all_calls
      (λ c l. held_at (leg_in m.user c m.marks) ∙ ap one (k.marks m.user c))

  legs_at : (c : ℕ) (o : Option Entry) → call_in c m.calls ≡ o → at (free_legs m.marks) o ≡ legs_of ds c (parties_by o)
  legs_at c None h = refl
  legs_at c (Some e) h =
      let i = call_of c e m.calls h in
      let a : live ds c ≡ e.live = sym (k.lives c) ∙ ap live_by h in
      rw (i, k.marks e.first.0 c, k.marks e.second.0 c, a)

  pub legs_is : sum_by (legs_one m.marks) m.calls ≡ legs_not_on_hold ds
  legs_is =
      sym (total_calls (free_legs m.marks) m.calls k.calls_apart)
      ∙ total_same (λ c. legs_of ds c (parties ds c)) (λ c. at (free_legs m.marks) (call_in c m.calls)) all_calls
      (λ c l. legs_at c (call_in c m.calls) refl ∙ ap (legs_of ds c) (k.calls c))

  module _ (cs : List Call) where
    abbrev missed : Mark → ℕ
    missed x = one (x.held && not (shows cs x.call.0))

    abbrev wrong : Entry → ℕ
    wrong e = one (e.live && (shows cs e.call.0 && not (marked m.user e.call.0 m.marks)))

    missed_at : (c : ℕ) (o : Option Mark) → leg_in m.user c m.marks ≡ o → at missed o ≡ one (held_by o && not (shows cs c))
    missed_at c None h = refl
    missed_at c (Some x) h = let i = mark_of m.user c x m.marks h in rw i

    wrong_at : (c : ℕ) (o : Option Entry) → call_in c m.calls ≡ o → at wrong o ≡ one (live_by o && (shows cs c && not (marked m.user c m.marks)))
    wrong_at c None h = refl
    wrong_at c (Some e) h = let i = call_of c e m.calls h in rw i

    both : (a s l : Bool) → one (a && not s) + one (l && (s && not a)) ≡ one ((a && not s) || (l && (s && not a)))
    both a s l = grind (arith, nat_tests)

    differs_at : (c : ℕ) → at missed (leg_in m.user c m.marks) + at wrong (call_in c m.calls) ≡ one (differs ds cs m.user c)
    differs_at c =
        let a = missed_at c (leg_in m.user c m.marks) refl in
        let b = wrong_at c (call_in c m.calls) refl in
        let j = both (marked m.user c m.marks) (shows cs c) (live_by (call_in c m.calls)) in
        let e : one (differs ds cs m.user c) ≡ one ((marked m.user c m.marks && not (shows cs c)) || (live_by (call_in c m.calls) && (shows cs c && not (marked m.user c m.marks))))
        = rw (k.marks m.user c, k.lives c) in
        omega arith

    pub differing_is : sum_by (missed_one cs m.user) m.marks + sum_by (wrong_one m.marks cs m.user) m.calls ≡ calls_differing ds cs m.user
    differing_is =
        let a = total_marks m.user missed m.marks k.marks_apart in
        let b = total_calls wrong m.calls k.calls_apart in
        let p = total_plus (λ c. at missed (leg_in m.user c m.marks)) (λ c. at wrong (call_in c m.calls)) all_calls in
        let s = total_same (λ c. one (differs ds cs m.user c)) (λ c. at missed (leg_in m.user c m.marks) + at wrong (call_in c m.calls)) all_calls (λ c l. differs_at c) in
        omega arith
