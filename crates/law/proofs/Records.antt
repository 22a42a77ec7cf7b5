-- The switch's list of records, seen by its look-ups. Assumes nothing.
use Rattle.std.proofs.Common.{◌≡◌, ℕ, ◌<◌, ◌≤◌, Bool, true, false, cond, eqb, ltb, ◌⊎◌, List, [], ◌∷◌, ◌++◌, Some, None, Option, sym, refl, ap, ◌∙◌, subst, inl, inr, arith}
use Rattle.std.proofs.lemmas.Bool.Decides.{nat_tests, eqb_tells}
use Rattle.frames.specs.declared.content.News.{News}
use Rattle.frames.specs.declared.content.News.TheVariants.{Released}
use Rattle.records.specs.Changes.{find, change, without}
use Rattle.records.specs.Legs.{one, is_on_hold, standing_in}
use Rattle.records.specs.Notices.{next_notice, news_for, notice_of, better, rank}
use Rattle.records.specs.Questions.{held_by}
use Rattle.records.specs.declared.legs.Record.{Record}
use Rattle.records.specs.declared.notices.Notice.{Notice}
use Rattle.law.specs.History.{total}
use Rattle.law.proofs.Faces.{face, spot_in, spot_is}
use Rattle.law.proofs.Ledger.{eqb_same, eqb_apart}
use Rattle.law.proofs.Total.{total_at, total_same, total_zero}

abbrev pub KeepsId : (Record → Record) → Type 0
KeepsId f = (r : Record) → (f r).id.0 ≡ r.id.0

abbrev pub changed : (Record → Record) → Option Record → Option Record
changed f None = None
changed f (Some r) = Some (f r)

pub find_change : (c x : ℕ) (f : Record → Record) (rs : List Record) → KeepsId f → (c ≡ x → ⊥) → find x (change c f rs) ≡ find x rs
unfolding find change
find_change c x f [] k n = refl
find_change c x f (r ∷ rs) k n = let ih = find_change c x f rs k n in let i = k r in grind (arith, nat_tests)

pub find_changed : (c : ℕ) (f : Record → Record) (rs : List Record) → KeepsId f → find c (change c f rs) ≡ changed f (find c rs)
unfolding find change
find_changed c f [] k = refl
find_changed c f (r ∷ rs) k = let ih = find_changed c f rs k in let i = k r in grind (arith, nat_tests)

pub find_erase : (c x : ℕ) (rs : List Record) → (c ≡ x → ⊥) → find x (without c rs) ≡ find x rs
unfolding find without
find_erase c x [] n = refl
find_erase c x (r ∷ rs) n = let ih = find_erase c x rs n in grind (arith, nat_tests)

pub find_erased : (c : ℕ) (rs : List Record) → find c (without c rs) ≡ None
unfolding find without
find_erased c [] = refl
find_erased c (r ∷ rs) = let ih = find_erased c rs in grind (arith, nat_tests)

pub find_add : (x : ℕ) (r : Record) (rs : List Record) → (r.id.0 ≡ x → ⊥) → find x (rs ++ (r ∷ [])) ≡ find x rs
unfolding find
find_add x r [] n = grind (arith, nat_tests)
find_add x r (s ∷ rs) n = let ih = find_add x r rs n in grind (arith, nat_tests)

abbrev first_of : Option Record → Option Record → Option Record
first_of None q = q
first_of (Some r) q = Some r

find_end : (x : ℕ) (r : Record) (rs : List Record) → find x (rs ++ (r ∷ [])) ≡ first_of (find x rs) (cond (eqb r.id.0 x) (Some r) None)
unfolding find
find_end x r [] = refl
find_end x r (s ∷ rs) = let ih = find_end x r rs in grind (arith, nat_tests)

pub find_added : (r : Record) (rs : List Record) → find r.id.0 rs ≡ None → find r.id.0 (rs ++ (r ∷ [])) ≡ Some r
find_added r rs n = find_end r.id.0 r rs ∙ rw (n, eqb_same r.id.0)

-- of a record: released only when not live, and two parties
pub record Proper (r : Record) : Type 0 where
  pub told_first : r.first.news ≡ Some Released → r.live ≡ false
  pub told_second : r.second.news ≡ Some Released → r.live ≡ false
  pub apart : r.first.user.0 ≡ r.second.user.0 → ⊥

-- identifiers rise, from above `low` up to `last`, and each record is proper
pub data Rising (last : ℕ) : ℕ → List Record → Type 0 where
  at_end : {low : ℕ} → low ≤ last → Rising last low []
  rises : {low : ℕ} {r : Record} {rs : List Record} → low < r.id.0 → Proper r → Rising last r.id.0 rs → Rising last low (r ∷ rs)

pub rising_low : {last low : ℕ} {rs : List Record} → Rising last low rs → low ≤ last
rising_low (at_end l) = l
rising_low (rises l p h) = let i = rising_low h in omega arith

pub rising_below : {last low : ℕ} {rs : List Record} (c : ℕ) → Rising last low rs → c ≤ low → find c rs ≡ None
unfolding find
rising_below c (at_end l) m = refl
rising_below c (rises {low = low} {r = r} l p h) m = let i = rising_below c h (omega arith) in let d : r.id.0 ≡ c → ⊥ = λ e. omega arith in grind (arith, nat_tests)

pub rising_above : {last low : ℕ} {rs : List Record} (c : ℕ) → Rising last low rs → last < c → find c rs ≡ None
unfolding find
rising_above c (at_end l) m = refl
rising_above c (rises {low = low} {r = r} l p h) m = let i = rising_above c h m in let j = rising_low h in let d : r.id.0 ≡ c → ⊥ = λ e. omega arith in grind (arith, nat_tests)

pub rising_lower : {last low low' : ℕ} {rs : List Record} → low' ≤ low → Rising last low rs → Rising last low' rs
rising_lower m (at_end l) = at_end (omega arith)
rising_lower m (rises l p h) = rises (omega arith) p h

pub rising_add : {last low : ℕ} {rs : List Record} (r : Record) → Rising last low rs → last < r.id.0 → Proper r → Rising r.id.0 low (rs ++ (r ∷ []))
rising_add r (at_end l) m p = rises (omega arith) p (at_end (omega arith))
rising_add r (rises l q h) m p = rises l q (rising_add r h m p)

abbrev pub KeepsProper : (Record → Record) → Type 0
KeepsProper f = (r : Record) → Proper r → Proper (f r)

rises_if : {last low : ℕ} {r : Record} {rs : List Record} (b : Bool) (f : Record → Record) → KeepsId f → KeepsProper f → low < r.id.0 → Proper r → Rising last r.id.0 rs
    → Rising last low (cond b (f r) r ∷ rs)
rises_if {last} {low} {r} {rs} true f k q l p h = rises (subst (λ n. low < n) (sym (k r)) l) (q r p) (subst (λ n. Rising last n rs) (sym (k r)) h)
rises_if false f k q l p h = rises l p h

pub rising_change : {last low : ℕ} {rs : List Record} (c : ℕ) (f : Record → Record) → KeepsId f → KeepsProper f → Rising last low rs → Rising last low (change c f rs)
unfolding change
rising_change c f k q (at_end l) = at_end l
rising_change c f k q (rises {r = r} l p h) = rises_if (eqb r.id.0 c) f k q l p (rising_change c f k q h)

erases_if : {last low : ℕ} {r : Record} {rs : List Record} (b : Bool) → low < r.id.0 → Proper r → Rising last r.id.0 rs → Rising last low (cond b rs (r ∷ rs))
erases_if true l p h = rising_lower (omega arith) h
erases_if false l p h = rises l p h

pub rising_erase : {last low : ℕ} {rs : List Record} (c : ℕ) → Rising last low rs → Rising last low (without c rs)
unfolding without
rising_erase c (at_end l) = at_end l
rising_erase c (rises {r = r} l p h) = erases_if (eqb r.id.0 c) l p (rising_erase c h)

-- the record of a call is proper
pub found_proper : {last low : ℕ} {rs : List Record} {r : Record} (c : ℕ) → Rising last low rs → find c rs ≡ Some r → Proper r
unfolding find
found_proper c (at_end l) e = let z : ◌≡◌ {A = ℕ} 0 1 = cc in absurd (omega arith)
found_proper {r = r} c (rises {r = s} {rs = rs} l p h) e = go (eqb s.id.0 c) (found_proper c h) e
  where
    go : (b : Bool) → (find c rs ≡ Some r → Proper r) → cond b (Some s) (find c rs) ≡ Some r → Proper r
    go true ih q = let j : s ≡ r = cc in subst Proper j p
    go false ih q = ih q

-- a user's hold of a call, by its record
abbrev pub held_one : ℕ → Option Record → ℕ
held_one u o = one (is_on_hold (standing_in u o))

-- the calls a user has on hold, in the list and by identifiers
held_found : {last low : ℕ} {rs : List Record} (u n : ℕ) → last < n → Rising last low rs → held_by u rs ≡ total (λ c. held_one u (find c rs)) n
unfolding held_by find
held_found u n m (at_end l) = sym (total_zero (λ c. 0) n (λ x y. refl))
held_found u n m (rises {r = r} {rs = rs} l p h) =
    let ih = held_found u n m h in
    let b = rising_below r.id.0 h (omega arith) in
    let j = rising_low h in
    let t = total_at (λ c. held_one u (find c rs)) (λ c. held_one u (cond (eqb r.id.0 c) (Some r) (find c rs))) n r.id.0 (omega arith) (λ x d. rw (eqb_apart r.id.0 x d)) in
    let y : held_one u (find r.id.0 rs) ≡ 0 = rw b in
    let z : held_one u (cond (eqb r.id.0 r.id.0) (Some r) (find r.id.0 rs)) ≡ held_one u (Some r) = rw (eqb_same r.id.0) in
    omega arith

pub held_total : {last low : ℕ} {rs : List Record} (u n : ℕ) → last < n → Rising last low rs → held_by u rs ≡ total (λ c. one (is_on_hold (spot_in u (face (find c rs))))) n
held_total {rs = rs} u n m h = held_found u n m h ∙ total_same (λ c. one (is_on_hold (spot_in u (face (find c rs))))) (λ c. held_one u (find c rs)) n (λ x y. ap (λ s. one (is_on_hold s)) (spot_is u (find x rs)))

-- a notice is of a record, and is its news
pub record OfRecord (u : ℕ) (rs : List Record) (q : Notice) : Type 0 where
  pub from : Record
  pub there : find q.call.0 rs ≡ Some from
  pub news : news_for u from ≡ Some q.news

notice_head : (u : ℕ) (r : Record) (rs : List Record) (w : News) (q : Notice) → news_for u r ≡ Some w → ◌≡◌ {A = Notice} (record { call = r.id; news = w }) q → OfRecord u (r ∷ rs) q
unfolding find
notice_head u r rs w q e x =
    let i : r.id.0 ≡ q.call.0 = ap (λ z. z.call.0) x in
    let j : w ≡ q.news = ap (λ z. z.news) x in
    record { from = r; there = rw (← i, eqb_same r.id.0); news = e ∙ ap (λ n. Some n) j }

notice_tail : {last : ℕ} (u : ℕ) (r : Record) (rs : List Record) (q : Notice) → Rising last r.id.0 rs → OfRecord u rs q → OfRecord u (r ∷ rs) q
unfolding find
notice_tail u r rs q h o = record { from = o.from; there = go (eqb_tells r.id.0 q.call.0); news = o.news }
  where
    go : ((eqb r.id.0 q.call.0 ≡ true) × (r.id.0 ≡ q.call.0)) ⊎ ((eqb r.id.0 q.call.0 ≡ false) × (r.id.0 ≡ q.call.0 → ⊥))
        → cond (eqb r.id.0 q.call.0) (Some r) (find q.call.0 rs) ≡ Some o.from
    go (inl e) = let b = rising_below q.call.0 h (omega (arith, e.1)) in let t = o.there in let z : ◌≡◌ {A = ℕ} 0 1 = cc in absurd (omega arith)
    go (inr e) = rw e.0 o.there

-- all that is known of the choice: it is one of the two
better_picks : (p q : Option Notice) → (better p q ≡ p) ⊎ (better p q ≡ q)
better_picks None q = inr refl
better_picks (Some p) None = inl refl
better_picks (Some p) (Some q) = go (ltb (rank p.news) (rank q.news))
  where
    go : (b : Bool) → (Some (cond b q p) ≡ Some p) ⊎ (Some (cond b q p) ≡ Some q)
    go true = inr refl
    go false = inl refl

pub notice_found : {last low : ℕ} {rs : List Record} (u : ℕ) (q : Notice) → Rising last low rs → next_notice u rs ≡ Some q → OfRecord u rs q
unfolding next_notice
notice_found u q (at_end l) e = let z : ◌≡◌ {A = ℕ} 0 1 = cc in absurd (omega arith)
notice_found u q (rises {r = r} {rs = rs} l p h) e = go (notice_found u q h) (better_picks (notice_of r.id (news_for u r)) (next_notice u rs))
  where
    same : {a b : Notice} → ◌≡◌ {A = Option Notice} (Some a) (Some b) → a ≡ b
    same x = cc

    head : (o : Option News) → news_for u r ≡ o → notice_of r.id o ≡ Some q → OfRecord u (r ∷ rs) q
    head None i x = let z : ◌≡◌ {A = ℕ} 0 1 = cc in absurd (omega arith)
    head (Some w) i x = notice_head u r rs w q i (same x)

    go : (next_notice u rs ≡ Some q → OfRecord u rs q)
        → (better (notice_of r.id (news_for u r)) (next_notice u rs) ≡ notice_of r.id (news_for u r)) ⊎ (better (notice_of r.id (news_for u r)) (next_notice u rs) ≡ next_notice u rs)
        → OfRecord u (r ∷ rs) q
    go ih (inl i) = head (news_for u r) refl (sym i ∙ e)
    go ih (inr i) = notice_tail u r rs q h (ih (sym i ∙ e))
