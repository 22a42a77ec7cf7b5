-- Laws of a list of records: the record at a call's place, and what a change, an added and a removed record leave of the order and of the sums. Assumes nothing.
use Rattle.std.proofs.Common.{◌≡◌, ℕ, suc, ◌+◌, ◌<◌, ◌≤◌, Bool, true, false, cond, ◌&&◌, eqb, ltb, List, [], ◌∷◌, ◌++◌, length, get_or, set, Some, None, sym, refl, ap, ◌∙◌, subst, add-one, arith, ltb-false, ltb-true, lt-ltb, ne_eqb, eqb-true, le-leb, leb-true}
use Rattle.std.proofs.lemmas.Bool.{and_from, and_parts}
use Rattle.std.proofs.lemmas.List.Recursion.{is_sum_by}
use Rattle.std.proofs.lemmas.List.Sums.{sum_by_push}
use Rattle.std.specs.List.{remove}
use Rattle.records.specs.Changes.{find, change, without}
use Rattle.records.specs.Legs.{one, standing, is_on_hold, channels}
use Rattle.records.specs.Questions.{place, placed, rising_from, held_by, channels_of}
use Rattle.records.specs.declared.legs.Record.{Record}

-- of a list whose identifiers rise above n: the first is above n, and the rest rise above the first
pub rise_first : (n last : ℕ) (r : Record) (rs : List Record) → rising_from n last (r ∷ rs) ≡ true → n < r.id.0
rise_first n last r rs h = ltb-true n r.id.0 ((and_parts (ltb n r.id.0) (rising_from r.id.0 last rs) h).0)

pub rise_rest : (n last : ℕ) (r : Record) (rs : List Record) → rising_from n last (r ∷ rs) ≡ true → rising_from r.id.0 last rs ≡ true
rise_rest n last r rs h = (and_parts (ltb n r.id.0) (rising_from r.id.0 last rs) h).1

pub rise_top : (n last : ℕ) (rs : List Record) → rising_from n last rs ≡ true → n ≤ last
rise_top n last [] h = leb-true n last h
rise_top n last (r ∷ rs) h = omega (arith, rise_first n last r rs h, rise_top r.id.0 last rs (rise_rest n last r rs h))

-- a record that is found has the identifier asked for, which is in range
pub find_id : (c : ℕ) (rs : List Record) (r : Record) → find c rs ≡ Some r → r.id.0 ≡ c
unfolding find
find_id c [] r e = let z : ◌≡◌ {A = ℕ} 0 1 = cc in absurd (omega arith)
find_id c (x ∷ rs) r e = go (eqb x.id.0 c) refl e (find_id c rs r)
  where
    go : (b : Bool) → eqb x.id.0 c ≡ b → cond b (Some x) (find c rs) ≡ Some r → (find c rs ≡ Some r → r.id.0 ≡ c) → r.id.0 ≡ c
    go true t e ih = let s : x ≡ r = cc in sym (ap (λ (y : Record). y.id.0) s) ∙ eqb-true _ _ t
    go false t e ih = ih e

pub find_range : (c n last : ℕ) (rs : List Record) (r : Record) → rising_from n last rs ≡ true → find c rs ≡ Some r → (n < c) × (c ≤ last)
unfolding find
find_range c n last [] r h e = let z : ◌≡◌ {A = ℕ} 0 1 = cc in absurd (omega arith)
find_range c n last (x ∷ rs) r h e = go (eqb x.id.0 c) refl e (find_range c x.id.0 last rs r (rise_rest n last x rs h))
  where
    go : (b : Bool) → eqb x.id.0 c ≡ b → cond b (Some x) (find c rs) ≡ Some r → (find c rs ≡ Some r → (x.id.0 < c) × (c ≤ last)) → (n < c) × (c ≤ last)
    go true t e ih = (omega (arith, rise_first n last x rs h, eqb-true _ _ t), omega (arith, eqb-true _ _ t, rise_top x.id.0 last rs (rise_rest n last x rs h)))
    go false t e ih = let s = ih e in (omega (arith, rise_first n last x rs h, s.0), s.1)

-- the record at the place is the one found
pub find_at : (c : ℕ) (rs : List Record) (d : Record) → place c rs < length rs → find c rs ≡ Some (get_or rs (place c rs) d)
unfolding find
find_at c [] d h = absurd (omega arith)
find_at c (r ∷ rs) d h = go (eqb r.id.0 c) h (find_at c rs d)
  where
    go : (b : Bool) → cond b 0 (place c rs + 1) < suc (length rs) → (place c rs < length rs → find c rs ≡ Some (get_or rs (place c rs) d)) → cond b (Some r) (find c rs) ≡ Some (get_or (r ∷ rs) (cond b 0 (place c rs + 1)) d)
    go true h ih = refl
    go false h ih = rw add-one (ih (omega arith))

pub find_none : (c : ℕ) (rs : List Record) → length rs ≤ place c rs → find c rs ≡ None
unfolding find
find_none c [] h = refl
find_none c (r ∷ rs) h = go (eqb r.id.0 c) h (find_none c rs)
  where
    go : (b : Bool) → suc (length rs) ≤ cond b 0 (place c rs + 1) → (length rs ≤ place c rs → find c rs ≡ None) → cond b (Some r) (find c rs) ≡ None
    go true h ih = absurd (omega arith)
    go false h ih = ih (omega arith)

-- the place that is answered for a call, and where none is
pub placed_some : (c i : ℕ) (rs : List Record) → placed c rs ≡ Some i → (i ≡ place c rs) × (i < length rs)
placed_some c i rs e = go (ltb (place c rs) (length rs)) refl e
  where
    go : (b : Bool) → ltb (place c rs) (length rs) ≡ b → cond b (Some (place c rs)) None ≡ Some i → (i ≡ place c rs) × (i < length rs)
    go true t e = let q : place c rs ≡ i = cc in (sym q, omega (arith, ltb-true _ _ t))
    go false t e = let z : ◌≡◌ {A = ℕ} 0 1 = cc in absurd (omega arith)

pub placed_none : (c : ℕ) (rs : List Record) → placed c rs ≡ None → length rs ≤ place c rs
placed_none c rs e = go (ltb (place c rs) (length rs)) refl e
  where
    go : (b : Bool) → ltb (place c rs) (length rs) ≡ b → cond b (Some (place c rs)) None ≡ None → length rs ≤ place c rs
    go true t e = let z : ◌≡◌ {A = ℕ} 0 1 = cc in absurd (omega arith)
    go false t e = ltb-false _ _ t

-- the same, of a place and a record at hand
pub found : (c i : ℕ) (rs : List Record) (r : Record) → i ≡ place c rs → i < length rs → r ≡ get_or rs i r → find c rs ≡ Some r
found c i rs r at lt e = find_at c rs r (subst (λ k. k < length rs) at lt) ∙ ap (λ k. Some (get_or rs k r)) (sym at) ∙ ap (λ x. Some x) (sym e)

-- where identifiers rise above one no lower than the call's, no record is the call's
pub change_above : (c : ℕ) (f : Record → Record) (n last : ℕ) (rs : List Record) → c ≤ n → rising_from n last rs ≡ true → change c f rs ≡ rs
unfolding change
change_above c f n last [] le h = refl
change_above c f n last (r ∷ rs) le h = go (eqb r.id.0 c) (ne_eqb _ _ (λ e. omega (arith, e, rise_first n last r rs h))) (change_above c f r.id.0 last rs (omega (arith, rise_first n last r rs h)) (rise_rest n last r rs h))
  where
    go : (b : Bool) → b ≡ false → change c f rs ≡ rs → cond b (f r) r ∷ change c f rs ≡ r ∷ rs
    go true t ih = let z : ◌≡◌ {A = ℕ} 0 1 = cc in absurd (omega arith)
    go false t ih = ap (λ l. r ∷ l) ih

pub without_above : (c n last : ℕ) (rs : List Record) → c ≤ n → rising_from n last rs ≡ true → without c rs ≡ rs
unfolding without
without_above c n last [] le h = refl
without_above c n last (r ∷ rs) le h = go (eqb r.id.0 c) (ne_eqb _ _ (λ e. omega (arith, e, rise_first n last r rs h))) (without_above c r.id.0 last rs (omega (arith, rise_first n last r rs h)) (rise_rest n last r rs h))
  where
    go : (b : Bool) → b ≡ false → without c rs ≡ rs → cond b (without c rs) (r ∷ without c rs) ≡ r ∷ rs
    go true t ih = let z : ◌≡◌ {A = ℕ} 0 1 = cc in absurd (omega arith)
    go false t ih = ap (λ l. r ∷ l) ih

-- a change at the place, and where there is none
pub change_at : (c : ℕ) (f : Record → Record) (n last : ℕ) (rs : List Record) (d : Record) → rising_from n last rs ≡ true → place c rs < length rs → change c f rs ≡ set rs (place c rs) (f (get_or rs (place c rs) d))
unfolding change
change_at c f n last [] d h lt = refl
change_at c f n last (r ∷ rs) d h lt = go (eqb r.id.0 c) refl lt (change_at c f r.id.0 last rs d (rise_rest n last r rs h))
  where
    go : (b : Bool) → eqb r.id.0 c ≡ b → cond b 0 (place c rs + 1) < suc (length rs) → (place c rs < length rs → change c f rs ≡ set rs (place c rs) (f (get_or rs (place c rs) d))) → cond b (f r) r ∷ change c f rs ≡ set (r ∷ rs) (cond b 0 (place c rs + 1)) (f (get_or (r ∷ rs) (cond b 0 (place c rs + 1)) d))
    go true t lt ih = ap (λ l. f r ∷ l) (change_above c f r.id.0 last rs (omega (arith, eqb-true _ _ t)) (rise_rest n last r rs h))
    go false t lt ih = rw add-one (ap (λ l. r ∷ l) (ih (omega arith)))

pub change_none : (c : ℕ) (f : Record → Record) (rs : List Record) → length rs ≤ place c rs → change c f rs ≡ rs
unfolding change
change_none c f [] h = refl
change_none c f (r ∷ rs) h = go (eqb r.id.0 c) h (change_none c f rs)
  where
    go : (b : Bool) → suc (length rs) ≤ cond b 0 (place c rs + 1) → (length rs ≤ place c rs → change c f rs ≡ rs) → cond b (f r) r ∷ change c f rs ≡ r ∷ rs
    go true h ih = absurd (omega arith)
    go false h ih = ap (λ l. r ∷ l) (ih (omega arith))

-- a write at the place is the change
pub wrote : (c : ℕ) (f : Record → Record) (n last i : ℕ) (rs : List Record) (r : Record) → rising_from n last rs ≡ true → i ≡ place c rs → i < length rs → r ≡ get_or rs i r → set rs i (f r) ≡ change c f rs
wrote c f n last i rs r h at lt e = sym (change_at c f n last rs r h (subst (λ k. k < length rs) at lt) ∙ ap (λ k. set rs k (f (get_or rs k r))) (sym at) ∙ ap (λ x. set rs i (f x)) (sym e))

-- a removal at the place, and where there is none
pub without_at : (c n last : ℕ) (rs : List Record) → rising_from n last rs ≡ true → place c rs < length rs → without c rs ≡ remove rs (place c rs)
unfolding without
without_at c n last [] h lt = absurd (omega arith)
without_at c n last (r ∷ rs) h lt = go (eqb r.id.0 c) refl lt (without_at c r.id.0 last rs (rise_rest n last r rs h))
  where
    go : (b : Bool) → eqb r.id.0 c ≡ b → cond b 0 (place c rs + 1) < suc (length rs) → (place c rs < length rs → without c rs ≡ remove rs (place c rs)) → cond b (without c rs) (r ∷ without c rs) ≡ remove (r ∷ rs) (cond b 0 (place c rs + 1))
    go true t lt ih = without_above c r.id.0 last rs (omega (arith, eqb-true _ _ t)) (rise_rest n last r rs h)
    go false t lt ih = rw add-one (ap (λ l. r ∷ l) (ih (omega arith)))

pub without_none : (c : ℕ) (rs : List Record) → length rs ≤ place c rs → without c rs ≡ rs
unfolding without
without_none c [] h = refl
without_none c (r ∷ rs) h = go (eqb r.id.0 c) h (without_none c rs)
  where
    go : (b : Bool) → suc (length rs) ≤ cond b 0 (place c rs + 1) → (length rs ≤ place c rs → without c rs ≡ rs) → cond b (without c rs) (r ∷ without c rs) ≡ r ∷ rs
    go true h ih = absurd (omega arith)
    go false h ih = ap (λ l. r ∷ l) (ih (omega arith))

pub cut : (c n last i : ℕ) (rs : List Record) → rising_from n last rs ≡ true → i ≡ place c rs → i < length rs → remove rs i ≡ without c rs
cut c n last i rs h at lt = ap (remove rs) at ∙ sym (without_at c n last rs h (subst (λ k. k < length rs) at lt))

-- what is found after a change
pub find_changed : (c : ℕ) (f : Record → Record) (rs : List Record) (r : Record) → ((x : Record) → (f x).id ≡ x.id) → find c rs ≡ Some r → find c (change c f rs) ≡ Some (f r)
unfolding find change
find_changed c f [] r same e = let z : ◌≡◌ {A = ℕ} 0 1 = cc in absurd (omega arith)
find_changed c f (x ∷ rs) r same e = go (eqb x.id.0 c) refl e (find_changed c f rs r same)
  where
    go : (b : Bool) → eqb x.id.0 c ≡ b → cond b (Some x) (find c rs) ≡ Some r → (find c rs ≡ Some r → find c (change c f rs) ≡ Some (f r)) → cond (eqb (cond b (f x) x).id.0 c) (Some (cond b (f x) x)) (find c (change c f rs)) ≡ Some (f r)
    go true t e ih =
        ap (λ (b : Bool). cond b (Some (f x)) (find c (change c f rs))) (ap (λ (y : _). eqb y.0 c) (same x) ∙ t)
        ∙ (let s : x ≡ r = cc in ap (λ y. Some (f y)) s)
    go false t e ih = ap (λ (b : Bool). cond b (Some x) (find c (change c f rs))) t ∙ ih e

-- lengths
pub length_change : (c : ℕ) (f : Record → Record) (rs : List Record) → length (change c f rs) ≡ length rs
unfolding change
length_change c f [] = refl
length_change c f (r ∷ rs) = ap suc (length_change c f rs)

-- the order
pub rising_change : (c : ℕ) (f : Record → Record) (n last : ℕ) (rs : List Record) → ((r : Record) → (f r).id ≡ r.id) → rising_from n last (change c f rs) ≡ rising_from n last rs
unfolding change
rising_change c f n last [] same = refl
rising_change c f n last (r ∷ rs) same = go (eqb r.id.0 c) (rising_change c f r.id.0 last rs same)
  where
    go : (b : Bool) → rising_from r.id.0 last (change c f rs) ≡ rising_from r.id.0 last rs → rising_from n last (cond b (f r) r ∷ change c f rs) ≡ rising_from n last (r ∷ rs)
    go true ih = ap (λ x. ltb n x.0 && rising_from x.0 last (change c f rs)) (same r) ∙ ap (λ b. ltb n r.id.0 && b) ih
    go false ih = ap (λ b. ltb n r.id.0 && b) ih

lower : (n m last : ℕ) (rs : List Record) → n < m → rising_from m last rs ≡ true → rising_from n last rs ≡ true
lower n m last [] lt h = le-leb n last (omega (arith, leb-true m last h))
lower n m last (r ∷ rs) lt h = and_from _ _ (lt-ltb n r.id.0 (omega (arith, lt, rise_first m last r rs h))) (rise_rest m last r rs h)

pub rising_without : (c n last : ℕ) (rs : List Record) → rising_from n last rs ≡ true → rising_from n last (without c rs) ≡ true
unfolding without
rising_without c n last [] h = h
rising_without c n last (r ∷ rs) h = go (eqb r.id.0 c) (rising_without c r.id.0 last rs (rise_rest n last r rs h))
  where
    go : (b : Bool) → rising_from r.id.0 last (without c rs) ≡ true → rising_from n last (cond b (without c rs) (r ∷ without c rs)) ≡ true
    go true ih = lower n r.id.0 last (without c rs) (rise_first n last r rs h) ih
    go false ih = and_from _ _ (lt-ltb n r.id.0 (rise_first n last r rs h)) ih

-- a record more, above the last
pub rising_added : (n last : ℕ) (rs : List Record) (x : Record) → last < x.id.0 → rising_from n last rs ≡ true → rising_from n x.id.0 (rs ++ x ∷ []) ≡ true
rising_added n last [] x lt h = and_from _ _ (lt-ltb n x.id.0 (omega (arith, leb-true n last h))) (le-leb x.id.0 x.id.0 (omega arith))
rising_added n last (r ∷ rs) x lt h = and_from _ _ (lt-ltb n r.id.0 (rise_first n last r rs h)) (rising_added r.id.0 last rs x lt (rise_rest n last r rs h))

pub rising_above : (n last top : ℕ) (rs : List Record) → last ≤ top → rising_from n last rs ≡ true → rising_from n top rs ≡ true
rising_above n last top [] le h = le-leb n top (omega (arith, leb-true n last h))
rising_above n last top (r ∷ rs) le h = and_from _ _ (lt-ltb n r.id.0 (rise_first n last r rs h)) (rising_above r.id.0 last top rs le (rise_rest n last r rs h))

-- a sum over the records, as the channels of all are, and the number of a user's calls on hold
module _ (sum : List Record → ℕ) (g : Record → ℕ) (none : sum [] ≡ 0) (more : (r : Record) (rs : List Record) → sum (r ∷ rs) ≡ g r + sum rs) where
  sum_change : (c : ℕ) (f : Record → Record) (n last : ℕ) (rs : List Record) (r : Record) → rising_from n last rs ≡ true → find c rs ≡ Some r → sum (change c f rs) + g r ≡ sum rs + g (f r)
  unfolding find change
  sum_change c f n last [] r h e = let z : ◌≡◌ {A = ℕ} 0 1 = cc in absurd (omega arith)
  sum_change c f n last (x ∷ rs) r h e = go (eqb x.id.0 c) refl e (sum_change c f x.id.0 last rs r (rise_rest n last x rs h))
    where
      go : (b : Bool) → eqb x.id.0 c ≡ b → cond b (Some x) (find c rs) ≡ Some r → (find c rs ≡ Some r → sum (change c f rs) + g r ≡ sum rs + g (f r)) → sum (cond b (f x) x ∷ change c f rs) + g r ≡ sum (x ∷ rs) + g (f r)
      go true t e ih =
          let s : x ≡ r = cc in
          omega (arith, more (f x) (change c f rs), more x rs, ap g s, ap (λ y. g (f y)) s, ap sum (change_above c f x.id.0 last rs (omega (arith, eqb-true _ _ t)) (rise_rest n last x rs h)))
      go false t e ih = omega (arith, more x (change c f rs), more x rs, ih e)

  sum_without : (c n last : ℕ) (rs : List Record) (r : Record) → rising_from n last rs ≡ true → find c rs ≡ Some r → sum (without c rs) + g r ≡ sum rs
  unfolding find without
  sum_without c n last [] r h e = let z : ◌≡◌ {A = ℕ} 0 1 = cc in absurd (omega arith)
  sum_without c n last (x ∷ rs) r h e = go (eqb x.id.0 c) refl e (sum_without c x.id.0 last rs r (rise_rest n last x rs h))
    where
      go : (b : Bool) → eqb x.id.0 c ≡ b → cond b (Some x) (find c rs) ≡ Some r → (find c rs ≡ Some r → sum (without c rs) + g r ≡ sum rs) → sum (cond b (without c rs) (x ∷ without c rs)) + g r ≡ sum (x ∷ rs)
      go true t e ih =
          let s : x ≡ r = cc in
          omega (arith, more x rs, ap g s, ap sum (without_above c x.id.0 last rs (omega (arith, eqb-true _ _ t)) (rise_rest n last x rs h)))
      go false t e ih = omega (arith, more x (without c rs), more x rs, ih e)

  sum_added : (rs : List Record) (r : Record) → sum (rs ++ r ∷ []) ≡ sum rs + g r
  sum_added rs r = let by = is_sum_by sum g none more in by (rs ++ r ∷ []) ∙ sum_by_push g rs r ∙ ap (λ k. k + g r) (sym (by rs))

pub channels_change : (c : ℕ) (f : Record → Record) (n last : ℕ) (rs : List Record) (r : Record) → rising_from n last rs ≡ true → find c rs ≡ Some r → channels_of (change c f rs) + channels r ≡ channels_of rs + channels (f r)
unfolding channels_of
channels_change = sum_change channels_of channels refl (λ _ _. refl)

pub channels_without : (c n last : ℕ) (rs : List Record) (r : Record) → rising_from n last rs ≡ true → find c rs ≡ Some r → channels_of (without c rs) + channels r ≡ channels_of rs
unfolding channels_of
channels_without = sum_without channels_of channels refl (λ _ _. refl)

pub channels_added : (rs : List Record) (r : Record) → channels_of (rs ++ r ∷ []) ≡ channels_of rs + channels r
unfolding channels_of
channels_added = sum_added channels_of channels refl (λ _ _. refl)

pub channels_within : (c : ℕ) (rs : List Record) (r : Record) → find c rs ≡ Some r → channels r ≤ channels_of rs
unfolding find channels_of
channels_within c [] r e = let z : ◌≡◌ {A = ℕ} 0 1 = cc in absurd (omega arith)
channels_within c (x ∷ rs) r e = go (eqb x.id.0 c) e (channels_within c rs r)
  where
    go : (b : Bool) → cond b (Some x) (find c rs) ≡ Some r → (find c rs ≡ Some r → channels r ≤ channels_of rs) → channels r ≤ channels x + channels_of rs
    go true e ih = let s : x ≡ r = cc in omega (arith, ap channels s)
    go false e ih = omega (arith, ih e)

pub held_change : (u c : ℕ) (f : Record → Record) (n last : ℕ) (rs : List Record) (r : Record) → rising_from n last rs ≡ true → find c rs ≡ Some r → held_by u (change c f rs) + one (is_on_hold (standing u r)) ≡ held_by u rs + one (is_on_hold (standing u (f r)))
unfolding held_by
held_change u = sum_change (held_by u) (λ r. one (is_on_hold (standing u r))) refl (λ _ _. refl)

pub held_without : (u c n last : ℕ) (rs : List Record) (r : Record) → rising_from n last rs ≡ true → find c rs ≡ Some r → held_by u (without c rs) + one (is_on_hold (standing u r)) ≡ held_by u rs
unfolding held_by
held_without u = sum_without (held_by u) (λ r. one (is_on_hold (standing u r))) refl (λ _ _. refl)

pub held_added : (u : ℕ) (rs : List Record) (r : Record) → held_by u (rs ++ r ∷ []) ≡ held_by u rs + one (is_on_hold (standing u r))
unfolding held_by
held_added u = sum_added (held_by u) (λ r. one (is_on_hold (standing u r))) refl (λ _ _. refl)

-- a call's record has no more on hold than its user has in all
pub held_within : (u c : ℕ) (rs : List Record) (r : Record) → find c rs ≡ Some r → one (is_on_hold (standing u r)) ≤ held_by u rs
unfolding find held_by
held_within u c [] r e = let z : ◌≡◌ {A = ℕ} 0 1 = cc in absurd (omega arith)
held_within u c (x ∷ rs) r e = go (eqb x.id.0 c) e (held_within u c rs r)
  where
    go : (b : Bool) → cond b (Some x) (find c rs) ≡ Some r → (find c rs ≡ Some r → one (is_on_hold (standing u r)) ≤ held_by u rs) → one (is_on_hold (standing u r)) ≤ one (is_on_hold (standing u x)) + held_by u rs
    go true e ih = let s : x ≡ r = cc in omega (arith, ap (λ y. one (is_on_hold (standing u y))) s)
    go false e ih = omega (arith, ih e)
