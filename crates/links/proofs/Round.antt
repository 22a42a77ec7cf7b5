-- Laws of the bytes that wait in a memory that goes on at its start. Assumes nothing.
use Rattle.std.specs.Prelude.{◌≡◌, ℕ, zero, suc, ◌+◌, ◌-◌, ◌<◌, ◌≤◌, ◌≢◌, ◌⊎◌, List, [], ◌∷◌, ◌++◌, length, get_or, take, drop, slice_index, slice_index_or, slice_set, refl}
use Rattle.std.proofs.Common.{sym, ap, ◌∙◌, inl, inr, arith}
use Rattle.std.proofs.lemmas.List.{same_lists, length-take-le, length-drop, length-append, length-set, get_or-take, get_or-drop, get_or_append_left, get_or-append_right, get_or-set_same, get_or-set_other, get_or_push, length_push, get_or_default}
use Rattle.std.proofs.lemmas.Bool.{cases_lt}
use Rattle.links.specs.Queue.{round}

-- also where the memory is empty
pub length_round : (m : List ℕ) (h n : ℕ) → h ≤ length m → n ≤ length m → length (round m h n) ≡ n
length_round m h n lt le = length-take-le n (drop h (m ++ m)) (simp (length-drop, length-append) (omega arith))

-- the byte at a place of the queue
pub at_low : (m : List ℕ) (h n i d : ℕ) → i < n → h + i < length m → slice_index_or (round m h n) i d ≡ slice_index_or m (h + i) d
at_low m h n i d lt low = get_or-take n (drop h (m ++ m)) i d lt ∙ get_or-drop h (m ++ m) i d ∙ get_or_append_left m m d (h + i) low

pub at_high : (m : List ℕ) (h n i d : ℕ) → i < n → length m ≤ h + i → slice_index_or (round m h n) i d ≡ slice_index_or m (h + i - length m) d
at_high m h n i d lt high = get_or-take n (drop h (m ++ m)) i d lt ∙ get_or-drop h (m ++ m) i d ∙ get_or-append_right m m (length m) (h + i) d refl high

-- where the next byte goes
abbrev pub Spot : List ℕ → ℕ → ℕ → ℕ → Type 0
Spot m h n p = (p < length m) × ((p ≡ h + n) ⊎ (p + length m ≡ h + n))

at : (m : List ℕ) (h n i q d : ℕ) → i < n → Spot m h i q → slice_index_or (round m h n) i d ≡ slice_index_or m q d
at m h n i q d lt (ok, inl e) = at_low m h n i d lt (omega arith) ∙ ap (λ k. get_or m k d) (sym e)
at m h n i q d lt (ok, inr e) =
    let back : h + i - length m ≡ q = omega arith in
    at_high m h n i d lt (omega arith) ∙ ap (λ k. get_or m k d) back

spot : (m : List ℕ) (h i : ℕ) → h < length m → i < length m → (q : ℕ) × Spot m h i q
spot m h i hl il = go (cases_lt (h + i) (length m))
  where
    go : ((h + i < length m) ⊎ (length m ≤ h + i)) → (q : ℕ) × Spot m h i q
    go (inl low) = (h + i, (low, inl refl))
    go (inr high) = (h + i - length m, (omega arith, inr (omega arith)))

-- two places of one turn are apart
apart : (m : List ℕ) (h i n q p : ℕ) → i < n → n < length m → Spot m h i q → Spot m h n p → q ≢ p
apart m h i n q p lt nl (qo, inl a) (po, inl b) e = omega arith
apart m h i n q p lt nl (qo, inl a) (po, inr b) e = omega arith
apart m h i n q p lt nl (qo, inr a) (po, inl b) e = omega arith
apart m h i n q p lt nl (qo, inr a) (po, inr b) e = omega arith

spot_set : (m : List ℕ) (h i q p b : ℕ) → Spot m h i q → Spot (slice_set m p b) h i q
spot_set m h i q p b s = rw length-set s

pub pushed : (m : List ℕ) (h n p b : ℕ) → h < length m → n < length m → Spot m h n p → round (slice_set m p b) h (n + 1) ≡ round m h n ++ b ∷ []
pushed m h n p b hl nl sp = same_lists _ _ (long ∙ sym short) each
  where
    long : length (round (slice_set m p b) h (n + 1)) ≡ n + 1
    long = length_round (slice_set m p b) h (n + 1) (rw length-set (omega arith)) (rw length-set (omega arith))

    short : length (round m h n ++ b ∷ []) ≡ n + 1
    short = length_push (round m h n) b ∙ ap (λ k. k + 1) (length_round m h n (omega arith) (omega arith))

    each : (k d : ℕ) → k < length (round (slice_set m p b) h (n + 1)) → slice_index_or (round (slice_set m p b) h (n + 1)) k d ≡ slice_index_or (round m h n ++ b ∷ []) k d
    each k d lt = go (cases_lt k n)
      where
        go : ((k < n) ⊎ (n ≤ k)) → slice_index_or (round (slice_set m p b) h (n + 1)) k d ≡ slice_index_or (round m h n ++ b ∷ []) k d
        go (inl kn) =
            let s = spot m h k hl (omega arith) in
            at (slice_set m p b) h (n + 1) k s.0 d (omega arith) (spot_set m h k s.0 p b s.1)
            ∙ get_or-set_other m p s.0 b d (apart m h k n s.0 p kn nl s.1 sp)
            ∙ sym (at m h n k s.0 d kn s.1)
            ∙ sym (get_or_append_left (round m h n) (b ∷ []) d k (let nm : n ≤ length m = omega arith in let hm : h ≤ length m = omega arith in rw length_round kn))
        go (inr nk) =
            let same : k ≡ n = omega (arith, long) in
            ap (λ j. get_or (round (slice_set m p b) h (n + 1)) j d) same
            ∙ at (slice_set m p b) h (n + 1) n p d (omega arith) (spot_set m h n p p b sp)
            ∙ get_or-set_same m p b d sp.0
            ∙ sym (get_or_push (round m h n) b d k (length_round m h n (omega arith) (omega arith) ∙ sym same))

next : (m : List ℕ) (h g k q : ℕ) → h < length m → Spot m h 1 g → Spot m h (k + 1) q → Spot m g k q
next m h g k q hl (go, inl a) (qo, inl b) = (qo, inl (omega arith))
next m h g k q hl (go, inl a) (qo, inr b) = (qo, inr (omega arith))
next m h g k q hl (go, inr a) (qo, inl b) = (qo, inl (omega arith))
next m h g k q hl (go, inr a) (qo, inr b) = (qo, inl (omega arith))

pub popped : (m : List ℕ) (h n g : ℕ) → h < length m → 0 < n → n ≤ length m → Spot m h 1 g → round m h n ≡ slice_index m h ∷ round m g (n - 1)
popped m h n g hl some nl sp = same_lists _ _ (long ∙ sym short) each
  where
    long : length (round m h n) ≡ n
    long = length_round m h n (omega arith) nl

    short : length (slice_index m h ∷ round m g (n - 1)) ≡ n
    short = ap suc (length_round m g (n - 1) (omega (arith, sp.0)) (omega arith)) ∙ omega arith

    each : (k d : ℕ) → k < length (round m h n) → slice_index_or (round m h n) k d ≡ slice_index_or (slice_index m h ∷ round m g (n - 1)) k d
    each zero d lt = at m h n 0 h d some (hl, inl (omega arith)) ∙ get_or_default m h d 0 hl
    each (suc k) d lt =
        let s = spot m h (k + 1) hl (omega (arith, long)) in
        let e : suc k ≡ k + 1 = omega arith in
        ap (λ j. get_or (round m h n) j d) e
        ∙ at m h n (k + 1) s.0 d (omega (arith, long)) s.1
        ∙ sym (at m g (n - 1) k s.0 d (omega (arith, long)) (next m h g k s.0 hl sp s.1))

-- what a write to the memory changes of its first n bytes
pub take_set : (n : ℕ) (m : List ℕ) (p b : ℕ) → take n (slice_set m p b) ≡ slice_set (take n m) p b
take_set zero m p b = refl
take_set (suc n) [] p b = refl
take_set (suc n) (x ∷ m) zero b = refl
take_set (suc n) (x ∷ m) (suc p) b = ap (λ l. x ∷ l) (take_set n m p b)
