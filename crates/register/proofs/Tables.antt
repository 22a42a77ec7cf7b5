-- What the checks of a table come to, what a search in a checked table finds, and what such a table means. Assumes nothing.
use Rattle.std.proofs.Common.{◌≡◌, ℕ, zero, suc, ◌+◌, ◌<◌, ◌≤◌, min, Bool, true, false, ltb, List, [], ◌∷◌, length, get_or, Some, None, unwrap_or, sym, refl, ap, ◌∙◌, subst, le_of_suc-le-suc, suc-le-suc, not-suc-le-zero, arith, tests}
use Rattle.std.specs.Cmp.{ranks}
use Rattle.std.specs.List.{list_all, IsAllAdjacentAnswer}
use Rattle.std.specs.List.Sorted.{IsNonDecreasingBy, IsPartitionPoint}
use Rattle.std.specs.Ordering.{nat_cmp, ordering_index, MatchOrdering}
use Rattle.std.specs.declared.cmp.Ordering.TheVariants.{Less, Equal, Greater}
use Rattle.std.proofs.lemmas.Bool.{and_from, and_parts, cond-true, cond-false, eq-eqb, leb-true, lt-ltb, ltb-false, ltb-true, ne_eqb}
use Rattle.register.specs.declared.table.Entry.{Entry}
use Rattle.register.specs.User.{is_user, before, same}
use Rattle.register.specs.Entries.{blank, fits, found, limit_at, limit_in, limits_fit, next, user_at, users_rise, Means}

-- the users of a table that rises come after the one before it
above : (last : ℕ) (es : List Entry) → users_rise last es ≡ true → (i : ℕ) (d : Entry) → i < length es → last < (get_or es i d).user.0
above last [] e i d h = absurd (not-suc-le-zero h)
above last (x ∷ es) e zero d h =
    ltb-true last x.user.0 (and_parts (before last x.user.0) _ (and_parts (next last x.user.0) _ e).0).0
above last (x ∷ es) e (suc i) d h =
    let p = and_parts (next last x.user.0) (users_rise x.user.0 es) e in
    let q = ltb-true last x.user.0 (and_parts (before last x.user.0) (is_user x.user.0) p.0).0 in
    let r = above x.user.0 es p.1 i d (le_of_suc-le-suc h) in
    omega arith

ordered : (last : ℕ) (es : List Entry) → users_rise last es ≡ true → (i j : ℕ) (d : Entry) → i ≤ j → j < length es → (get_or es i d).user.0 ≤ (get_or es j d).user.0
ordered last [] e i j d le h = absurd (not-suc-le-zero h)
ordered last (x ∷ es) e zero zero d le h = omega arith
ordered last (x ∷ es) e zero (suc j) d le h = omega (arith, above x.user.0 es (and_parts (next last x.user.0) _ e).1 j d (le_of_suc-le-suc h))
ordered last (x ∷ es) e (suc i) zero d le h = absurd (not-suc-le-zero le)
ordered last (x ∷ es) e (suc i) (suc j) d le h = ordered x.user.0 es (and_parts (next last x.user.0) _ e).1 i j d (le_of_suc-le-suc le) (le_of_suc-le-suc h)

-- so each entry is found by its user
found_at : (last : ℕ) (es : List Entry) → users_rise last es ≡ true → (i : ℕ) → i < length es → found (user_at es i) es ≡ Some (limit_at es i)
found_at last [] e i h = absurd (not-suc-le-zero h)
found_at last (x ∷ es) e zero h = cond-true (same x.user.0 x.user.0) _ _ (eq-eqb x.user.0 x.user.0 refl)
found_at last (x ∷ es) e (suc i) h =
    let p = and_parts (next last x.user.0) (users_rise x.user.0 es) e in
    let l = above x.user.0 es p.1 i blank (le_of_suc-le-suc h) in
    cond-false (same x.user.0 (user_at es i)) _ _ (ne_eqb x.user.0 (user_at es i) (λ q. omega arith))
    ∙ found_at x.user.0 es p.1 i (le_of_suc-le-suc h)

absent : (user : ℕ) (es : List Entry) → ((i : ℕ) → i < length es → user_at es i ≡ user → ⊥) → found user es ≡ None
absent user [] h = refl
absent user (x ∷ es) h =
    cond-false (same x.user.0 user) _ _ (ne_eqb x.user.0 user (h 0 (omega arith)))
    ∙ absent user es (λ i l. h (suc i) (omega arith))

pub few : (es : List Entry) → limits_fit es ≡ true → (i : ℕ) → i < length es → limit_at es i ≤ 7
few [] e i h = absurd (not-suc-le-zero h)
few (x ∷ es) e zero h = leb-true x.limit 7 (and_parts (fits x.limit) (limits_fit es) e).0
few (x ∷ es) e (suc i) h = few es (and_parts (fits x.limit) (limits_fit es) e).1 i (le_of_suc-le-suc h)

-- whether users rise, asked of each user and of each two neighbours
rise_users : (last : ℕ) (es : List Entry) → users_rise last es ≡ true → list_all (λ (e : Entry). is_user e.user.0) es ≡ true
rise_users last [] h = refl
rise_users last (x ∷ es) h =
    let p = and_parts (next last x.user.0) (users_rise x.user.0 es) h in
    and_from (is_user x.user.0) _ (and_parts (before last x.user.0) (is_user x.user.0) p.0).1 (rise_users x.user.0 es p.1)

rise_next : (last : ℕ) (es : List Entry) → users_rise last es ≡ true → (k : ℕ) (d : Entry) → suc k < length es → before (get_or es k d).user.0 (get_or es (suc k) d).user.0 ≡ true
rise_next last [] h k d l = absurd (not-suc-le-zero l)
rise_next last (x ∷ es) h zero d l = lt-ltb _ _ (above x.user.0 es (and_parts (next last x.user.0) _ h).1 0 d (le_of_suc-le-suc l))
rise_next last (x ∷ es) h (suc k) d l = rise_next x.user.0 es (and_parts (next last x.user.0) _ h).1 k d (le_of_suc-le-suc l)

rise_from : (last : ℕ) (es : List Entry) → list_all (λ (e : Entry). is_user e.user.0) es ≡ true → ((k : ℕ) (d : Entry) → suc k < length es → before (get_or es k d).user.0 (get_or es (suc k) d).user.0 ≡ true) → ((d : Entry) → 0 < length es → before last (get_or es 0 d).user.0 ≡ true) → users_rise last es ≡ true
rise_from last [] a s f = refl
rise_from last (x ∷ es) a s f =
    let p = and_parts (is_user x.user.0) _ a in
    and_from (next last x.user.0) _ (and_from (before last x.user.0) _ (f x (omega arith)) p.0) (rise_from x.user.0 es p.1 (λ k d l. s (suc k) d (suc-le-suc l)) (λ d l. s 0 d (suc-le-suc l)))

starts : (es : List Entry) → list_all (λ (e : Entry). is_user e.user.0) es ≡ true → (d : Entry) → 0 < length es → before 0 (get_or es 0 d).user.0 ≡ true
starts [] a d l = absurd (not-suc-le-zero l)
starts (x ∷ es) a d l = (and_parts (ltb 0 x.user.0) _ (and_parts (is_user x.user.0) _ a).0).0

pub rise_is : (es : List Entry) (r : Bool) → list_all (λ (e : Entry). is_user e.user.0) es ≡ true → IsAllAdjacentAnswer (λ x y b. b ≡ before x.user.0 y.user.0) es r → r ≡ users_rise 0 es
rise_is es true a h = sym (rise_from 0 es a (λ k d l. let n : suc k ≡ k + 1 = omega arith in ap (λ j. before (get_or es k d).user.0 (get_or es j d).user.0) n ∙ sym (h k d (omega arith))) (starts es a))
rise_is es false a h = falls (users_rise 0 es) refl
  where
    falls : (b : Bool) → users_rise 0 es ≡ b → false ≡ b
    falls true e = let n : h.0 + 1 ≡ suc h.0 = omega arith in h.2 blank ∙ ap (λ j. before (get_or es h.0 blank).user.0 (get_or es j blank).user.0) n ∙ rise_next 0 es e h.0 blank (omega (arith, h.1))
    falls false e = refl

pub rise_not : (es : List Entry) → list_all (λ (e : Entry). is_user e.user.0) es ≡ false → false ≡ users_rise 0 es
rise_not es h = falls (users_rise 0 es) refl
  where
    falls : (b : Bool) → users_rise 0 es ≡ b → false ≡ b
    falls true e = sym h ∙ rise_users 0 es e
    falls false e = refl

-- what a search by halves comes to in a table that was accepted
higher : (u a b : ℕ) → a ≤ b → ordering_index (nat_cmp a u) ≤ ordering_index (nat_cmp b u)
higher u a b le = grind (arith, tests)

pub hit : (u i : ℕ) (es : List Entry) → users_rise 0 es ≡ true → i < length es → nat_cmp (user_at es i) u ≡ Equal → Some (limit_at es i) ≡ found u es
hit u i es o l h =
    let e : user_at es i ≡ u = subst (λ c. MatchOrdering c (user_at es i < u) (user_at es i ≡ u) (u < user_at es i)) h (ranks (user_at es i) u) in
    sym (ap (λ k. found k es) (sym e) ∙ found_at 0 es o i l)

pub miss : (u i : ℕ) (es : List Entry) → users_rise 0 es ≡ true → (IsNonDecreasingBy (λ e. ordering_index (nat_cmp e.user.0 u)) es → IsPartitionPoint (λ e. nat_cmp e.user.0 u ≡ Less) (λ e. nat_cmp e.user.0 u ≡ Greater) es i) → None ≡ found u es
miss u i es o h =
    let p = h (λ a b d le l. higher u _ _ (ordered 0 es o a b d le l)) in
    sym (absent u es (λ k l e. differs k l e (ltb k i) refl p))
  where
    differs : (k : ℕ) → k < length es → user_at es k ≡ u → (b : Bool) → ltb k i ≡ b → IsPartitionPoint (λ e. nat_cmp e.user.0 u ≡ Less) (λ e. nat_cmp e.user.0 u ≡ Greater) es i → ⊥
    differs k l e true t p = omega (arith, e, subst (λ c. MatchOrdering c (user_at es k < u) (user_at es k ≡ u) (u < user_at es k)) (p.0 k blank (omega arith) (ltb-true _ _ t)) (ranks (user_at es k) u))
    differs k l e false t p = omega (arith, e, subst (λ c. MatchOrdering c (user_at es k < u) (user_at es k ≡ u) (u < user_at es k)) (p.1 k blank (ltb-false _ _ t) l) (ranks (user_at es k) u))

pub means : (es : List Entry) → limits_fit es ≡ true → users_rise 0 es ≡ true → Means es (λ user. limit_in user es)
means es limits users =
    record {
      listed = λ i h.
          let l = few es limits i h in
          let whole : min (limit_at es i) 7 ≡ limit_at es i = omega arith in
          ap (λ o. min (unwrap_or o 0) 7) (found_at 0 es users i h) ∙ whole;
      absent = λ user h. ap (λ o. min (unwrap_or o 0) 7) (absent user es h);
    }
