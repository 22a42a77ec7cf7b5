-- A line as far as it goes: one user more, never more than 33, and where the walk ends. Assumes nothing.
use Rattle.std.proofs.Common.{◌≡◌, ℕ, zero, suc, ◌+◌, ◌-◌, ◌<◌, ◌≤◌, Bool, true, false, cond, ◌||◌, List, [], ◌∷◌, ◌++◌, length, get_or, is_some, Some, None, Contains, Option, sym, refl, ap, ◌∙◌, subst, ⊎_elim, add-one, arith}
use Rattle.std.proofs.lemmas.List.{get_or_append_left, get_or_push, length_push}
use Rattle.std.proofs.lemmas.List.Recursion.{same_from_clauses}
use Rattle.std.specs.List.{list_any}
use Rattle.std.proofs.lemmas.Bool.{both_ways, cases_lt, eqb-false, eqb-true, or_parts}
use Rattle.records.specs.Questions.{next_in_line}
use Rattle.records.specs.declared.legs.Record.{Record}
use Rattle.register.specs.User.{same}
use Rattle.register.specs.declared.user.User.{User}
use Rattle.switch.specs.Tables.{lawful}
use Rattle.switch.specs.declared.session.Session.{Session}
use Rattle.waiting.specs.Law.{Chain, Ended, LineLaw, Short}
use Rattle.waiting.specs.Line.{carry_on, line_of, stands_in, step_by, walk, Line, Step, End, On}
use Rattle.waiting.proofs.Seats.{next_seated, no_more}

-- users with one number are one user
user_is : (u v : User) → u.0 ≡ v.0 → u ≡ v
user_is u v e = ap (λ (n : ℕ). let w : User = record { 0 = n } in w) e

-- who stands in a line has a place in it, and who does not has none
standing : (v : User) (line : List User) → stands_in v.0 line ≡ true → Contains line v
unfolding stands_in
standing v [] e = absurd (both_ways false refl e)
standing v (x ∷ xs) e = go (same x.0 v.0) refl e (standing v xs)
  where
    go : (b : Bool) → same x.0 v.0 ≡ b → (b || stands_in v.0 xs) ≡ true → (stands_in v.0 xs ≡ true → Contains xs v) → Contains (x ∷ xs) v
    go true t e ih = (0, omega arith, user_is x v (eqb-true x.0 v.0 t))
    go false t e ih = let h : Contains xs v = ih e in (suc h.0, omega (arith, h.1), h.2)

absent : (v : User) (line : List User) → stands_in v.0 line ≡ false → (i : ℕ) (d : User) → i < length line → get_or line i d ≡ v → ⊥
unfolding stands_in
absent v [] e i d lt q = omega arith
absent v (x ∷ xs) e zero d lt q = eqb-false x.0 v.0 (or_parts (same x.0 v.0) (stands_in v.0 xs) e).0 (ap (λ (w : User). w.0) q)
absent v (x ∷ xs) e (suc i) d lt q = absent v xs (or_parts (same x.0 v.0) (stands_in v.0 xs) e).1 i d (omega arith) q

-- the last user of a line
abbrev pub Last : List User → User → Type 0
Last line last = (d : User) → get_or line (length line - 1) d ≡ last

pub chain_one : (rs : List Record) (u : User) → Chain rs u (u ∷ [])
chain_one rs u =
    record {
      some = omega arith;
      starts = λ d. refl;
      once = λ i j d lt below e. omega arith;
      follows = λ i d below. absurd (omega arith);
    }

pub last_more : (line : List User) (v : User) → Last (line ++ v ∷ []) v
last_more line v d = get_or_push line v d (length (line ++ v ∷ []) - 1) (omega (arith, length_push line v))

pub chain_more : (rs : List Record) (u : User) (line : List User) (last v : User) → Chain rs u line → Last line last → next_in_line last.0 rs ≡ Some v → stands_in v.0 line ≡ false → Chain rs u (line ++ v ∷ [])
chain_more rs u line last v chain ends next new =
    record {
      some = omega (arith, length_push line v);
      starts = λ d. kept 0 d chain.some ∙ chain.starts d;
      once = λ i j d lt below e.
          ⊎_elim
          (λ (within : j < length line). chain.once i j d lt within (sym (kept i d (omega arith)) ∙ e ∙ kept j d within))
          (λ (past : length line ≤ j). absent v line new i d (omega (arith, length_push line v)) (sym (kept i d (omega (arith, length_push line v))) ∙ e ∙ get_or_push line v d j (omega (arith, length_push line v))))
          (cases_lt j (length line));
      follows = λ i d below.
          ⊎_elim
          (λ (within : i + 1 < length line). ap (λ (w : User). next_in_line w.0 rs) (kept i d (omega arith)) ∙ chain.follows i d within ∙ ap (λ (w : User). Some w) (sym (kept (i + 1) d within)))
          (λ (past : length line ≤ i + 1).
          let at : i ≡ length line - 1 = omega (arith, length_push line v, chain.some) in
          ap (λ (w : User). next_in_line w.0 rs) (kept i d (omega (arith, length_push line v)) ∙ ap (λ (k : ℕ). get_or line k d) at ∙ ends d)
          ∙ next ∙ ap (λ (w : User). Some w) (sym (get_or_push line v d (i + 1) (omega (arith, length_push line v)))))
          (cases_lt (i + 1) (length line));
    }
  where
    kept : (k : ℕ) (d : User) → k < length line → get_or (line ++ v ∷ []) k d ≡ get_or line k d
    kept k d lt = get_or_append_left line (v ∷ []) d k lt

-- all but the first of a line have sessions, and there are at most 32 of these
pub short : (ss : List Session) (rs : List Record) → lawful ss rs ≡ true → length ss ≤ 32 → Short rs
short ss rs law few u [] chain = omega arith
short ss rs law few u (x ∷ xs) chain =
    omega (
      arith,
      no_more ss xs
          (λ i j d lt below e. chain.once (suc i) (suc j) d (omega arith) (omega arith) (user_is (get_or xs i d) (get_or xs j d) e))
          (λ i d below.
          let behind : next_in_line (get_or (x ∷ xs) i d).0 rs ≡ Some (get_or (x ∷ xs) (suc i) d) = rw add-one at (chain.follows i d (omega arith)) in
          next_seated ss rs (get_or (x ∷ xs) i d).0 (get_or xs i d) law behind),
    )

-- one step of the walk
pub walk_end : (n : ℕ) (rs : List Record) (line : List User) (last : User) (r : Bool) → step_by (next_in_line last.0 rs) line ≡ End r → walk (suc n) rs line last ≡ record { users = line; ring = r }
unfolding walk
walk_end n rs line last r e = ap (λ (s : Step). carry_on s line (λ v. walk n rs (line ++ v ∷ []) v)) e

pub walk_on : (n : ℕ) (rs : List Record) (line : List User) (last v : User) → step_by (next_in_line last.0 rs) line ≡ On v → walk (suc n) rs line last ≡ walk n rs (line ++ v ∷ []) v
unfolding walk
walk_on n rs line last v e = ap (λ (s : Step). carry_on s line (λ v. walk n rs (line ++ v ∷ []) v)) e

-- a step goes on to a next who does not stand in the line
pub on_new : (o : Option User) (line : List User) (v : User) → step_by o line ≡ On v → (o ≡ Some v) × (stands_in v.0 line ≡ false)
on_new None line v e = let z : ◌≡◌ {A = ℕ} 0 1 = cc in absurd (omega arith)
on_new (Some w) line v e = go (stands_in w.0 line) refl e
  where
    go : (b : Bool) → stands_in w.0 line ≡ b → cond b (End true) (On w) ≡ On v → (Some w ≡ Some v) × (stands_in v.0 line ≡ false)
    go true t e = let z : ◌≡◌ {A = ℕ} 0 1 = cc in absurd (omega arith)
    go false t e = let s : w ≡ v = cc in (ap (λ (x : User). Some x) s, subst (λ (x : User). stands_in x.0 line ≡ false) s t)

stepped : (o : Option User) (line : List User) (v : User) (b : Bool) → o ≡ Some v → stands_in v.0 line ≡ b → step_by o line ≡ cond b (End true) (On v)
stepped o line v b e t = ap (λ (q : Option User). step_by q line) e ∙ ap (λ (x : Bool). cond x (End true) (On v)) t

-- the same, where a test of any of them found him or not
pub stepped_any : (o : Option User) (line : List User) (v : User) (b : Bool) → o ≡ Some v → list_any (λ (w : User). same w.0 v.0) line ≡ b → step_by o line ≡ cond b (End true) (On v)
unfolding stands_in
stepped_any o line v b e t = stepped o line v b e (same_from_clauses (stands_in v.0) (list_any (λ (w : User). same w.0 v.0)) (λ w x. same w.0 v.0 || x) refl (λ _ _. refl) (λ _ _. refl) line ∙ t)

-- where 33 stand in a line, it ends, and it is a ring if anybody is next
pub walk_full : (n : ℕ) (rs : List Record) (u : User) (line : List User) (last : User) → Short rs → Chain rs u line → Last line last → length line ≡ 33 → walk (suc n) rs line last ≡ record { users = line; ring = is_some (next_in_line last.0 rs) }
walk_full n rs u line last sh chain ends long = go (next_in_line last.0 rs) refl
  where
    go : (o : Option User) → next_in_line last.0 rs ≡ o → walk (suc n) rs line last ≡ record { users = line; ring = is_some o }
    go None e = walk_end n rs line last false (ap (λ (o : Option User). step_by o line) e)
    go (Some v) e = at (stands_in v.0 line) refl
      where
        at : (b : Bool) → stands_in v.0 line ≡ b → walk (suc n) rs line last ≡ record { users = line; ring = true }
        at true t = walk_end n rs line last true (stepped _ line v true e t)
        at false t = absurd (omega (arith, sh u (line ++ v ∷ []) (chain_more rs u line last v chain ends e t), length_push line v))

-- the law of what the walk comes to
abbrev pub Lawful : List Record → User → Line → Type 0
Lawful rs u l = LineLaw rs u (length l.users) l.users l.ring

ended : (rs : List Record) (u : User) (line : List User) (last : User) (r : Bool) → Short rs → Chain rs u line → Last line last → Ended r (next_in_line last.0 rs) line → Lawful rs u (record { users = line; ring = r })
ended rs u line last r sh chain ends how =
    record {
      chain = chain;
      long = refl;
      few = sh u line chain;
      ended = λ i d e.
          let at : i ≡ length line - 1 = omega arith in
          subst (λ (w : User). Ended r (next_in_line w.0 rs) line) (sym (ap (λ (k : ℕ). get_or line k d) at ∙ ends d)) how;
    }

whole : (rs : List Record) (u : User) → Short rs → (n : ℕ) (line : List User) (last : User) → Chain rs u line → Last line last → 34 ≤ n + length line → Lawful rs u (walk n rs line last)
unfolding walk
whole rs u sh zero line last chain ends enough = absurd (omega (arith, sh u line chain))
whole rs u sh (suc n) line last chain ends enough = go (next_in_line last.0 rs) refl (whole rs u sh n)
  where
    go : (o : Option User) → next_in_line last.0 rs ≡ o → ((l : List User) (w : User) → Chain rs u l → Last l w → 34 ≤ n + length l → Lawful rs u (walk n rs l w)) → Lawful rs u (carry_on (step_by o line) line (λ v. walk n rs (line ++ v ∷ []) v))
    go None e ih = ended rs u line last false sh chain ends e
    go (Some v) e ih = at (stands_in v.0 line) refl
      where
        at : (b : Bool) → stands_in v.0 line ≡ b → Lawful rs u (carry_on (cond b (End true) (On v)) line (λ v. walk n rs (line ++ v ∷ []) v))
        at true t = ended rs u line last true sh chain ends (v, e, standing v line t)
        at false t = ih (line ++ v ∷ []) v (chain_more rs u line last v chain ends e t) (last_more line v) (omega (arith, length_push line v))

pub lawful_line : (rs : List Record) (u : User) → Short rs → Lawful rs u (line_of rs u)
lawful_line rs u sh = whole rs u sh 33 (u ∷ []) u (chain_one rs u) (λ d. refl) (omega arith)
