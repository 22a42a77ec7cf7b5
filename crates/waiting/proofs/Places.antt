-- The line in the first places of what was handed over: as the walk begins, one user more, and at its end. Assumes nothing.
use Rattle.std.proofs.Common.{◌≡◌, ℕ, suc, ◌+◌, ◌-◌, ◌<◌, ◌≤◌, Bool, not, ltb, List, [], ◌∷◌, ◌++◌, length, take, drop, set, is_some, Ok, Option, Result, sym, refl, ap, ◌∙◌, subst, arith}
use Rattle.std.proofs.lemmas.List.{drop-drop, drop-set-lt, length-take-le, take-append-drop, take_at, take_more_set}
use Rattle.std.proofs.lemmas.Bool.{ltb-false}
use Rattle.records.specs.Questions.{next_in_line}
use Rattle.records.specs.declared.legs.Record.{Record}
use Rattle.register.specs.User.{is_user}
use Rattle.register.specs.declared.user.User.{User}
use Rattle.switch.specs.State.{Model}
use Rattle.text.proofs.Checks.{passed}
use Rattle.text.specs.Fault.{after, in_switch, unless}
use Rattle.text.specs.declared.fault.Fault.{Fault}
use Rattle.waiting.specs.Law.{Chain, LineLaw, Short}
use Rattle.waiting.specs.Line.{checks, line_checked, line_of, line_told, line_written, step_by, tells, walk, written, Line, End, On}
use Rattle.waiting.specs.declared.told.WaitingLine.{WaitingLine}
use Rattle.waiting.proofs.Chains.{chain_more, chain_one, last_more, lawful_line, on_new, walk_end, walk_full, walk_on, Last}

-- so many places have the line so far, from which the walk comes to the whole line, and the others are as they were
abbrev pub Walking : List Record → User → ℕ → List User → User → List User → Type 0
Walking rs u k line last before =
    (walk (34 - k) rs (take k line) last ≡ line_of rs u)
    × Chain rs u (take k line)
    × Last (take k line) last
    × (drop k line ≡ drop k before)

pub begun : (rs : List Record) (u : User) (line : List User) → 33 ≤ length line → Walking rs u 1 (set line 0 u) u (set line 0 u)
begun rs u [] h = absurd (omega arith)
begun rs u (x ∷ xs) h = (refl, chain_one rs u, λ d. refl, refl)

pub more : (rs : List Record) (u : User) (k : ℕ) (line : List User) (last : User) (before : List User) (v : User) → Walking rs u k line last before → k < 33 → k < length line → step_by (next_in_line last.0 rs) (take k line) ≡ On v → Walking rs u (k + 1) (set line k v) v before
more rs u k line last before v w small lt e =
    let steps : 34 - k ≡ suc (34 - (k + 1)) = omega arith in
    let front : take (k + 1) (set line k v) ≡ take k line ++ v ∷ [] = take_more_set line k v lt in
    let new = on_new (next_in_line last.0 rs) (take k line) v e in (
      ap (λ (l : List User). walk (34 - (k + 1)) rs l v) front
          ∙ sym (walk_on (34 - (k + 1)) rs (take k line) last v e)
          ∙ sym (ap (λ (n : ℕ). walk n rs (take k line) last) steps)
          ∙ w.0,
      subst (λ (l : List User). Chain rs u l) (sym front) (chain_more rs u (take k line) last v w.1 w.2 new.0 new.1),
      subst (λ (l : List User). Last l v) (sym front) (last_more (take k line) v),
      drop-set-lt (k + 1) line k v (omega arith) ∙ sym (drop-drop 1 k line) ∙ ap (λ (l : List User). drop 1 l) w.3 ∙ drop-drop 1 k before,
    )

ended : (rs : List Record) (u : User) (k : ℕ) (line : List User) (last : User) (before : List User) (r : Bool) → Walking rs u k line last before → k < 33 → step_by (next_in_line last.0 rs) (take k line) ≡ End r → record { users = take k line; ring = r } ≡ line_of rs u
ended rs u k line last before r w small e =
    let steps : 34 - k ≡ suc (33 - k) = omega arith in
    sym (walk_end (33 - k) rs (take k line) last r e) ∙ sym (ap (λ (n : ℕ). walk n rs (take k line) last) steps) ∙ w.0

full : (rs : List Record) (u : User) (k : ℕ) (line : List User) (last : User) (before : List User) → Short rs → Walking rs u k line last before → k ≡ 33 → 33 ≤ length line → record { users = take k line; ring = is_some (next_in_line last.0 rs) } ≡ line_of rs u
full rs u k line last before sh w is le =
    let steps : 34 - k ≡ suc 0 = omega arith in
    let long : length (take k line) ≡ 33 = length-take-le k line (omega arith) ∙ is in
    sym (walk_full 0 rs u (take k line) last sh w.1 w.2 long) ∙ sym (ap (λ (n : ℕ). walk n rs (take k line) last) steps) ∙ w.0

-- a line in the first places is what is told and written
told : (l : Line) (k : ℕ) (r : Bool) (line : List User) → k ≤ length line → record { users = take k line; ring = r } ≡ l → record { length = k; ring = r } ≡ tells l
told l k r line le e = ap (λ (n : ℕ). let w : WaitingLine = record { length = n; ring = r } in w) (sym (length-take-le k line le)) ∙ ap tells e

kept : (l : Line) (k : ℕ) (r : Bool) (line before : List User) (u : User) → 0 < k → k ≤ length line → record { users = take k line; ring = r } ≡ l → drop k line ≡ drop k (set before 0 u) → line ≡ written l before
kept l k r line before u pos le e rest =
    sym (take-append-drop k line)
    ∙ ap (λ (xs : List User). take k line ++ xs) (rest ∙ drop-set-lt k before 0 u pos)
    ∙ ap (λ (n : ℕ). take k line ++ drop n before) (sym (length-take-le k line le))
    ∙ ap (λ (x : Line). written x before) e

-- what is told and written where the walk ends, before 33 stand in the line and with them
abbrev pub Done : Line → WaitingLine → List User → List User → Type 0
Done l t line before = (t ≡ tells l) × (line ≡ written l before)

pub at_end : (rs : List Record) (u : User) (k : ℕ) (line : List User) (last : User) (before : List User) (r : Bool) → Walking rs u k line last (set before 0 u) → 1 ≤ k → k < 33 → k ≤ length line → step_by (next_in_line last.0 rs) (take k line) ≡ End r → Done (line_of rs u) (record { length = k; ring = r }) line before
at_end rs u k line last before r w pos small le e =
    let whole = ended rs u k line last (set before 0 u) r w small e in
    (told (line_of rs u) k r line le whole, kept (line_of rs u) k r line before u pos le whole w.3)

pub at_full : (rs : List Record) (u : User) (k : ℕ) (line : List User) (last : User) (before : List User) (r : Bool) (o : Option User) → Short rs → Walking rs u k line last (set before 0 u) → k ≡ 33 → 33 ≤ length line → r ≡ is_some o → o ≡ next_in_line last.0 rs → Done (line_of rs u) (record { length = 33; ring = r }) line before
at_full rs u k line last before r o sh w is le test found =
    subst (λ (n : ℕ). Done (line_of rs u) (record { length = n; ring = r }) line before) is
    (told (line_of rs u) k r line (omega arith) whole, kept (line_of rs u) k r line before u (omega arith) (omega arith) whole w.3)
  where
    ring : r ≡ is_some (next_in_line last.0 rs)
    ring = test ∙ ap (λ (q : Option User). is_some q) found

    whole : record { users = take k line; ring = r } ≡ line_of rs u
    whole = ap (λ (b : Bool). let l : Line = record { users = take k line; ring = b } in l) ring ∙ full rs u k line last (set before 0 u) sh w is le

-- the law of what is told and written
law_of : (rs : List Record) (u : User) (t : WaitingLine) (line before : List User) → Short rs → t ≡ tells (line_of rs u) → line ≡ written (line_of rs u) before → LineLaw rs u t.length (take t.length line) t.ring
law_of rs u t line before sh e w =
    let users = (line_of rs u).users in
    let front : take (length users) line ≡ users = ap (λ (l : List User). take (length users) l) w ∙ take_at users (drop (length users) before) (length users) refl in
    subst (λ (x : WaitingLine). LineLaw rs u x.length (take x.length line) x.ring) (sym e)
    (subst (λ (l : List User). LineLaw rs u (length users) l (line_of rs u).ring) (sym front) (lawful_line rs u sh))

-- a check that passed left places enough
pub enough : (u : User) (n : ℕ) (t : Unit) → Ok t ≡ checks u n → 33 ≤ n
enough u n t e =
    let user = passed (not (is_user u.0)) (in_switch 30) (unless (ltb n 33) (in_switch 44) (Ok tt)) t (sym e) in
    let room = passed (ltb n 33) (in_switch 44) (Ok tt) t user.1 in
    ltb-false n 33 room.0

-- the outcome, the places and the law, where the checks passed
pub record Promise (m : Model) (u : User) (n : ℕ) (t : WaitingLine) (line before : List User) : Type 0 where
  pub outcome : Ok t ≡ line_told (line_checked m u n)
  pub places : line ≡ line_written (line_checked m u n) before
  pub law : LineLaw m.records u t.length (take t.length line) t.ring

pub promise : (m : Model) (rs : List Record) (u : User) (n : ℕ) (x : Unit) (t : WaitingLine) (line before : List User) → rs ≡ m.records → Ok x ≡ checks u n → Short rs → t ≡ tells (line_of rs u) → line ≡ written (line_of rs u) before → Promise m u n t line before
promise m rs u n x t line before is e sh told wrote =
    record {
      outcome = ap (λ (w : WaitingLine). let o : Result WaitingLine Fault = Ok w in o) told ∙ ap line_told came;
      places = wrote ∙ ap (λ (l : Result Line Fault). line_written l before) came;
      law = subst (λ (l : List Record). LineLaw l u t.length (take t.length line) t.ring) is (law_of rs u t line before sh told wrote);
    }
  where
    came : Ok (line_of rs u) ≡ line_checked m u n
    came =
        ap (λ (l : List Record). let o : Result Line Fault = Ok (line_of l u) in o) is
        ∙ ap (λ (r : Result Unit Fault). after r (λ _. let o : Result Line Fault = Ok (line_of m.records u) in o)) e
