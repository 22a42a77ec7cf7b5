-- The terminal's table of calls, by what is found of each call. Assumes nothing.
use Rattle.std.proofs.Common.{◌≡◌, ℕ, Bool, true, false, cond, eqb, ◌⊎◌, List, [], ◌∷◌, ◌++◌, is_some, Some, None, Option, sym, refl, ap, ◌∙◌, inl, inr, arith}
use Rattle.std.proofs.lemmas.Bool.{cond_both}
use Rattle.std.proofs.lemmas.Bool.Decides.{nat_tests, eqb_tells}
use Rattle.frames.specs.declared.content.Body.{Body}
use Rattle.frames.specs.declared.content.Body.TheVariants.{Request, Answer, ClearRequest, ClearAnswer, Notice}
use Rattle.frames.specs.declared.content.CallId.{CallId}
use Rattle.frames.specs.declared.content.Cause.{Cause}
use Rattle.frames.specs.declared.content.Cause.TheVariants.{NotSubscribed, LimitReached, CallNotThere, AlreadyOnHold, NotOnHold, NoChannel}
use Rattle.frames.specs.declared.content.News.{News}
use Rattle.frames.specs.declared.content.News.TheVariants.{PutOnHold, Retrieved, Released}
use Rattle.frames.specs.declared.content.Operation.TheVariants.{Hold, Retrieve}
use Rattle.frames.specs.declared.content.Verdict.TheVariants.{Granted, Declined}
use Rattle.signalling.specs.Ask.{asked_by}
use Rattle.signalling.specs.declared.ask.Ask.TheVariants.{Clear}
use Rattle.terminal.specs.Arriving.{after_cause, settled, informed, reply_of}
use Rattle.terminal.specs.Calls.{find, change, without, own_to, other_to, mark, mark_other}
use Rattle.terminal.specs.State.{unmarked}
use Rattle.terminal.specs.declared.call.Call.{Call}
use Rattle.terminal.specs.declared.told.Reply.TheVariants.{Cleared}
use Rattle.law.specs.Law.{marked}
use Rattle.law.proofs.Once.{Once}

-- a call is in the table, and its own mark is set there
unfoldable pub has : List Call → ℕ → Bool
has cs x = is_some (find x cs)

unfoldable pub shows : List Call → ℕ → Bool
shows cs x = marked (find x cs)

abbrev changed : (Call → Call) → Option Call → Option Call
changed f None = None
changed f (Some c) = Some (f c)

find_change : (f : Call → Call) → ((c : Call) → (f c).id.0 ≡ c.id.0) → (n x : ℕ) (cs : List Call) → (n ≡ x → ⊥) → find x (change f n cs) ≡ find x cs
find_change f k n x [] d = refl
find_change f k n x (c ∷ cs) d = let ih = find_change f k n x cs d in let i = k c in grind (arith, nat_tests)

find_changed : (f : Call → Call) → ((c : Call) → (f c).id.0 ≡ c.id.0) → (n : ℕ) (cs : List Call) → find n (change f n cs) ≡ changed f (find n cs)
find_changed f k n [] = refl
find_changed f k n (c ∷ cs) = let ih = find_changed f k n cs in let i = k c in grind (arith, nat_tests)

find_without : (n x : ℕ) (cs : List Call) → (n ≡ x → ⊥) → find x (without n cs) ≡ find x cs
find_without n x [] d = refl
find_without n x (c ∷ cs) d = let ih = find_without n x cs d in grind (arith, nat_tests)

abbrev first_of : Option Call → Option Call → Option Call
first_of None q = q
first_of (Some c) q = Some c

find_add : (c : CallId) (x : ℕ) (cs : List Call) → find x (cs ++ unmarked c ∷ []) ≡ first_of (find x cs) (cond (eqb c.0 x) (Some (unmarked c)) None)
find_add c x [] = refl
find_add c x (y ∷ cs) = let ih = find_add c x cs in grind (arith, nat_tests)

-- edits, by whether a call is there and by its own mark

has_mark : (b : Bool) (n x : ℕ) (cs : List Call) → has (mark n b cs) x ≡ has cs x
unfolding has
has_mark b n x cs = go (eqb_tells n x)
  where
    same : (o : Option Call) → is_some (changed (own_to b) o) ≡ is_some o
    same None = refl
    same (Some c) = refl

    go : ((eqb n x ≡ true) × (n ≡ x)) ⊎ ((eqb n x ≡ false) × (n ≡ x → ⊥)) → is_some (find x (mark n b cs)) ≡ is_some (find x cs)
    go (inl e) = rw (← e.1) (ap is_some (find_changed (own_to b) (λ c. refl) n cs) ∙ same (find n cs))
    go (inr e) = ap is_some (find_change (own_to b) (λ c. refl) n x cs e.1)

shows_mark : (b : Bool) (n x : ℕ) (cs : List Call) → (n ≡ x → ⊥) → shows (mark n b cs) x ≡ shows cs x
unfolding shows
shows_mark b n x cs d = ap marked (find_change (own_to b) (λ c. refl) n x cs d)

shows_mark_here : (b : Bool) (n : ℕ) (cs : List Call) → shows (mark n b cs) n ≡ cond (has cs n) b false
unfolding has shows
shows_mark_here b n cs = ap marked (find_changed (own_to b) (λ c. refl) n cs) ∙ go (find n cs)
  where
    go : (o : Option Call) → marked (changed (own_to b) o) ≡ cond (is_some o) b false
    go None = refl
    go (Some c) = refl

other_same : (b : Bool) (n x : ℕ) (cs : List Call) → (has (mark_other n b cs) x ≡ has cs x) × (shows (mark_other n b cs) x ≡ shows cs x)
unfolding has shows
other_same b n x cs = go (eqb_tells n x)
  where
    same : (o : Option Call) → (is_some (changed (other_to b) o) ≡ is_some o) × (marked (changed (other_to b) o) ≡ marked o)
    same None = (refl, refl)
    same (Some c) = (refl, refl)

    go : ((eqb n x ≡ true) × (n ≡ x)) ⊎ ((eqb n x ≡ false) × (n ≡ x → ⊥)) → (is_some (find x (mark_other n b cs)) ≡ is_some (find x cs)) × (marked (find x (mark_other n b cs)) ≡ marked (find x cs))
    go (inl e) =
        let i = find_changed (other_to b) (λ c. refl) n cs in
        let j = same (find n cs) in
        rw (← e.1) ((ap is_some i ∙ j.0, ap marked i ∙ j.1))
    go (inr e) = let i = find_change (other_to b) (λ c. refl) n x cs e.1 in (ap is_some i, ap marked i)

without_same : (n x : ℕ) (cs : List Call) → (n ≡ x → ⊥) → (has (without n cs) x ≡ has cs x) × (shows (without n cs) x ≡ shows cs x)
unfolding has shows
without_same n x cs d = let i = find_without n x cs d in (ap is_some i, ap marked i)

shows_without : (n : ℕ) (cs : List Call) → Once cs → shows (without n cs) n ≡ false
unfolding shows
shows_without n cs o = ap marked (o n)

pub shows_add : (c : CallId) (x : ℕ) (cs : List Call) → shows (cs ++ unmarked c ∷ []) x ≡ shows cs x
unfolding shows
shows_add c x cs = ap marked (find_add c x cs) ∙ go (find x cs) (eqb c.0 x)
  where
    go : (o : Option Call) (b : Bool) → marked (first_of o (cond b (Some (unmarked c)) None)) ≡ marked o
    go None true = refl
    go None false = refl
    go (Some y) b = refl

pub has_add : (c : CallId) (x : ℕ) (cs : List Call) → has (cs ++ unmarked c ∷ []) x ≡ cond (has cs x) true (eqb c.0 x)
unfolding has
has_add c x cs = ap is_some (find_add c x cs) ∙ go (find x cs) (eqb c.0 x)
  where
    go : (o : Option Call) (b : Bool) → is_some (first_of o (cond b (Some (unmarked c)) None)) ≡ cond (is_some o) true b
    go None true = refl
    go None false = refl
    go (Some y) b = refl

-- what the answer with a body makes of the calls
unfoldable pub settle : Body → ℕ → List Call → List Call
settle (Answer o v) n cs = settled (asked_by o) (reply_of v) n cs
settle ClearAnswer n cs = settled Clear Cleared n cs
settle (Request o) n cs = cs
settle ClearRequest n cs = cs
settle (Notice w) n cs = cs

-- and of the call's mark: `h` says that the call is there, `m` is its mark
abbrev pub mark_by : Cause → Bool → Bool
mark_by NotSubscribed m = m
mark_by LimitReached m = m
mark_by CallNotThere m = false
mark_by AlreadyOnHold m = m
mark_by NotOnHold m = m
mark_by NoChannel m = m

abbrev pub mark_after : Body → Bool → Bool → Bool
mark_after (Answer Hold Granted) h m = h
mark_after (Answer Hold (Declined x)) h m = mark_by x m
mark_after (Answer Retrieve Granted) h m = false
mark_after (Answer Retrieve (Declined x)) h m = mark_by x m
mark_after ClearAnswer h m = false
mark_after (Request o) h m = m
mark_after ClearRequest h m = m
mark_after (Notice w) h m = m

shows_cause : (y : Cause) (n x : ℕ) (cs : List Call) → (n ≡ x → ⊥) → shows (after_cause y n cs) x ≡ shows cs x
shows_cause NotSubscribed n x cs d = refl
shows_cause LimitReached n x cs d = refl
shows_cause CallNotThere n x cs d = (without_same n x cs d).1
shows_cause AlreadyOnHold n x cs d = refl
shows_cause NotOnHold n x cs d = refl
shows_cause NoChannel n x cs d = refl

shows_cause_here : (y : Cause) (n : ℕ) (cs : List Call) → Once cs → shows (after_cause y n cs) n ≡ mark_by y (shows cs n)
shows_cause_here NotSubscribed n cs o = refl
shows_cause_here LimitReached n cs o = refl
shows_cause_here CallNotThere n cs o = shows_without n cs o
shows_cause_here AlreadyOnHold n cs o = refl
shows_cause_here NotOnHold n cs o = refl
shows_cause_here NoChannel n cs o = refl

pub shows_settle : (a : Body) (n x : ℕ) (cs : List Call) → (n ≡ x → ⊥) → shows (settle a n cs) x ≡ shows cs x
unfolding settle
shows_settle (Answer Hold Granted) n x cs d = shows_mark true n x cs d
shows_settle (Answer Hold (Declined y)) n x cs d = shows_cause y n x cs d
shows_settle (Answer Retrieve Granted) n x cs d = shows_mark false n x cs d
shows_settle (Answer Retrieve (Declined y)) n x cs d = shows_cause y n x cs d
shows_settle ClearAnswer n x cs d = (without_same n x cs d).1
shows_settle (Request o) n x cs d = refl
shows_settle ClearRequest n x cs d = refl
shows_settle (Notice w) n x cs d = refl

pub shows_settle_here : (a : Body) (n : ℕ) (cs : List Call) → Once cs → shows (settle a n cs) n ≡ mark_after a (has cs n) (shows cs n)
unfolding settle
shows_settle_here (Answer Hold Granted) n cs o = shows_mark_here true n cs ∙ cond_both (has cs n) true false (λ b. b ≡ has cs n) sym sym
shows_settle_here (Answer Hold (Declined y)) n cs o = shows_cause_here y n cs o
shows_settle_here (Answer Retrieve Granted) n cs o = shows_mark_here false n cs ∙ cond_both (has cs n) false false (λ b. b ≡ false) (λ _. refl) (λ _. refl)
shows_settle_here (Answer Retrieve (Declined y)) n cs o = shows_cause_here y n cs o
shows_settle_here ClearAnswer n cs o = shows_without n cs o
shows_settle_here (Request k) n cs o = refl
shows_settle_here ClearRequest n cs o = refl
shows_settle_here (Notice w) n cs o = refl

-- ys says of x what xs says, as far as an answer for d can tell
abbrev pub Alike : ℕ → List Call → List Call → ℕ → Type 0
Alike d xs ys x = (shows ys x ≡ shows xs x) × (d ≡ x → has ys x ≡ has xs x)

pub settle_alike : (a : Body) (d x : ℕ) (xs ys : List Call) → Once xs → Once ys → Alike d xs ys x → shows (settle a d ys) x ≡ shows (settle a d xs) x
settle_alike a d x xs ys o o' h = go (eqb_tells d x)
  where
    here : (z : ℕ) → has ys z ≡ has xs z → shows ys z ≡ shows xs z → shows (settle a z ys) z ≡ shows (settle a z xs) z
    here z i j = shows_settle_here a z ys o' ∙ (rw (i, j) (sym (shows_settle_here a z xs o)))

    go : ((eqb d x ≡ true) × (d ≡ x)) ⊎ ((eqb d x ≡ false) × (d ≡ x → ⊥)) → shows (settle a d ys) x ≡ shows (settle a d xs) x
    go (inl e) = rw e.1 (here x (h.1 e.1) h.0)
    go (inr e) = shows_settle a d x ys e.1 ∙ (h.0 ∙ sym (shows_settle a d x xs e.1))

-- news leaves each call's own mark, save that of a released call
pub informed_same : (w : News) (n x : ℕ) (cs : List Call) → ((has (informed w n cs) x ≡ has cs x) × (shows (informed w n cs) x ≡ shows cs x)) ⊎ ((w ≡ Released) × (n ≡ x))
informed_same PutOnHold n x cs = inl (other_same true n x cs)
informed_same Retrieved n x cs = inl (other_same false n x cs)
informed_same Released n x cs = go (eqb_tells n x)
  where
    go : ((eqb n x ≡ true) × (n ≡ x)) ⊎ ((eqb n x ≡ false) × (n ≡ x → ⊥)) → ((has (without n cs) x ≡ has cs x) × (shows (without n cs) x ≡ shows cs x)) ⊎ ((Released ≡ Released) × (n ≡ x))
    go (inl e) = inr (refl, e.1)
    go (inr e) = inl (without_same n x cs e.1)
