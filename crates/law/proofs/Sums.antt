-- The law, from the invariant. Assumes nothing.
use Rattle.std.proofs.Common.{◌≡◌, ℕ, zero, suc, ◌<◌, ◌≤◌, Bool, true, false, not, ◌&&◌, ◌||◌, eqb, leb, ◌⊎◌, ◌↔◌, List, [], reverse, Some, None, Ok, Err, Option, Result, sym, refl, ap, ◌∙◌, subst, inl, inr, true≢false, arith}
use mathlib.Core.Bool.{false≢true}
use Rattle.std.proofs.lemmas.Bool.Decides.{nat_tests, eqb_tells, leb_tells}
use Rattle.frames.specs.declared.content.Body.{Body}
use Rattle.frames.specs.declared.content.Body.TheVariants.{Request as request_body, Answer, ClearRequest, ClearAnswer, Notice}
use Rattle.frames.specs.declared.content.CallId.{CallId}
use Rattle.frames.specs.declared.content.Cause.TheVariants.{NoChannel}
use Rattle.frames.specs.declared.content.Frame.{Frame}
use Rattle.frames.specs.declared.content.Operation.TheVariants.{Hold, Retrieve}
use Rattle.frames.specs.declared.content.Verdict.TheVariants.{Declined}
use Rattle.records.specs.Changes.{find}
use Rattle.records.specs.Legs.{one, is_on_hold}
use Rattle.records.specs.declared.legs.Standing.{Standing as Spot}
use Rattle.records.specs.declared.legs.Standing.TheVariants.{Absent, Talking, OnHold}
use Rattle.register.specs.User.{same}
use Rattle.register.specs.declared.user.User.{User}
use Rattle.switch.specs.Clearing.{party_legs}
use Rattle.switch.specs.Serving.{carry_out, retrieve_verdict, on_hold as hold_told, on_retrieve, standing_at, serve_checked, Serves, ServingBy}
use Rattle.switch.specs.Serving.Carried.{carried}
use Rattle.switch.specs.State.{Model}
use Rattle.switch.specs.Tables.{session}
use Rattle.switch.specs.declared.session.Session.{Session}
use Rattle.switch.specs.declared.told.Handled.{Handled}
use Rattle.switch.specs.declared.told.Handled.TheVariants.{Answered, Cleared as clear_handled}
use Rattle.switch.specs.declared.told.Served.{Served as ServedTold}
use Rattle.terminal.specs.declared.request.Request.{Request}
use Rattle.text.specs.declared.fault.Fault.{Fault}
use Rattle.law.specs.declared.event.Event.{Event}
use Rattle.law.specs.declared.event.Event.TheVariants.{Opened, Connected, Joined, Requested, Ticked, Received, Served, Notified, Cleared}
use Rattle.law.specs.History.{Deed, Parties, deeds, live, on_hold, parties, total, all_calls, legs_of, legs_not_on_hold, calls_on_hold}
use Rattle.law.specs.Law.{differs, MarksAgree, HoldsCount, ChannelsCount, RecordsAgree, handled_retrieval, served_retrieval, retrieval, WantsChannel, WantOfChannel, SumsStand, Onward, Stood, Played}
use Rattle.law.specs.Run.{Waiting, State, fresh_state, Sends, Takes, Step, ServedBy, Run}
use Rattle.law.specs.Run.Run.{fresh, then}
use Rattle.law.proofs.Exchange.{Agree, phase_rests, phase_asks, phase_new}
use Rattle.law.proofs.Faces.{Face, spot_in, spot_of, is_some, busy, spot_is, live_is}
use Rattle.law.proofs.Ledger.{Ledger, Tells, hold_count, eqb_same, eqb_apart}
use Rattle.law.proofs.Moves.{faces, fresh_books}
use Rattle.law.proofs.Standings.{Standing}
use Rattle.law.proofs.Standings.Standing.{off, gone}
use Rattle.law.proofs.Table.{shows}
use Rattle.law.proofs.Total.{total_same, total_at, total_zero}
use Rattle.law.proofs.Turn.{stands, standing, stands_on, stands_off, stands_absent, stands_off_absent}
use Rattle.law.proofs.Whole.{Inv, Came, came, step_inv}
use Rattle.law.proofs.Whole.Came.{turned, again, first}

-- agreement, by what the outcomes tell
no_difference : (ds : List Deed) (u last c : ℕ) (o : Option Face) (m : Bool) → Tells ds c o → Agree (stands u last c o) m
    → ((on_hold ds u c && not m) || (live ds c && (m && not (on_hold ds u c)))) ≡ false
no_difference ds u last c None m t a = rw (t.0, t.1 u)
no_difference ds u last c (Some f) m t a = go (spot_in u (Some f)) refl
  where
    quiet : (l m : Bool) → m ≡ false → (l && (m && true)) ≡ false
    quiet true m e = rw e
    quiet false m e = refl

    loud : (l m : Bool) → m ≡ true → ((true && not m) || (l && (m && false))) ≡ false
    loud true m e = rw e
    loud false m e = rw e

    go : (z : Spot) → spot_in u (Some f) ≡ z → ((on_hold ds u c && not m) || (live ds c && (m && not (on_hold ds u c)))) ≡ false
    go OnHold e =
        let h : on_hold ds u c ≡ true = t.1 u ∙ ap is_on_hold e in
        let k : m ≡ true = subst (λ z. Agree z m) (stands_on u last c (Some f) e) a in rw h (loud (live ds c) m k)
    go Talking e =
        let h : on_hold ds u c ≡ false = t.1 u ∙ ap is_on_hold e in
        let k : m ≡ false = subst (λ z. Agree z m) (stands_off u last c (Some f) e) a in rw h (quiet (live ds c) m k)
    go Absent e =
        let h : on_hold ds u c ≡ false = t.1 u ∙ ap is_on_hold e in
        let k : m ≡ false = subst (λ z. Agree z m) (stands_off_absent u last c f e) a in rw h (quiet (live ds c) m k)

total_one : (f : ℕ → ℕ) (n c : ℕ) → ((x : ℕ) → (c ≡ x → ⊥) → f x ≡ 0) → f c ≤ 1 → total f n ≤ 1
total_one f n c h l = go (leb_tells n c)
  where
    zeros : total (λ x. 0) n ≡ 0
    zeros = total_zero (λ x. 0) n (λ x l. refl)

    go : ((leb n c ≡ true) × (n ≤ c)) ⊎ ((leb n c ≡ false) × (c < n)) → total f n ≤ 1
    go (inl i) = let z = total_zero f n (λ x m. h x (λ e. omega (arith, i.1))) in omega arith
    go (inr i) = let z = total_at (λ x. 0) f n c i.1 h in let k = zeros in omega arith

one_small : (b : Bool) → one b ≤ 1
one_small true = omega arith
one_small false = omega arith

-- the legs, by faces and by outcomes
legs_same : (ds : List Deed) (c : ℕ) (o : Option Face) → Tells ds c o → legs_of ds c (parties ds c) ≡ busy o
legs_same ds c None t = go (parties ds c)
  where
    go : (q : Option Parties) → legs_of ds c q ≡ 0
    go None = refl
    go (Some q) = rw t.0
legs_same ds c (Some f) t =
    let a : on_hold ds f.first c ≡ f.held_first = t.1 f.first ∙ (rw (eqb_same f.first) (is_of f.held_first)) in
    let b : on_hold ds f.second c ≡ f.held_second = t.1 f.second ∙ (rw (eqb_apart f.first f.second t.3, eqb_same f.second) (is_of f.held_second)) in
    rw (t.2, t.0, a, b)
  where
    is_of : (h : Bool) → is_on_hold (spot_of h) ≡ h
    is_of true = refl
    is_of false = refl

alive_same : (ds : List Deed) (c : ℕ) (o : Option Face) → Tells ds c o → is_some o ≡ live ds c
alive_same ds c None t = sym t.0
alive_same ds c (Some f) t = sym t.0

shown_same : (ds : List Deed) (v c : ℕ) (o : Option Face) → Tells ds c o → is_on_hold (spot_in v o) ≡ on_hold ds v c
shown_same ds v c None t = sym (t.1 v)
shown_same ds v c (Some f) t = sym (t.1 v)

-- at the start no call stands on hold
free_at : (u c : ℕ) → Agree (stands u 0 c None) false
free_at u c = go (stands_absent u 0 c None refl)
  where
    go : (stands u 0 c None ≡ off) ⊎ (stands u 0 c None ≡ gone) → Agree (stands u 0 c None) false
    go (inl e) = subst (λ z. Agree z false) (sym e) refl
    go (inr e) = subst (λ z. Agree z false) (sym e) tt

-- each of the sums
module _ (limit : ℕ → ℕ) (size : ℕ) (u : User) (ds : List Deed) (p : State) (I : Inv limit size u.0 ds p) where
  φ : ℕ → Option Face
  φ = faces p.switch

  L : Ledger limit size ds (faces p.switch) p.switch.last p.switch.used
  L = I.books.ledger

  abbrev st : ℕ → Standing
  st = standing u.0 (faces p.switch) p.switch.last

  count : calls_on_hold ds u.0 ≡ hold_count (faces p.switch) u.0
  count =
      total_same (λ c. one (is_on_hold (spot_in u.0 (faces p.switch c)))) (λ c. one (on_hold ds u.0 c)) all_calls
      (λ c l. ap one (sym (shown_same ds u.0 c (faces p.switch c) (L.says c))))

  agrees : (r : Request) → p.terminal.request ≡ Some r → (c : ℕ) → (r.call.0 ≡ c → ⊥) → differs ds p.terminal.calls u.0 c ≡ false
  unfolding shows
  agrees r e c d =
      no_difference ds u.0 p.switch.last c (faces p.switch c) (shows p.terminal.calls c) (L.says c) (phase_asks st I.phase r e c d)

  rests : p.terminal.request ≡ None → (c : ℕ) → differs ds p.terminal.calls u.0 c ≡ false
  unfolding shows
  rests e c = no_difference ds u.0 p.switch.last c (faces p.switch c) (shows p.terminal.calls c) (L.says c) (phase_rests st I.phase e c)

  pub marks : MarksAgree u ds p
  marks =
      record {
        none_differs = λ e. total_zero (λ c. one (differs ds p.terminal.calls u.0 c)) all_calls (λ c l. ap one (rests e c));
        one_differs =
            λ r e. total_one (λ c. one (differs ds p.terminal.calls u.0 c)) all_calls r.call.0 (λ c d. ap one (agrees r e c d)) (one_small (differs ds p.terminal.calls u.0 r.call.0));
        that_one = λ r e c h. only r e c h (eqb_tells r.call.0 c);
      }
    where
      only : (r : Request) → p.terminal.request ≡ Some r → (c : ℕ) → differs ds p.terminal.calls u.0 c ≡ true
          → ((eqb r.call.0 c ≡ true) × (r.call.0 ≡ c)) ⊎ ((eqb r.call.0 c ≡ false) × (r.call.0 ≡ c → ⊥)) → c ≡ r.call.0
      only r e c h (inl i) = sym i.1
      only r e c h (inr i) = absurd (true≢false (sym h ∙ agrees r e c i.1))

  pub counts : HoldsCount limit u ds
  counts = record { sum = let i = count in let j = L.holds u.0 in omega arith; limited = let i = count in let j = L.limited u.0 in omega arith }

  pub channels : ChannelsCount size ds p
  channels = record { sum = same_legs; within = subst (λ n. n ≤ size) same_legs L.fits }
    where
      same_legs : p.switch.used ≡ legs_not_on_hold ds
      same_legs =
          L.sum ∙ total_same (λ c. legs_of ds c (parties ds c)) (λ c. busy (faces p.switch c)) all_calls (λ c l. sym (legs_same ds c (faces p.switch c) (L.says c)))

  pub shown : RecordsAgree ds p
  shown =
      record {
        lives = λ c. live_is (find c p.switch.records) ∙ alive_same ds c (faces p.switch c) (L.says c);
        holds = λ v c. ap is_on_hold (spot_is v (find c p.switch.records)) ∙ shown_same ds v c (faces p.switch c) (L.says c);
      }

  -- want of a channel
  is_hold : (z : Spot) → is_on_hold z ≡ true → z ≡ OnHold
  is_hold OnHold e = refl
  is_hold Talking e = absurd (false≢true e)
  is_hold Absent e = absurd (false≢true e)

  in_pool : (b : Bool) → eqb p.switch.used p.switch.size ≡ b → (retrieve_verdict OnHold b ≡ Declined NoChannel) ↔ (legs_not_on_hold ds ≡ size)
  in_pool true e = (λ q. let l = all e in let k = channels.sum in let m = I.books.sized in omega arith, λ q. refl)
    where
      all : eqb p.switch.used p.switch.size ≡ true → p.switch.used ≡ p.switch.size
      all e = grind (arith, nat_tests)
  in_pool false e = (λ q. let z : ◌≡◌ {A = ℕ} 0 1 = cc in absurd (omega arith), λ q. absurd (some e (let k = channels.sum in let m = I.books.sized in omega arith)))
    where
      some : eqb p.switch.used p.switch.size ≡ false → p.switch.used ≡ p.switch.size → ⊥
      some e i = let z = eqb_same p.switch.size in let y : eqb p.switch.size p.switch.size ≡ false = subst (λ n. eqb n p.switch.size ≡ false) i e in true≢false (sym z ∙ y)

  retrieve_want : (v c : ℕ) → on_hold ds v c ≡ true → (on_retrieve p.switch v c ≡ Declined NoChannel) ↔ (legs_not_on_hold ds ≡ size)
  retrieve_want v c h =
      let e : standing_at p.switch v c ≡ OnHold = is_hold (standing_at p.switch v c) (shown.holds v c ∙ h) in
      subst (λ z. (retrieve_verdict z (eqb p.switch.used p.switch.size) ≡ Declined NoChannel) ↔ (legs_not_on_hold ds ≡ size)) (sym e)
      (in_pool (eqb p.switch.used p.switch.size) refl)

  carried_want : (v : ℕ) (i : CallId) (k : Body) (h : Handled) (s₁ : Model) → carry_out (limit v) p.switch v i k ≡ carried h s₁ → WantsChannel size ds (handled_retrieval v h)
  carried_want v i (request_body Hold) h s₁ e =
      let j : Answered Hold i (hold_told (limit v) p.switch v i.0) ≡ h = cc in subst (λ h. WantsChannel size ds (handled_retrieval v h)) j tt
  carried_want v i (request_body Retrieve) h s₁ e =
      let j : Answered Retrieve i (on_retrieve p.switch v i.0) ≡ h = cc in subst (λ h. WantsChannel size ds (handled_retrieval v h)) j (retrieve_want v i.0)
  carried_want v i ClearRequest h s₁ e =
      let j : clear_handled i (party_legs (standing_at p.switch v i.0) (find i.0 p.switch.records)) ≡ h = cc in subst (λ h. WantsChannel size ds (handled_retrieval v h)) j tt
  carried_want v i (Answer o w) h s₁ e = let z : ◌≡◌ {A = ℕ} 0 1 = cc in absurd (omega arith)
  carried_want v i ClearAnswer h s₁ e = let z : ◌≡◌ {A = ℕ} 0 1 = cc in absurd (omega arith)
  carried_want v i (Notice w) h s₁ e = let z : ◌≡◌ {A = ℕ} 0 1 = cc in absurd (omega arith)

  came_want : {v : User} {n : Session} {f : Frame} {s' : Model} {c d : Waiting} {r : Result ServedTold Fault} → Came limit v n f p.switch c d r s' → WantsChannel size ds (served_retrieval v.0 r)
  came_want (turned e i) = tt
  came_want (again g x i j k) = tt
  came_want {v} {n} {f} (first h s₁ x i j k) = carried_want v.0 f.call f.body h s₁ i

  serves_want : (v : User) (n : Session) (s' : Model) (c d : Waiting) (r : Result ServedTold Fault) (z : Result (Option Frame) Fault) → Serves Sends (limit v.0) v n z p.switch s' c d r
      → WantsChannel size ds (served_retrieval v.0 r)
  serves_want v n s' c d r (Err e) k = rw k.0 tt
  serves_want v n s' c d r (Ok None) k = rw k.0 tt
  serves_want v n s' c d r (Ok (Some f)) k = came_want {v = v} {n = n} {f = f} (came limit v n f p.switch s' c d r k)

  serving_want : (v : User) (s' : Model) (a b c d : Waiting) (r : Result ServedTold Fault) (z : Result Session Fault) → ServingBy Takes Sends z (limit v.0) v p.switch s' a b c d r
      → WantsChannel size ds (served_retrieval v.0 r)
  serving_want v s' a b c d r (Err e) k = rw k.0 tt
  serving_want v s' a b c d r (Ok n) k = serves_want v n s' c d r k.came k.serves

  served_want : (v : User) (q : State) (r : Result ServedTold Fault) (z : Bool) → ServedBy z (limit v.0) v p r q → WantsChannel size ds (served_retrieval v.0 r)
  served_want v q r true k = serving_want v q.switch p.up q.up p.down q.down r (serve_checked p.switch v) k.0
  served_want v q r false k = let a = k.0 in serving_want v q.switch a.up a.up_after a.down a.down_after r (serve_checked p.switch v) a.serving

  pub wants : (q : State) (e : Event) → Step limit u p e q → WantsChannel size ds (retrieval e)
  wants q (Served v r) k = served_want v q r (same v.0 u.0) k
  wants q (Opened v r) k = tt
  wants q (Connected c a b r) k = tt
  wants q (Joined c r) k = tt
  wants q (Requested j c r) k = tt
  wants q (Ticked r) k = tt
  wants q (Received r) k = tt
  wants q (Notified v r) k = tt
  wants q (Cleared c r) k = tt

start : (limit : ℕ → ℕ) (size u : ℕ) → Inv limit size u [] (fresh_state size)
unfolding find session
start limit size u = record { books = fresh_books limit size; phase = phase_new (standing u (faces (fresh_state size).switch) 0) (λ c. free_at u c); rising = refl }

run_inv : (limit : ℕ → ℕ) (size : ℕ) (u : User) {es : List Event} {p : State} → Run limit size u es p → Inv limit size u.0 (deeds es) p
run_inv limit size u fresh = start limit size u.0
run_inv limit size u (then {es = es} {e = e} {p = p} {q = q} r s) = step_inv limit size u.0 (deeds es) u refl p q e (run_inv limit size u r) s

run_wants : (limit : ℕ → ℕ) (size : ℕ) (u : User) {es : List Event} {p : State} → Run limit size u es p → WantOfChannel size es
run_wants limit size u fresh = tt
run_wants limit size u (then {es = es} {e = e} {p = p} {q = q} r s) = wants limit size u (deeds es) p (run_inv limit size u r) q e s

pub sums_stand : SumsStand
sums_stand limit size u es p r =
    let I = run_inv limit size u r in
    record {
      marks = marks limit size u (deeds es) p I;
      holds = counts limit size u (deeds es) p I;
      channels = channels limit size u (deeds es) p I;
      records = shown limit size u (deeds es) p I;
      want = run_wants limit size u r;
    }

-- a call after a run, and every prefix of a run
pub onward : (limit : ℕ → ℕ) (size : ℕ) (u : User) {es : List Event} {e : Event} {p q : State} → Step limit u p e q → Run limit size u es p → Onward limit size u e q es
onward limit size u s r = let t = then r s in record { ran = t; sums = sums_stand limit size u _ _ t }

pub stood : (limit : ℕ → ℕ) (size : ℕ) (u : User) {es : List Event} {p : State} → Run limit size u es p → (k : ℕ) → Stood limit size u es k
stood limit size u {es} {p} r zero = record { state = p; ran = r; sums = sums_stand limit size u es p r }
stood limit size u fresh (suc k) = record { state = fresh_state size; ran = fresh; sums = sums_stand limit size u [] (fresh_state size) fresh }
stood limit size u (then r s) (suc k) = let t = stood limit size u r k in record { state = t.state; ran = t.ran; sums = t.sums }

pub played : (limit : ℕ → ℕ) (size : ℕ) (u : User) (es : List Event) (p : State) → Run limit size u (reverse es) p → Played limit size u es p
played limit size u es p r = record { ran = r; sums = sums_stand limit size u (reverse es) p r; always = stood limit size u r }
