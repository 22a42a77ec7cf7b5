-- The exchange between a terminal and a server over two links that lose, repeat and keep the order.
-- It knows of the switch only the standing of each call for this user, the last bit handled and the answer kept. Assumes nothing.
use Rattle.std.proofs.Common.{◌≡◌, ℕ, Bool, true, false, cond, not, eqb, ◌⊎◌, List, [], ◌∷◌, ◌++◌, is_some, Some, None, Ok, Err, Option, Result, sym, refl, ap, ◌∙◌, subst, subst₂, inl, inr, true≢false, arith}
use mathlib.Core.Bool.{beq, false≢true}
use Rattle.std.proofs.lemmas.Bool.Decides.{nat_tests, eqb_tells}
use Rattle.frames.specs.declared.content.Body.{Body}
use Rattle.frames.specs.declared.content.Body.TheVariants.{Request as request_body, Answer, ClearRequest, ClearAnswer, Notice}
use Rattle.frames.specs.declared.content.CallId.{CallId}
use Rattle.frames.specs.declared.content.Cause.{Cause}
use Rattle.frames.specs.declared.content.Cause.TheVariants.{NotSubscribed, LimitReached, CallNotThere, AlreadyOnHold, NotOnHold, NoChannel}
use Rattle.frames.specs.declared.content.Frame.{Frame}
use Rattle.frames.specs.declared.content.News.{News}
use Rattle.frames.specs.declared.content.News.TheVariants.{PutOnHold, Retrieved, Released}
use Rattle.links.specs.Thinned.{Thinned}
use Rattle.signalling.specs.Ask.{asked_by, ask_of, body_for, same_ask}
use Rattle.signalling.specs.declared.ask.Ask.{Ask}
use Rattle.signalling.specs.declared.ask.Ask.TheVariants.{Hold, Retrieve, Clear}
use Rattle.terminal.specs.Arriving.{effect_of, heard, counts, state_of, informed, receives}
use Rattle.terminal.specs.Asking.{request_checked, call_checked, opens, opening, content, ticks, due, repeated, waited, with_request, Asks as AskingBy, Ticks as TickingBy, TicksBy}
use Rattle.terminal.specs.Calls.{find}
use Rattle.terminal.specs.State.{Model, connects, unmarked}
use Rattle.terminal.specs.declared.call.Call.{Call}
use Rattle.terminal.specs.declared.request.Request.{Request}
use Rattle.terminal.specs.declared.told.Ticked.{Ticked}
use Rattle.text.specs.Fault.{in_terminal}
use Rattle.text.specs.declared.fault.Fault.{Fault}
use Rattle.law.specs.Run.{Waiting, Sends}
use Rattle.law.proofs.Standings.{Standing, Drifts, Did, NewsTrue}
use Rattle.law.proofs.Standings.Standing.{on, off, gone}
use Rattle.law.proofs.Standings.Drifts.{stays, fades}
use Rattle.law.proofs.Standings.Did.{held, not_held_off, not_held_gone, not_held_on, back, not_back_off, not_back_gone, not_back_on, over, not_over}
use Rattle.law.proofs.Thin.{Content, said, All, Then, Added, all_thin, then_thin, all_map, then_map, then_turn, all_head, then_head, all_added, then_added, telling_added}
use Rattle.law.proofs.Thin.All.{all_none}
use Rattle.law.proofs.Thin.Then.{now}
use Rattle.law.proofs.Once.{Once}
use Rattle.law.proofs.Table.{has, shows, settle, mark_by, mark_after, shows_add, has_add, shows_settle, shows_settle_here, settle_alike, Alike, informed_same}

-- a mark of the terminal agrees with a standing
abbrev pub Agree : Standing → Bool → Type 0
Agree on m = m ≡ true
Agree off m = m ≡ false
Agree gone m = Unit {0}

-- what the frame with a body answers
abbrev pub answered_ask : Body → Option Ask
answered_ask (Answer o v) = Some (asked_by o)
answered_ask ClearAnswer = Some Clear
answered_ask (request_body o) = None
answered_ask ClearRequest = None
answered_ask (Notice w) = None

-- a notice, with true news
abbrev pub NewsOf : (ℕ → Standing) → ℕ → Body → Type 0
NewsOf st c (Notice w) = NewsTrue st c w
NewsOf st c (Answer o v) = ⊥
NewsOf st c ClearAnswer = ⊥
NewsOf st c (request_body o) = ⊥
NewsOf st c ClearRequest = ⊥

-- a frame with the bit b
abbrev pub Asks : Bool → Content → Type 0
Asks b (Ok f) = f.exchange ≡ b
Asks b (Err e) = ⊥

-- an answer with the bit b
abbrev pub Bit : Bool → Frame → Type 0
Bit b f = (f.exchange ≡ b) × (is_some (answered_ask f.body) ≡ true)

-- such an answer, or true news
abbrev pub Early : Bool → (ℕ → Standing) → Content → Type 0
Early b st (Ok f) = Bit b f ⊎ NewsOf st f.call.0 f.body
Early b st (Err e) = ⊥

-- this very answer, or true news
abbrev pub Late : Frame → (ℕ → Standing) → Content → Type 0
Late g st (Ok f) = (f ≡ g) ⊎ NewsOf st f.call.0 f.body
Late g st (Err e) = ⊥

abbrev pub KeptBit : Bool → Option Frame → Type 0
KeptBit b None = Unit {0}
KeptBit b (Some g) = Bit b g

abbrev pub term : List Call → ℕ → Option Request → Bool → Model
term xs n r b = record { calls = xs; last = n; request = r; exchange = b }

abbrev pub TheAsk : Request → Bool → Content → Type 0
TheAsk r b f = f ≡ Ok (content r b)

abbrev pub the_answer : Request → Bool → Body → Frame
the_answer r b a = record { exchange = b; call = r.call; body = a }

-- the request's call is in the table, unless it was cleared
abbrev pub Known : (ℕ → Standing) → List Call → ℕ → Type 0
Known st xs c = (has xs c ≡ true) ⊎ (st c ≡ gone)

abbrev pub Settled : (ℕ → Standing) → List Call → Type 0
Settled st xs = (c : ℕ) → Agree (st c) (shows xs c)

-- the invariant: nothing is open; a request is open and not yet handled; a request is open and handled.
-- The switch's last bit, the kept answer, the terminal, the link up, the link down
pub data Phase (st : ℕ → Standing) : Bool → Option Frame → Model → Waiting → Waiting → Type 0 where
  resting : {xs : List Call} {n : ℕ} {b : Bool} {kept : Option Frame} {up down : Waiting}
      → All (Asks (not b)) up
      → All (Early (not b) st) down
      → KeptBit (not b) kept
      → Settled st xs
      → Phase st (not b) kept (term xs n None b) up down
  waiting : {xs : List Call} {n : ℕ} {r : Request} {b : Bool} {kept : Option Frame} {up down : Waiting}
      → Then (Asks (not b)) (TheAsk r b) up
      → All (Early (not b) st) down
      → KeptBit (not b) kept
      → Known st xs r.call.0
      → Settled st xs
      → Phase st (not b) kept (term xs n (Some r) b) up down
  handled : {xs : List Call} {n : ℕ} {r : Request} {b : Bool} {a : Body} {up down : Waiting}
      → answered_ask a ≡ Some r.ask
      → All (TheAsk r b) up
      → Then (Early (not b) st) (Late (the_answer r b a) st) down
      → Known st xs r.call.0
      → Settled st (settle a r.call.0 xs)
      → Phase st b (Some (the_answer r b a)) (term xs n (Some r) b) up down

-- drift

agree_drift : {s s' : Standing} (m : Bool) → Drifts s s' → Agree s m → Agree s' m
agree_drift m stays h = h
agree_drift m fades h = tt

gone_drift : {s s' : Standing} → Drifts s s' → s ≡ gone → s' ≡ gone
gone_drift stays e = e
gone_drift fades e = refl

module _ (st st' : ℕ → Standing) (d : (c : ℕ) → st c ≡ gone → st' c ≡ gone) where
  news_drift : (c : ℕ) (n : News) → NewsTrue st c n → NewsTrue st' c n
  news_drift c PutOnHold h = tt
  news_drift c Retrieved h = tt
  news_drift c Released h = d c h

  notice_drift : (c : ℕ) (a : Body) → NewsOf st c a → NewsOf st' c a
  notice_drift c (Notice w) h = news_drift c w h
  notice_drift c (Answer o v) h = h
  notice_drift c ClearAnswer h = h
  notice_drift c (request_body o) h = h
  notice_drift c ClearRequest h = h

  early_drift : (b : Bool) (f : Content) → Early b st f → Early b st' f
  early_drift b (Ok f) (inl h) = inl h
  early_drift b (Ok f) (inr h) = inr (notice_drift f.call.0 f.body h)
  early_drift b (Err e) h = h

  late_drift : (g : Frame) (f : Content) → Late g st f → Late g st' f
  late_drift g (Ok f) (inl h) = inl h
  late_drift g (Ok f) (inr h) = inr (notice_drift f.call.0 f.body h)
  late_drift g (Err e) h = h

  known_drift : (xs : List Call) (c : ℕ) → Known st xs c → Known st' xs c
  known_drift xs c (inl h) = inl h
  known_drift xs c (inr h) = inr (d c h)

module _ (st st' : ℕ → Standing) (d : (c : ℕ) → Drifts (st c) (st' c)) where
  goes : (c : ℕ) → st c ≡ gone → st' c ≡ gone
  goes c e = gone_drift (d c) e

  settled_drift : (xs : List Call) → Settled st xs → Settled st' xs
  settled_drift xs h c = agree_drift (shows xs c) (d c) (h c)

  pub phase_drift : {l : Bool} {kept : Option Frame} {t : Model} {up down : Waiting} → Phase st l kept t up down → Phase st' l kept t up down
  phase_drift (resting {xs = xs} {b = b} a e k s) = resting a (all_map (early_drift st st' goes (not b)) e) k (settled_drift xs s)
  phase_drift (waiting {xs = xs} {r = r} {b = b} a e k w s) = waiting a (all_map (early_drift st st' goes (not b)) e) k (known_drift st st' goes xs r.call.0 w) (settled_drift xs s)
  phase_drift (handled {xs = xs} {r = r} {b = b} {a = y} i a e w s) =
      handled i a (then_map (early_drift st st' goes (not b)) (late_drift st st' goes (the_answer r b y)) e) (known_drift st st' goes xs r.call.0 w) (settled_drift (settle y r.call.0 xs) s)

-- an answer with the other bit does not count; the answer to the request does
other_bit : (b b' : Bool) → b' ≡ not b → beq b b' ≡ false
other_bit true true e = e
other_bit true false e = refl
other_bit false true e = refl
other_bit false false e = sym e

beq_self : (b : Bool) → beq b b ≡ true
beq_self true = refl
beq_self false = refl

beq_apart : (b b' : Bool) → b' ≡ b → beq b' b ≡ false → ⊥
beq_apart true true e h = true≢false h
beq_apart true false e h = false≢true e
beq_apart false true e h = true≢false e
beq_apart false false e h = true≢false h

ask_self : (k : Ask) → same_ask k k ≡ true
ask_self Hold = refl
ask_self Retrieve = refl
ask_self Clear = refl

counts_old : (r : Request) (b : Bool) (k : Ask) (f : Frame) → f.exchange ≡ not b → counts r b k f ≡ false
counts_old r b k f e = rw (other_bit b f.exchange e)

eqb_self : (c : ℕ) → eqb c c ≡ true
eqb_self c = grind (arith, nat_tests)

counts_self : (r : Request) (b : Bool) (a : Body) (k : Ask) → k ≡ r.ask → counts r b k (the_answer r b a) ≡ true
counts_self r b a k e = rw (e, beq_self b, eqb_self r.call.0, ask_self r.ask)

some_ask : {j k : Ask} → ◌≡◌ {A = Option Ask} (Some j) (Some k) → j ≡ k
some_ask e = cc

-- a request and its answer agree on what is asked
pub did_ask : {q a : Body} {s s' : Standing} → Did q a s s' → answered_ask a ≡ ask_of q
did_ask held = refl
did_ask not_held_off = refl
did_ask not_held_gone = refl
did_ask not_held_on = refl
did_ask back = refl
did_ask not_back_off = refl
did_ask not_back_gone = refl
did_ask not_back_on = refl
did_ask over = refl
did_ask not_over = refl

ask_of_body : (k : Ask) → ask_of (body_for k) ≡ Some k
ask_of_body Hold = refl
ask_of_body Retrieve = refl
ask_of_body Clear = refl

did_gone : {q a : Body} {s s' : Standing} → Did q a s s' → s ≡ gone → s' ≡ gone
did_gone held e = let z : ◌≡◌ {A = ℕ} 0 1 = cc in absurd (omega arith)
did_gone not_held_off e = e
did_gone not_held_gone e = refl
did_gone not_held_on e = e
did_gone back e = let z : ◌≡◌ {A = ℕ} 0 1 = cc in absurd (omega arith)
did_gone not_back_off e = e
did_gone not_back_gone e = refl
did_gone not_back_on e = e
did_gone over e = refl
did_gone not_over e = e

still_unset : (x : Cause) (m : Bool) → m ≡ false → mark_by x m ≡ false
still_unset NotSubscribed m e = e
still_unset LimitReached m e = e
still_unset CallNotThere m e = refl
still_unset AlreadyOnHold m e = e
still_unset NotOnHold m e = e
still_unset NoChannel m e = e

-- what a fresh serve did and what its answer will do to the mark come to the same
did_agree : {q a : Body} {s s' : Standing} (h m : Bool) → Did q a s s' → (h ≡ true) ⊎ (s ≡ gone) → Agree s m → Agree s' (mark_after a h m)
did_agree h m held (inl e) g = e
did_agree h m held (inr e) g = let z : ◌≡◌ {A = ℕ} 0 1 = cc in absurd (omega arith)
did_agree h m (not_held_off {x = x}) w g = still_unset x m g
did_agree h m not_held_gone w g = tt
did_agree h m not_held_on w g = g
did_agree h m back w g = refl
did_agree h m (not_back_off {x = x}) w g = still_unset x m g
did_agree h m not_back_gone w g = tt
did_agree h m not_back_on w g = g
did_agree h m over w g = tt
did_agree h m not_over w g = refl

module _ (st : ℕ → Standing) where
  -- the links by themselves
  pub phase_up : {l : Bool} {kept : Option Frame} {t : Model} {up up' down : Waiting} → Thinned up up' → Phase st l kept t up down → Phase st l kept t up' down
  phase_up th (resting a e k s) = resting (all_thin a th) e k s
  phase_up th (waiting a e k w s) = waiting (then_thin a th) e k w s
  phase_up th (handled i a e w s) = handled i (all_thin a th) e w s

  pub phase_down : {l : Bool} {kept : Option Frame} {t : Model} {up down down' : Waiting} → Thinned down down' → Phase st l kept t up down → Phase st l kept t up down'
  phase_down th (resting a e k s) = resting a (all_thin e th) k s
  phase_down th (waiting a e k w s) = waiting a (all_thin e th) k w s
  phase_down th (handled i a e w s) = handled i a (then_thin e th) w s

  -- a notice is sent
  pub phase_notice : {l : Bool} {kept : Option Frame} {t : Model} {up down down' : Waiting} (g : Frame) → NewsOf st g.call.0 g.body
      → Added g down down' → Phase st l kept t up down → Phase st l kept t up down'
  phase_notice g h s (resting {b = b} a e k y) = resting a (all_added {P = Early (not b) st} e (inr h) s) k y
  phase_notice g h s (waiting {b = b} a e k w y) = waiting a (all_added {P = Early (not b) st} e (inr h) s) k w y
  phase_notice g h s (handled {r = r} {b = b} {a = z} i a e w y) = handled i a (then_added {P = Early (not b) st} {Q = Late (the_answer r b z) st} e (inr h) s) w y

  -- connecting at the terminal
  agree_gone : (x : ℕ) (m : Bool) → st x ≡ gone → Agree (st x) m
  agree_gone x m e = subst (λ s. Agree s m) (sym e) tt

  -- the settled marks stay right where the table stays alike, or the call is gone
  settled_by : (a : Body) (d : ℕ) (xs ys : List Call) → Once xs → Once ys → ((x : ℕ) → Alike d xs ys x ⊎ (st x ≡ gone)) → Settled st (settle a d xs) → Settled st (settle a d ys)
  settled_by a d xs ys o o' h s x = go (h x)
    where
      go : Alike d xs ys x ⊎ (st x ≡ gone) → Agree (st x) (shows (settle a d ys) x)
      go (inl e) = subst (Agree (st x)) (sym (settle_alike a d x xs ys o o' e)) (s x)
      go (inr e) = agree_gone x (shows (settle a d ys) x) e

  added : (c : CallId) (xs : List Call) → Settled st xs → Settled st (xs ++ unmarked c ∷ [])
  added c xs s x = subst (Agree (st x)) (sym (shows_add c x xs)) (s x)

  still_known : (c : CallId) (d : ℕ) (xs : List Call) → Known st xs d → Known st (xs ++ unmarked c ∷ []) d
  still_known c d xs (inl h) = inl (has_add c d xs ∙ ap (λ z. cond z true (eqb c.0 d)) h)
  still_known c d xs (inr h) = inr h

  added_alike : (c : CallId) (d : ℕ) (xs : List Call) → Known st xs d → (x : ℕ) → Alike d xs (xs ++ unmarked c ∷ []) x ⊎ (st x ≡ gone)
  added_alike c d xs (inl h) x = inl (shows_add c x xs, λ e. let h' : has xs x ≡ true = subst (λ z. has xs z ≡ true) e h in has_add c x xs ∙ (rw h' refl))
  added_alike c d xs (inr h) x = go (eqb_tells d x)
    where
      go : ((eqb d x ≡ true) × (d ≡ x)) ⊎ ((eqb d x ≡ false) × (d ≡ x → ⊥)) → Alike d xs (xs ++ unmarked c ∷ []) x ⊎ (st x ≡ gone)
      go (inl e) = inr (rw e.1 at h)
      go (inr e) = inl (shows_add c x xs, λ q. absurd (e.1 q))

  pub phase_connect : {l : Bool} {kept : Option Frame} {t : Model} {up down : Waiting} (z : Result Unit Fault) (c : CallId) → Once t.calls → Once (connects z t c).calls → Phase st l kept t up down → Phase st l kept (connects z t c) up down
  phase_connect (Ok u) c o o' (resting {xs = xs} a e k s) = resting a e k (added c xs s)
  phase_connect (Ok u) c o o' (waiting {xs = xs} {r = r} a e k w s) = waiting a e k (still_known c r.call.0 xs w) (added c xs s)
  phase_connect (Ok u) c o o' (handled {xs = xs} {r = r} {a = y} i a e w s) =
      handled i a e (still_known c r.call.0 xs w) (settled_by y r.call.0 xs (xs ++ unmarked c ∷ []) o o' (added_alike c r.call.0 xs w) s)
  phase_connect (Err x) c o o' h = h

  -- requesting
  checked_has : (k : Ask) (c : ℕ) (xs : List Call) (u : Unit) → call_checked k (find c xs) ≡ Ok u → has xs c ≡ true
  unfolding has
  checked_has k c xs u q = go (find c xs) q
    where
      go : (o : Option Call) → call_checked k o ≡ Ok u → is_some o ≡ true
      go None q = let z : ◌≡◌ {A = ℕ} 0 1 = cc in absurd (omega arith)
      go (Some x) q = refl

  no_request : (u : Unit) → ◌≡◌ {A = Result Unit Fault} (Err (in_terminal 22)) (Ok u) → ⊥
  no_request u q = let z : ◌≡◌ {A = ℕ} 0 1 = cc in omega arith

  ask_phase : {l : Bool} {kept : Option Frame} {t : Model} {up up' down : Waiting} (k : Ask) (c : CallId) (u : Unit)
      → request_checked t k c ≡ Ok u → Added (content (opening k c) t.exchange) up up' → Phase st l kept t up down
      → Phase st l kept (with_request (Some (opening k c)) t) up' down
  ask_phase k c u q d (resting {xs = xs} {b = b} a e y s) =
      waiting (then_added {P = Asks (not b)} {Q = TheAsk (opening k c) b} (then_turn a) refl d) e y (inl (checked_has k c.0 xs u q)) s
  ask_phase k c u q d (waiting a e y w s) = absurd (no_request u q)
  ask_phase k c u q d (handled i a e w s) = absurd (no_request u q)

  pub phase_ask : {l : Bool} {kept : Option Frame} {t : Model} {up up' down : Waiting} (k : Ask) (c : CallId) (z : Result Unit Fault) (r : Result (Option Fault) Fault)
      → request_checked t k c ≡ z → AskingBy Sends z (content (opening k c) t.exchange) up up' r → Phase st l kept t up down → Phase st l kept (opens z t k c) up' down
  phase_ask {l} {kept} {t} {up} {up'} {down} k c (Err x) r q h p = subst (λ w. Phase st l kept t w down) (sym h.1) p
  phase_ask k c (Ok u) (Ok told) q h p = ask_phase k c u q (telling_added h) p
  phase_ask k c (Ok u) (Err x) q h p = absurd h

  -- ticking
  tick_phase : {l : Bool} {kept : Option Frame} {t : Model} {up up' down : Waiting} (d : Bool) (q : Request) (r : Ticked) → t.request ≡ Some q
      → TicksBy Sends d q t.exchange up up' r → Phase st l kept t up down → Phase st l kept (with_request (Some (cond d (repeated q) (waited q))) t) up' down
  tick_phase d q r i h (resting a e y s) = let z : ◌≡◌ {A = ℕ} 0 1 = cc in absurd (omega arith)
  tick_phase {l} {kept} {t} {up} {up'} {down} true q r i h (waiting {xs = xs} {n = n} {r = q'} {b = b} a e y w s) =
      let j : q' ≡ q = cc in
      subst (λ q. Added (content q b) up up' → Phase st (not b) kept (term xs n (Some (repeated q)) b) up' down) j
      (λ d. waiting (then_added {P = Asks (not b)} {Q = TheAsk q' b} a refl d) e y w s) (telling_added h.telling)
  tick_phase {l} {kept} {t} {up} {up'} {down} false q r i h (waiting {xs = xs} {n = n} {r = q'} {b = b} a e y w s) =
      let j : q' ≡ q = cc in
      subst₂ (λ q w. Phase st (not b) kept (term xs n (Some (waited q)) b) w down) j (sym h.1) (waiting a e y w s)
  tick_phase {l} {kept} {t} {up} {up'} {down} true q r i h (handled {xs = xs} {n = n} {r = q'} {b = b} {a = v} k a e w s) =
      let j : q' ≡ q = cc in
      subst (λ q. Added (content q b) up up' → Phase st b (Some (the_answer q' b v)) (term xs n (Some (repeated q)) b) up' down) j
      (λ d. handled k (all_added {P = TheAsk q' b} a refl d) e w s) (telling_added h.telling)
  tick_phase {l} {kept} {t} {up} {up'} {down} false q r i h (handled {xs = xs} {n = n} {r = q'} {b = b} {a = v} k a e w s) =
      let j : q' ≡ q = cc in
      subst₂ (λ q w. Phase st b (Some (the_answer q' b v)) (term xs n (Some (waited q)) b) w down) j (sym h.1) (handled k a e w s)

  pub phase_tick : {l : Bool} {kept : Option Frame} {t : Model} {up up' down : Waiting} (o : Option Request) (r : Ticked) → t.request ≡ o
      → TickingBy Sends o t.exchange up up' r → Phase st l kept t up down → Phase st l kept (ticks o t) up' down
  phase_tick {l} {kept} {t} {up} {up'} {down} None r i h p = subst (λ w. Phase st l kept t w down) (sym h.1) p
  phase_tick (Some q) r i h p = tick_phase (due q) q r i h p

  -- receiving
  closing : {xs : List Call} {n : ℕ} {kept : Option Frame} {up down : Waiting} (b : Bool) → All (Asks b) up → All (Early b st) down → KeptBit b kept → Settled st xs
      → Phase st b kept (term xs n None (not b)) up down
  closing true a e k s = resting a e k s
  closing false a e k s = resting a e k s

  informed_alike : (w : News) (c d : ℕ) (xs : List Call) → NewsTrue st c w → (x : ℕ) → Alike d xs (informed w c xs) x ⊎ (st x ≡ gone)
  informed_alike w c d xs h x = go (informed_same w c x xs)
    where
      gone_at : (m : News) → NewsTrue st c m → m ≡ Released → st c ≡ gone
      gone_at PutOnHold h e = let z : ◌≡◌ {A = ℕ} 0 1 = cc in absurd (omega arith)
      gone_at Retrieved h e = let z : ◌≡◌ {A = ℕ} 0 1 = cc in absurd (omega arith)
      gone_at Released h e = h

      go : ((has (informed w c xs) x ≡ has xs x) × (shows (informed w c xs) x ≡ shows xs x)) ⊎ ((w ≡ Released) × (c ≡ x)) → Alike d xs (informed w c xs) x ⊎ (st x ≡ gone)
      go (inl e) = inl (e.1, λ q. e.0)
      go (inr e) = inr (rw e.1 at (gone_at w h e.0))

  learnt : (w : News) (c : ℕ) (xs : List Call) → NewsTrue st c w → Settled st xs → Settled st (informed w c xs)
  learnt w c xs h s x = go (informed_alike w c x xs h x)
    where
      go : Alike x xs (informed w c xs) x ⊎ (st x ≡ gone) → Agree (st x) (shows (informed w c xs) x)
      go (inl e) = subst (Agree (st x)) (sym e.0) (s x)
      go (inr e) = agree_gone x (shows (informed w c xs) x) e

  learnt_known : (w : News) (c d : ℕ) (xs : List Call) → NewsTrue st c w → Known st xs d → Known st (informed w c xs) d
  learnt_known w c d xs h (inr g) = inr g
  learnt_known w c d xs h (inl g) = go (informed_alike w c d xs h d)
    where
      go : Alike d xs (informed w c xs) d ⊎ (st d ≡ gone) → Known st (informed w c xs) d
      go (inl e) = inl (e.1 refl ∙ g)
      go (inr e) = inr e

  -- a notice is heard in every phase alike
  hear_phase : {l : Bool} {kept : Option Frame} {t : Model} {up down : Waiting} (q : Option Call) (c : CallId) (w : News) → NewsTrue st c.0 w → Once t.calls → Once (state_of (heard q c w) t).calls → Phase st l kept t up down
      → Phase st l kept (state_of (heard q c w) t) up down
  hear_phase (Some x) c w h o o' (resting {xs = xs} a e y s) = resting a e y (learnt w c.0 xs h s)
  hear_phase (Some x) c w h o o' (waiting {xs = xs} {r = r} a e y k s) = waiting a e y (learnt_known w c.0 r.call.0 xs h k) (learnt w c.0 xs h s)
  hear_phase (Some x) c w h o o' (handled {xs = xs} {r = r} {a = v} i a e k s) =
      handled i a e (learnt_known w c.0 r.call.0 xs h k) (settled_by v r.call.0 xs (informed w c.0 xs) o o' (informed_alike w c.0 r.call.0 xs h) s)
  hear_phase None c w h o o' p = p

  news_phase : {l : Bool} {kept : Option Frame} {t : Model} {up down : Waiting} (f : Frame) (q : Option Request) (a : Body) → NewsOf st f.call.0 a → Once t.calls → Once (state_of (effect_of t f q a) t).calls → Phase st l kept t up down
      → Phase st l kept (state_of (effect_of t f q a) t) up down
  news_phase {t = t} f None (Notice w) h o o' p = hear_phase (find f.call.0 t.calls) f.call w h o o' p
  news_phase {t = t} f (Some q) (Notice w) h o o' p = hear_phase (find f.call.0 t.calls) f.call w h o o' p
  news_phase f q (Answer k v) h o o' p = absurd h
  news_phase f q ClearAnswer h o o' p = absurd h
  news_phase f q (request_body k) h o o' p = absurd h
  news_phase f q ClearRequest h o o' p = absurd h

  -- an answer with the other bit changes nothing
  old_same : (t : Model) (f : Frame) (o : Option Request) (a : Body) → f.exchange ≡ not t.exchange → is_some (answered_ask a) ≡ true → state_of (effect_of t f o a) t ≡ t
  old_same t f None (Answer k v) e i = refl
  old_same t f None ClearAnswer e i = refl
  old_same t f (Some q) (Answer k v) e i = rw (counts_old q t.exchange (asked_by k) f e)
  old_same t f (Some q) ClearAnswer e i = rw (counts_old q t.exchange Clear f e)
  old_same t f o (request_body k) e i = absurd (false≢true i)
  old_same t f o ClearRequest e i = absurd (false≢true i)
  old_same t f o (Notice w) e i = absurd (false≢true i)

  early_phase : {l : Bool} {kept : Option Frame} {t : Model} {up down : Waiting} (f : Frame) → Early (not t.exchange) st (Ok f) → Once t.calls → Once (receives t (Ok (Some f))).calls → Phase st l kept t up down
      → Phase st l kept (receives t (Ok (Some f))) up down
  early_phase {l} {kept} {t} {up} {down} f (inl h) o o' p = subst (λ z. Phase st l kept z up down) (sym (old_same t f t.request f.body h.0 h.1)) p
  early_phase {t = t} f (inr h) o o' p = news_phase f t.request f.body h o o' p

  late_asks : (r : Request) (b : Bool) {up : Waiting} → All (TheAsk r b) up → All (Asks b) up
  late_asks r b a = all_map (λ f e. subst (Asks b) (sym e) refl) a

  some_true : {k : Ask} (o : Option Ask) → o ≡ Some k → is_some o ≡ true
  some_true None e = let z : ◌≡◌ {A = ℕ} 0 1 = cc in absurd (omega arith)
  some_true (Some j) e = refl

  late_early : (r : Request) (b : Bool) (y : Body) → answered_ask y ≡ Some r.ask → (f : Content) → Late (the_answer r b y) st f → Early b st f
  late_early r b y i (Ok f) (inl h) = subst (λ z. Early b st (Ok z)) (sym h) (inl (refl, some_true (answered_ask y) i))
  late_early r b y i (Ok f) (inr h) = inr h
  late_early r b y i (Err x) h = h

  -- the answer to the open request closes it
  closes : (xs : List Call) (n : ℕ) (r : Request) (b : Bool) (y : Body) → answered_ask y ≡ Some r.ask
      → state_of (effect_of (term xs n (Some r) b) (the_answer r b y) (Some r) y) (term xs n (Some r) b) ≡ term (settle y r.call.0 xs) n None (not b)
  unfolding settle
  closes xs n r b (Answer o v) i = rw (counts_self r b (Answer o v) (asked_by o) (some_ask i))
  closes xs n r b ClearAnswer i = rw (counts_self r b ClearAnswer Clear (some_ask i))
  closes xs n r b (request_body o) i = let z : ◌≡◌ {A = ℕ} 0 1 = cc in absurd (omega arith)
  closes xs n r b ClearRequest i = let z : ◌≡◌ {A = ℕ} 0 1 = cc in absurd (omega arith)
  closes xs n r b (Notice w) i = let z : ◌≡◌ {A = ℕ} 0 1 = cc in absurd (omega arith)

  late_phase : (xs : List Call) (n : ℕ) (r : Request) (b : Bool) (y : Body) (up down : Waiting) (f : Frame) → answered_ask y ≡ Some r.ask → All (TheAsk r b) up
      → Late (the_answer r b y) st (Ok f) → All (Late (the_answer r b y) st) down → Known st xs r.call.0 → Settled st (settle y r.call.0 xs)
      → Once xs → Once (receives (term xs n (Some r) b) (Ok (Some f))).calls → Phase st b (Some (the_answer r b y)) (receives (term xs n (Some r) b) (Ok (Some f))) up down
  late_phase xs n r b y up down f i a (inl h) e w s o o' =
      subst (λ f. Phase st b (Some (the_answer r b y)) (receives (term xs n (Some r) b) (Ok (Some f))) up down) (sym h)
      (subst (λ t. Phase st b (Some (the_answer r b y)) t up down) (sym (closes xs n r b y i))
      (closing b (late_asks r b a) (all_map (late_early r b y i) e) (refl, some_true (answered_ask y) i) s))
  late_phase xs n r b y up down f i a (inr h) e w s o o' = news_phase f (Some r) f.body h o o' (handled i a (now e) w s)

  pub phase_receive : {l : Bool} {kept : Option Frame} {t : Model} {up down : Waiting} (bytes : List ℕ) (f : Frame) → said bytes ≡ Ok f → Once t.calls → Once (receives t (Ok (Some f))).calls
      → Phase st l kept t up (bytes ∷ down) → Phase st l kept (receives t (Ok (Some f))) up down
  phase_receive bytes f i o o' (resting {b = b} a e y s) = let h = all_head e in early_phase f (subst (Early (not b) st) i h.0) o o' (resting a h.1 y s)
  phase_receive bytes f i o o' (waiting {b = b} a e y w s) = let h = all_head e in early_phase f (subst (Early (not b) st) i h.0) o o' (waiting a h.1 y w s)
  phase_receive {l} {kept} {t} {up} {down} bytes f i o o' (handled {xs = xs} {n = n} {r = r} {b = b} {a = v} j a e w s) = go (then_head e)
    where
      go : (Early (not b) st (said bytes) × Then (Early (not b) st) (Late (the_answer r b v) st) down) ⊎ (Late (the_answer r b v) st (said bytes) × All (Late (the_answer r b v) st) down)
          → Phase st b (Some (the_answer r b v)) (receives (term xs n (Some r) b) (Ok (Some f))) up down
      go (inl h) = early_phase f (subst (Early (not b) st) i h.0) o o' (handled j a h.1 w s)
      go (inr h) = late_phase xs n r b v up down f j a (subst (Late (the_answer r b v) st) i h.0) h.1 w s o o'

  -- a frame that is taken from a link is gone from it
  pub phase_dropped : {l : Bool} {kept : Option Frame} {t : Model} {up down : Waiting} (bytes : List ℕ) → Phase st l kept t up (bytes ∷ down) → Phase st l kept t up down
  phase_dropped bytes (resting a e y s) = resting a (all_head e).1 y s
  phase_dropped bytes (waiting a e y w s) = waiting a (all_head e).1 y w s
  phase_dropped {l} {kept} {t} {up} {down} bytes (handled {xs = xs} {n = n} {r = r} {b = b} {a = v} j a e w s) = go (then_head e)
    where
      go : (Early (not b) st (said bytes) × Then (Early (not b) st) (Late (the_answer r b v) st) down) ⊎ (Late (the_answer r b v) st (said bytes) × All (Late (the_answer r b v) st) down)
          → Phase st b (Some (the_answer r b v)) (term xs n (Some r) b) up down
      go (inl h) = handled j a h.1 w s
      go (inr h) = handled j a (now h.1) w s

  pub phase_taken : {l : Bool} {kept : Option Frame} {t : Model} {up down : Waiting} (bytes : List ℕ) → Phase st l kept t (bytes ∷ up) down → Phase st l kept t up down
  phase_taken bytes (resting a e y s) = resting (all_head a).1 e y s
  phase_taken {l} {kept} {t} {up} {down} bytes (waiting {xs = xs} {n = n} {r = r} {b = b} a e y w s) = go (then_head a)
    where
      go : (Asks (not b) (said bytes) × Then (Asks (not b)) (TheAsk r b) up) ⊎ (TheAsk r b (said bytes) × All (TheAsk r b) up) → Phase st (not b) kept (term xs n (Some r) b) up down
      go (inl h) = waiting h.1 e y w s
      go (inr h) = waiting (now h.1) e y w s
  phase_taken bytes (handled i a e w s) = handled i (all_head a).1 e w s

  -- a repeat: the kept answer is sent again
  pub phase_repeat : {l : Bool} {g : Frame} {t : Model} {up down down' : Waiting} → Phase st l (Some g) t up down → Added g down down' → Phase st l (Some g) t up down'
  phase_repeat (resting {b = b} a e y s) q = resting a (all_added {P = Early (not b) st} e (inl y) q) y s
  phase_repeat (waiting {b = b} a e y w s) q = waiting a (all_added {P = Early (not b) st} e (inl y) q) y w s
  phase_repeat (handled {r = r} {b = b} {a = v} i a e w s) q = handled i a (then_added {P = Early (not b) st} {Q = Late (the_answer r b v) st} e (inl refl) q) w s

  -- what the phase says of the marks
  pub phase_rests : {l : Bool} {kept : Option Frame} {t : Model} {up down : Waiting} → Phase st l kept t up down → t.request ≡ None → (c : ℕ) → Agree (st c) (shows t.calls c)
  phase_rests (resting a e y s) q c = s c
  phase_rests (waiting a e y w s) q c = s c
  phase_rests (handled {r = r} i a e w s) q c = let z : ◌≡◌ {A = ℕ} 0 1 = cc in absurd (omega arith)

  some_same : {r r' : Request} → ◌≡◌ {A = Option Request} (Some r) (Some r') → r ≡ r'
  some_same q = cc

  pub phase_asks : {l : Bool} {kept : Option Frame} {t : Model} {up down : Waiting} → Phase st l kept t up down → (r : Request) → t.request ≡ Some r
      → (c : ℕ) → (r.call.0 ≡ c → ⊥) → Agree (st c) (shows t.calls c)
  phase_asks (resting a e y s) r q c n = s c
  phase_asks (waiting a e y w s) r q c n = s c
  phase_asks (handled {xs = xs} {r = r'} {a = v} i a e w s) r q c n =
      let j : r' ≡ r = some_same q in
      let k : r'.call.0 ≡ r.call.0 = ap (λ z. z.call.0) j in
      subst (Agree (st c)) (shows_settle v r'.call.0 c xs (λ z. n (sym k ∙ z))) (s c)

  -- at the start
  pub phase_new : ((c : ℕ) → Agree (st c) false) → Phase st true None (term [] 0 None false) [] []
  unfolding shows
  phase_new h = resting {b = false} all_none all_none tt h

-- a fresh serve
module _ (st st' : ℕ → Standing) where
  fresh_phase : (xs : List Call) (n : ℕ) (r : Request) (b : Bool) (y : Body) (up down down' : Waiting) → All (TheAsk r b) up → All (Early (not b) st) down
      → Known st xs r.call.0 → Settled st xs → Did (body_for r.ask) y (st r.call.0) (st' r.call.0) → ((x : ℕ) → (r.call.0 ≡ x → ⊥) → Drifts (st x) (st' x))
      → Added (the_answer r b y) down down' → Once xs → Phase st' b (Some (the_answer r b y)) (term xs n (Some r) b) up down'
  fresh_phase xs n r b y up down down' u e w s did d q o =
      handled (did_ask did ∙ ask_of_body r.ask) u
      (then_added {P = Early (not b) st'} {Q = Late (the_answer r b y) st'} (then_turn (all_map (early_drift st st' goes' (not b)) e)) (inl refl) q)
      (known_drift st st' goes' xs r.call.0 w) settles
    where
      goes' : (x : ℕ) → st x ≡ gone → st' x ≡ gone
      goes' x g = go (eqb_tells r.call.0 x)
        where
          go : ((eqb r.call.0 x ≡ true) × (r.call.0 ≡ x)) ⊎ ((eqb r.call.0 x ≡ false) × (r.call.0 ≡ x → ⊥)) → st' x ≡ gone
          go (inl i) = subst (λ z. st' z ≡ gone) i.1 (did_gone did (subst (λ z. st z ≡ gone) (sym i.1) g))
          go (inr i) = gone_drift (d x i.1) g

      settles : Settled st' (settle y r.call.0 xs)
      settles x = go (eqb_tells r.call.0 x)
        where
          go : ((eqb r.call.0 x ≡ true) × (r.call.0 ≡ x)) ⊎ ((eqb r.call.0 x ≡ false) × (r.call.0 ≡ x → ⊥)) → Agree (st' x) (shows (settle y r.call.0 xs) x)
          go (inl i) =
              subst (λ z. Agree (st' z) (shows (settle y r.call.0 xs) z)) i.1
              (subst (Agree (st' r.call.0)) (sym (shows_settle_here y r.call.0 xs o)) (did_agree (has xs r.call.0) (shows xs r.call.0) did w (s r.call.0)))
          go (inr i) = subst (Agree (st' x)) (sym (shows_settle y r.call.0 x xs i.1)) (agree_drift (shows xs x) (d x i.1) (s x))

  same_frame : {f g : Frame} → ◌≡◌ {A = Content} (Ok f) (Ok g) → f ≡ g
  same_frame e = cc

  pub phase_fresh : {l : Bool} {kept : Option Frame} {t : Model} {up down down' : Waiting} (bytes : List ℕ) (f : Frame) (y : Body) → said bytes ≡ Ok f → Once t.calls
      → Phase st l kept t (bytes ∷ up) down → beq f.exchange l ≡ false → Did f.body y (st f.call.0) (st' f.call.0)
      → ((x : ℕ) → (f.call.0 ≡ x → ⊥) → Drifts (st x) (st' x)) → Added (record { exchange = f.exchange; call = f.call; body = y }) down down'
      → Phase st' f.exchange (Some (record { exchange = f.exchange; call = f.call; body = y })) t up down'
  phase_fresh bytes f y i o (resting {b = b} u e k s) n did d q = absurd (beq_apart (not b) f.exchange (subst (Asks (not b)) i (all_head u).0) n)
  phase_fresh {l} {kept} {t} {up} {down} {down'} bytes f y i o (waiting {xs = xs} {n = m} {r = r} {b = b} u e k w s) n did d q = go (then_head u)
    where
      go : (Asks (not b) (said bytes) × Then (Asks (not b)) (TheAsk r b) up) ⊎ (TheAsk r b (said bytes) × All (TheAsk r b) up)
          → Phase st' f.exchange (Some (record { exchange = f.exchange; call = f.call; body = y })) (term xs m (Some r) b) up down'
      go (inl h) = absurd (beq_apart (not b) f.exchange (subst (Asks (not b)) i h.0) n)
      go (inr h) =
          subst (λ (g : Frame). Did g.body y (st g.call.0) (st' g.call.0) → ((x : ℕ) → (g.call.0 ≡ x → ⊥) → Drifts (st x) (st' x))
          → Added (record { exchange = g.exchange; call = g.call; body = y }) down down'
          → Phase st' g.exchange (Some (record { exchange = g.exchange; call = g.call; body = y })) (term xs m (Some r) b) up down')
          (sym (same_frame (sym i ∙ h.0)))
          (λ did d q. fresh_phase xs m r b y up down down' h.1 e w s did d q o) did d q
  phase_fresh {l} {kept} {t} {up} {down} {down'} bytes f y i o (handled {r = r} {b = b} j u e w s) n did d q =
      absurd (beq_apart b f.exchange (ap (λ (g : Frame). g.exchange) (same_frame (sym i ∙ (all_head u).0))) n)
