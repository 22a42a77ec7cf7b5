-- The whole pair: its invariant, kept by every step. Assumes nothing.
use Rattle.std.proofs.Common.{◌≡◌, ℕ, ◌≤◌, Bool, true, false, cond, not, eqb, List, [], ◌∷◌, ◌++◌, Some, None, Ok, Err, Option, Result, sym, refl, ap, ◌∙◌, subst, subst₂, arith}
use mathlib.Core.Bool.{beq}
use Rattle.std.proofs.lemmas.Bool.Decides.{nat_tests}
use Rattle.frames.specs.declared.content.Frame.{Frame}
use Rattle.frames.specs.declared.content.Operation.TheVariants.{Hold, Retrieve}
use Rattle.frames.specs.declared.content.Verdict.TheVariants.{Granted, Declined}
use Rattle.records.specs.Notices.{next_notice}
use Rattle.records.specs.declared.legs.HeldLegs.{HeldLegs}
use Rattle.records.specs.declared.notices.Notice.{Notice}
use Rattle.register.specs.User.{is_user, same}
use Rattle.register.specs.declared.user.User.{User}
use Rattle.switch.specs.Notifying.{Notifies, notice_frame, tells as tells_model}
use Rattle.switch.specs.Opening.{opens, open_checked, new_session}
use Rattle.switch.specs.Answer.{answer}
use Rattle.switch.specs.Serving.{Carried, carry_out, handled_by, noted, effect, effect_of, again as again_by, by_bit, Acts, Serves, ServingBy, serve_checked, the_session}
use Rattle.switch.specs.Serving.Carried.{no_request, carried}
use Rattle.switch.specs.State.{Model, with_sessions}
use Rattle.switch.specs.Tables.{session}
use Rattle.switch.specs.declared.session.Session.{Session}
use Rattle.switch.specs.declared.told.Handled.{Handled}
use Rattle.switch.specs.declared.told.Handled.TheVariants.{Answered, Cleared as clear_handled}
use Rattle.switch.specs.declared.told.Notified.{Notified as NotifiedTold}
use Rattle.switch.specs.declared.told.Served.{Served as ServedTold}
use Rattle.switch.specs.declared.told.Served.TheVariants.{Fresh, Repeat}
use Rattle.terminal.specs.Arriving.{receives}
use Rattle.terminal.specs.Asking.{request_checked}
use Rattle.terminal.specs.State as terminal
use Rattle.text.specs.Fault.{in_switch, unless}
use Rattle.text.specs.declared.fault.Fault.{Fault}
use Rattle.law.specs.declared.event.Event.{Event}
use Rattle.law.specs.declared.event.Event.TheVariants.{Opened, Connected, Joined, Requested, Ticked, Received, Served, Notified, Cleared}
use Rattle.law.specs.History.{Deed, deed, handled_deeds, served_deeds, connected_deeds, cleared_deeds}
use Rattle.law.specs.Run.{Waiting, State, Sends, Takes, Step, ServedBy, NotifiedBy}
use Rattle.law.proofs.Exchange.{Phase, phase_drift, phase_up, phase_down, phase_notice, phase_connect, phase_ask, phase_tick, phase_receive, phase_dropped, phase_taken, phase_repeat, phase_fresh}
use Rattle.law.proofs.Moves.{Books, Moved, moved_books, faces, acts, Acts as CarryingOut, ActsOf, acted, answered_body, reseat, opens_books, joins_move, cuts_move, tells_move, notice_true}
use Rattle.law.proofs.Once.{Once, Rising, once, rising_connects, rising_opens, rising_ticks, rising_receives}
use Rattle.law.proofs.Standings.{Did}
use Rattle.law.proofs.Thin.{Added, said, telling_added, Pulls, pulling_pulls}
use Rattle.law.proofs.Thin.Pulls.{pulls_none, pulls_frame, pulls_noise}
use Rattle.law.proofs.Turn.{NotBy, turn_drift, standing, elsewhere}

-- what the exchange sees of a session
abbrev pub last_of : Option Session → Bool
last_of None = true
last_of (Some n) = n.exchange

abbrev frame_of : Bool → Option Handled → Option Frame
frame_of x None = None
frame_of x (Some h) = Some (answer x h)

abbrev pub kept_of : Option Session → Option Frame
kept_of None = None
kept_of (Some n) = frame_of n.exchange n.handled

eqb_same : (c : ℕ) → eqb c c ≡ true
eqb_same c = grind (arith, nat_tests)

session_noted : (u : ℕ) (m n : Session) (ss : List Session) → n.user.0 ≡ u → session u ss ≡ Some m → session u (noted n ss) ≡ Some n
unfolding session noted
session_noted u m n [] e h = let z : ◌≡◌ {A = ℕ} 0 1 = cc in absurd (omega arith)
session_noted u m n (s ∷ ss) e h = go (eqb s.user.0 u) refl (session_noted u m n ss e) h
  where
    go : (b : Bool) → eqb s.user.0 u ≡ b → (session u ss ≡ Some m → session u (noted n ss) ≡ Some n) → cond b (Some s) (session u ss) ≡ Some m
        → session u (noted n (s ∷ ss)) ≡ Some n
    go true i ih h = let j : eqb s.user.0 n.user.0 ≡ true = rw (e, i) in let k : eqb n.user.0 u ≡ true = rw (e, eqb_same u) in rw (j, k)
    go false i ih h = let j : eqb s.user.0 n.user.0 ≡ false = rw (e, i) in rw (j, i) (ih h)

session_other : (u : ℕ) (n : Session) (ss : List Session) → (n.user.0 ≡ u → ⊥) → session u (noted n ss) ≡ session u ss
unfolding session noted
session_other u n [] d = refl
session_other u n (s ∷ ss) d = let ih = session_other u n ss d in grind (arith, nat_tests)

abbrev first_of : Option Session → Option Session → Option Session
first_of None q = q
first_of (Some r) q = Some r

session_end : (u : ℕ) (v : User) (ss : List Session) → session u (ss ++ new_session v ∷ []) ≡ first_of (session u ss) (cond (eqb v.0 u) (Some (new_session v)) None)
unfolding session
session_end u v [] = refl
session_end u v (s ∷ ss) = let ih = session_end u v ss in grind (arith, nat_tests)

new_last : (o : Option Session) (b : Bool) (v : User) → last_of (first_of o (cond b (Some (new_session v)) None)) ≡ last_of o
new_last None true v = refl
new_last None false v = refl
new_last (Some n) b v = refl

new_kept : (o : Option Session) (b : Bool) (v : User) → kept_of (first_of o (cond b (Some (new_session v)) None)) ≡ kept_of o
new_kept None true v = refl
new_kept None false v = refl
new_kept (Some n) b v = refl

-- the exchange of the pair
abbrev pub Exchange : ℕ → terminal.Model → Model → Waiting → Waiting → Type 0
Exchange u t s up down = Phase (standing u (faces s) s.last) (last_of (session u s.sessions)) (kept_of (session u s.sessions)) t up down

pub record Inv (limit : ℕ → ℕ) (size u : ℕ) (ds : List Deed) (p : State) : Type 0 where
  pub books : Books limit size ds p.switch
  pub phase : Exchange u p.terminal p.switch p.up p.down
  pub rising : Rising p.terminal

-- opening leaves the exchange
open_phase : (u : ℕ) (v : User) (t : terminal.Model) (s : Model) (up down : Waiting) (z : Result Unit Fault) → Exchange u t s up down → Exchange u t (opens z s v) up down
open_phase u v t s up down (Err e) h = h
open_phase u v t s up down (Ok y) h =
    let e = session_end u v s.sessions in
    subst₂ (λ l k. Phase (standing u (faces s) s.last) l k t up down)
    (sym (ap last_of e ∙ new_last (session u s.sessions) (eqb v.0 u) v)) (sym (ap kept_of e ∙ new_kept (session u s.sessions) (eqb v.0 u) v)) h

-- a move of the switch that leaves the user's session and is not his own hold or retrieval
moved_phase : {limit : ℕ → ℕ} {size : ℕ} {ds : List Deed} {d : List Deed} (u : ℕ) (t : terminal.Model) (s s' : Model) (up down : Waiting) → Books limit size ds s → Moved limit size s s' d → NotBy u d
    → session u s'.sessions ≡ session u s.sessions → Exchange u t s up down → Exchange u t s' up down
moved_phase u t s s' up down B m n e h =
    subst (λ o. Phase (standing u (faces s') s'.last) (last_of o) (kept_of o) t up down) (sym e)
    (phase_drift (standing u (faces s) s.last) (standing u (faces s') s'.last) (turn_drift u B.ledger m.turn n) h)

-- how serving a frame came about: refused, the last answer sent again, or the request carried out
pub data Came (limit : ℕ → ℕ) (v : User) (n : Session) (f : Frame) (s : Model) (down down' : Waiting) : Result ServedTold Fault → Model → Type 0 where
  turned : (e : Fault) → down' ≡ down → Came limit v n f s down down' (Err e) s
  again : (g : Handled) (x : Option Fault) → n.handled ≡ Some g → f.exchange ≡ n.exchange → Added (answer f.exchange g) down down' → Came limit v n f s down down' (Ok (Repeat g x)) s
  first : (h : Handled) (s₁ : Model) (x : Option Fault) → carry_out (limit v.0) s v.0 f.call f.body ≡ carried h s₁ → beq f.exchange n.exchange ≡ false
      → Added (answer f.exchange h) down down'
      → Came limit v n f s down down' (Ok (Fresh h x)) (with_sessions (noted (handled_by v f.exchange h) s₁.sessions) s₁)

beq_is : (a b : Bool) → beq a b ≡ true → a ≡ b
beq_is true true e = refl
beq_is true false e = sym e
beq_is false true e = e
beq_is false false e = refl

pub came : (limit : ℕ → ℕ) (v : User) (n : Session) (f : Frame) (s s' : Model) (down down' : Waiting) (r : Result ServedTold Fault)
    → Acts Sends (effect (limit v.0) s v n f) f.exchange s s' down down' r → Came limit v n f s down down' r s'
came limit v n f s s' down down' r = go (carry_out (limit v.0) s v.0 f.call f.body) refl
  where
    refuses : (e : Fault) → (r ≡ Err e) × (s' ≡ s) × (down' ≡ down) → Came limit v n f s down down' r s'
    refuses e h = subst₂ (Came limit v n f s down down') (sym h.0) (sym h.1) (turned e h.2)

    repeats : (o : Option Handled) → n.handled ≡ o → f.exchange ≡ n.exchange → Acts Sends (again_by o) f.exchange s s' down down' r → Came limit v n f s down down' r s'
    repeats None i j h = refuses (in_switch 40) h
    repeats (Some g) i j h = subst₂ (Came limit v n f s down down') (sym h.0.says) (sym h.1) (again g h.0.fault i j (telling_added h.0.telling))

    bits : (g : Handled) (s₁ : Model) → carry_out (limit v.0) s v.0 f.call f.body ≡ carried g s₁ → (b : Bool) → beq f.exchange n.exchange ≡ b
        → Acts Sends (by_bit b v f.exchange n g s₁) f.exchange s s' down down' r → Came limit v n f s down down' r s'
    bits g s₁ i true j h = repeats n.handled refl (beq_is f.exchange n.exchange j) h
    bits g s₁ i false j h = subst₂ (Came limit v n f s down down') (sym h.0.says) (sym h.1) (first g s₁ h.0.fault i j (telling_added h.0.telling))

    go : (z : Carried) → carry_out (limit v.0) s v.0 f.call f.body ≡ z → Acts Sends (effect_of z v f.exchange n) f.exchange s s' down down' r → Came limit v n f s down down' r s'
    go no_request i h = refuses (in_switch 39) h
    go (carried g s₁) i h = bits g s₁ i (beq f.exchange n.exchange) refl h

-- whom the switch serves has a session
checked_session : (m : Model) (v : User) (n : Session) → serve_checked m v ≡ Ok n → session v.0 m.sessions ≡ Some n
checked_session m v n e = go (not (is_user v.0)) (session v.0 m.sessions) e
  where
    go : (b : Bool) (o : Option Session) → unless b (in_switch 30) (the_session o) ≡ Ok n → o ≡ Some n
    go true o e = let z : ◌≡◌ {A = ℕ} 0 1 = cc in absurd (omega arith)
    go false None e = let z : ◌≡◌ {A = ℕ} 0 1 = cc in absurd (omega arith)
    go false (Some s) e = let i : s ≡ n = cc in ap (λ x. Some x) i

not_by_handled : (u v : ℕ) (h : Handled) → (v ≡ u → ⊥) → NotBy u (handled_deeds v h)
not_by_handled u v (Answered Hold c Granted) n = (n, tt)
not_by_handled u v (Answered Hold c (Declined x)) n = tt
not_by_handled u v (Answered Retrieve c Granted) n = (n, tt)
not_by_handled u v (Answered Retrieve c (Declined x)) n = tt
not_by_handled u v (clear_handled c l) n = (tt, tt)

not_by_connected : (u c a b : ℕ) (r : Result Unit Fault) → NotBy u (connected_deeds c a b r)
not_by_connected u c a b (Ok t) = (tt, tt)
not_by_connected u c a b (Err e) = tt

not_by_cleared : (u c : ℕ) (r : Result HeldLegs Fault) → NotBy u (cleared_deeds c r)
not_by_cleared u c (Ok l) = (tt, tt)
not_by_cleared u c (Err e) = tt

module _ (limit : ℕ → ℕ) (size u : ℕ) (ds : List Deed) where
  -- books and exchange of a state with these parts
  inv_by : {d : List Deed} {t : terminal.Model} {s : Model} {up down : Waiting} (q : State) → q.terminal ≡ t → q.switch ≡ s → q.up ≡ up → q.down ≡ down
      → Books limit size d s → Exchange u t s up down → Rising t → Inv limit size u d q
  inv_by {d} {t} {s} {up} {down} q et es eu ed B h o =
      record {
        books = subst (Books limit size d) (sym es) B;
        phase =
            subst₂ (λ s t. Exchange u t s q.up q.down) (sym es) (sym et)
            (subst₂ (λ w v. Exchange u t s w v) (sym eu) (sym ed) h);
        rising = subst Rising (sym et) o;
      }

  -- a move of the switch alone
  moved_inv : {d : List Deed} {s : Model} (p q : State) → q.switch ≡ s → (q.terminal ≡ p.terminal) × (q.up ≡ p.up) × (q.down ≡ p.down) → Inv limit size u ds p
      → Moved limit size p.switch s d → NotBy u d → Inv limit size u (d ++ ds) q
  moved_inv {d} {s} p q e k I m n =
      inv_by q k.0 e k.1 k.2 (moved_books m I.books)
      (moved_phase u p.terminal p.switch s p.up p.down I.books m n (ap (session u) m.seats) I.phase) I.rising

  -- what carrying out a request does
  carrying : (v : User) (f : Frame) {h : Handled} {s s₁ : Model} → Books limit size ds s → carry_out (limit v.0) s v.0 f.call f.body ≡ carried h s₁
      → CarryingOut limit size s v.0 f.call f.body h s₁
  carrying v f {h} {s} B e = subst (ActsOf limit size s v.0 f.call f.body) e (acts limit size ds s B v.0 f.call f.body)

  -- serving another user, whatever was taken from his link
  other_came : {v : User} {n : Session} {f : Frame} {t : terminal.Model} {s s' : Model} {up down c d : Waiting} {r : Result ServedTold Fault} → (v.0 ≡ u → ⊥)
      → Books limit size ds s → Exchange u t s up down → Came limit v n f s c d r s' → Books limit size (served_deeds v.0 r ++ ds) s' × Exchange u t s' up down
  other_came a B h (turned e i) = (B, h)
  other_came a B h (again g x i j k) = (B, h)
  other_came {v} {n} {f} {t} {s} {s'} {up} {down} a B h (first g s₁ x i j k) =
      let A = carrying v f B i in
      let m = acted A in (
        reseat _ (moved_books m B),
        subst (λ o. Phase (standing u (faces s₁) s₁.last) (last_of o) (kept_of o) t up down) (sym (session_other u (handled_by v f.exchange g) s₁.sessions a))
            (moved_phase u t s s₁ up down B m (not_by_handled u v.0 g a) (ap (session u) A.seats) h),
      )

  -- serving the pair's user, when a frame was taken from his link
  own_came : {v : User} {n : Session} {f : Frame} {t : terminal.Model} {s s' : Model} {up down down' : Waiting} {r : Result ServedTold Fault} (bytes : List ℕ) → v.0 ≡ u → Once t.calls
      → said bytes ≡ Ok f → session u s.sessions ≡ Some n → Books limit size ds s → Exchange u t s (bytes ∷ up) down → Came limit v n f s down down' r s'
      → Books limit size (served_deeds v.0 r ++ ds) s' × Exchange u t s' up down'
  own_came {t = t} {s = s} {up = up} bytes a o w en B h (turned e i) =
      (B, subst (λ z. Exchange u t s up z) (sym i) (phase_taken (standing u (faces s) s.last) bytes h))
  own_came {n = n} {f = f} {t = t} {s = s} {up = up} {down = down} {down' = down'} bytes a o w en B h (again g x i j k) =
      let st = standing u (faces s) s.last in
      let l = last_of (session u s.sessions) in
      let ek : kept_of (session u s.sessions) ≡ Some (answer f.exchange g) = ap kept_of en ∙ (ap (frame_of n.exchange) i ∙ ap (λ y. Some (answer y g)) (sym j)) in
      let h₂ : Phase st l (Some (answer f.exchange g)) t up down = subst (λ k. Phase st l k t up down) ek (phase_taken st bytes h) in
      (B, subst (λ k. Phase st l k t up down') (sym ek) (phase_repeat st h₂ k))
  own_came {v} {n} {f} {t} {s} {s'} {up} {down} {down'} bytes a o w en B h (first g s₁ x i j k) =
      let A = carrying v f B i in
      let st = standing u (faces s) s.last in
      let st₁ = standing u (faces s₁) s₁.last in
      let e₁ = A.says f.exchange in
      let z : beq f.exchange (last_of (session u s.sessions)) ≡ false = ap (λ y. beq f.exchange (last_of y)) en ∙ j in
      let did = subst (λ y. Did f.body (answered_body g) (standing y (faces s) s.last f.call.0) (standing y (faces s₁) s₁.last f.call.0)) a A.did in
      let up_to : s.last ≤ s₁.last = let t = A.lasts in omega arith in
      let n₁ = handled_by v f.exchange g in
      let es : session u (noted n₁ s₁.sessions) ≡ Some n₁ = session_noted u n n₁ s₁.sessions a (ap (session u) A.seats ∙ en) in
      let h₁ = phase_fresh st st₁ bytes f (answered_body g) w o h z did (λ y d. elsewhere u (faces s) (faces s₁) s.last s₁.last y (A.but y d) up_to) (subst (λ y. Added y down down') e₁ k) in (
        reseat _ (moved_books (acted A) B),
        subst (λ o. Phase st₁ (last_of o) (kept_of o) t up down') (sym es) (subst (λ y. Phase st₁ f.exchange (Some y) t up down') (sym e₁) h₁),
      )

  own_serves : (v : User) (n : Session) (t : terminal.Model) (s s' : Model) (up up' down down' : Waiting) (r : Result ServedTold Fault) (z : Result (Option Frame) Fault) → v.0 ≡ u → Once t.calls
      → session u s.sessions ≡ Some n → Pulls up up' z → Books limit size ds s → Exchange u t s up down → Serves Sends (limit v.0) v n z s s' down down' r
      → Books limit size (served_deeds v.0 r ++ ds) s' × Exchange u t s' up' down'
  own_serves v n t s s' up up' down down' r (Err e) a o en (pulls_noise {bytes = bytes} th i) B h k = rw (k.0, k.1, k.2) ((B, phase_taken _ bytes (phase_up _ th h)))
  own_serves v n t s s' up up' down down' r (Ok None) a o en (pulls_none th) B h k = rw (k.0, k.1, k.2) ((B, phase_up _ th h))
  own_serves v n t s s' up up' down down' r (Ok (Some f)) a o en (pulls_frame {bytes = bytes} th i) B h k =
      own_came {v = v} {n = n} {f = f} bytes a o i en B (phase_up _ th h) (came limit v n f s s' down down' r k)

  own_serving : (v : User) (t : terminal.Model) (s s' : Model) (up up' down down' : Waiting) (r : Result ServedTold Fault) (z : Result Session Fault) → serve_checked s v ≡ z → v.0 ≡ u → Once t.calls
      → Books limit size ds s → Exchange u t s up down → ServingBy Takes Sends z (limit v.0) v s s' up up' down down' r
      → Books limit size (served_deeds v.0 r ++ ds) s' × Exchange u t s' up' down'
  own_serving v t s s' up up' down down' r (Err e) i a o B h k = rw (k.0, k.1, k.2, k.3) ((B, h))
  own_serving v t s s' up up' down down' r (Ok n) i a o B h k =
      own_serves v n t s s' up up' down down' r k.came a o (subst (λ y. session y s.sessions ≡ Some n) a (checked_session s v n i)) (pulling_pulls k.pulling) B h k.serves

  other_serves : (v : User) (n : Session) (t : terminal.Model) (s s' : Model) (up down c d : Waiting) (r : Result ServedTold Fault) (z : Result (Option Frame) Fault) → (v.0 ≡ u → ⊥)
      → Books limit size ds s → Exchange u t s up down → Serves Sends (limit v.0) v n z s s' c d r → Books limit size (served_deeds v.0 r ++ ds) s' × Exchange u t s' up down
  other_serves v n t s s' up down c d r (Err e) a B h k = rw (k.0, k.1) ((B, h))
  other_serves v n t s s' up down c d r (Ok None) a B h k = rw (k.0, k.1) ((B, h))
  other_serves v n t s s' up down c d r (Ok (Some f)) a B h k = other_came {v = v} {n = n} {f = f} a B h (came limit v n f s s' c d r k)

  other_serving : (v : User) (t : terminal.Model) (s s' : Model) (up down a b c d : Waiting) (r : Result ServedTold Fault) (z : Result Session Fault) → (v.0 ≡ u → ⊥)
      → Books limit size ds s → Exchange u t s up down → ServingBy Takes Sends z (limit v.0) v s s' a b c d r → Books limit size (served_deeds v.0 r ++ ds) s' × Exchange u t s' up down
  other_serving v t s s' up down a b c d r (Err e) w B h k = rw (k.0, k.1) ((B, h))
  other_serving v t s s' up down a b c d r (Ok n) w B h k = other_serves v n t s s' up down c d r k.came w B h k.serves

  served_inv : (v : User) (p q : State) (r : Result ServedTold Fault) (z : Bool) → same v.0 u ≡ z → Inv limit size u ds p → ServedBy z (limit v.0) v p r q
      → Inv limit size u (served_deeds v.0 r ++ ds) q
  served_inv v p q r true e I k =
      let i : v.0 ≡ u = is_same v.0 u e in
      let h = own_serving v p.terminal p.switch q.switch p.up q.up p.down q.down r (serve_checked p.switch v) refl i (once p.terminal I.rising) I.books I.phase k.0 in
      inv_by q k.1 refl refl refl h.0 h.1 I.rising
    where
      is_same : (a b : ℕ) → eqb a b ≡ true → a ≡ b
      is_same a b e = grind (arith, nat_tests)
  served_inv v p q r false e I k =
      let a = k.0 in
      let h = other_serving v p.terminal p.switch q.switch p.up p.down a.up a.up_after a.down a.down_after r (serve_checked p.switch v) (is_other v.0 u e) I.books I.phase a.serving in
      inv_by q k.1.0 refl k.1.1 k.1.2 h.0 h.1 I.rising
    where
      is_other : (a b : ℕ) → eqb a b ≡ false → a ≡ b → ⊥
      is_other a b e i = let z : eqb a b ≡ true = grind (arith, nat_tests) in let y : true ≡ false = cc in let x : ◌≡◌ {A = ℕ} 0 1 = cc in omega arith

  -- notifying
  notified_phase : (v : User) (t : terminal.Model) (s s' : Model) (up down down' : Waiting) (r : Result NotifiedTold Fault) (z : Bool) (o : Option Notice) → next_notice v.0 s.records ≡ o
      → Books limit size ds s → Exchange u t s up down → Notifies Sends z o v.0 s s' down down' r → Books limit size ds s' × Exchange u t s' up down'
  notified_phase v t s s' up down down' r false o i B h k = rw (k.1, k.2) ((B, h))
  notified_phase v t s s' up down down' r true None i B h k = rw (k.1, k.2) ((B, h))
  notified_phase v t s s' up down down' r true (Some q) i B h k =
      let m = tells_move limit size ds s B v.0 q.call.0 in
      let n = notice_true limit size ds s B u v.0 q i in
      let h₁ = phase_notice (standing u (faces s) s.last) (notice_frame q) n (telling_added k.0.telling) h in
      rw k.1 ((moved_books m B, moved_phase u t s (tells_model v.0 q.call.0 s) up down' B m tt (ap (session u) m.seats) h₁))

  other_notified : (v : User) (t : terminal.Model) (s s' : Model) (up down c d : Waiting) (r : Result NotifiedTold Fault) (z : Bool) (o : Option Notice)
      → Books limit size ds s → Exchange u t s up down → Notifies Sends z o v.0 s s' c d r → Books limit size ds s' × Exchange u t s' up down
  other_notified v t s s' up down c d r false o B h k = rw k.1 ((B, h))
  other_notified v t s s' up down c d r true None B h k = rw k.1 ((B, h))
  other_notified v t s s' up down c d r true (Some q) B h k =
      let m = tells_move limit size ds s B v.0 q.call.0 in
      rw k.1 ((moved_books m B, moved_phase u t s (tells_model v.0 q.call.0 s) up down B m tt (ap (session u) m.seats) h))

  notified_inv : (v : User) (p q : State) (r : Result NotifiedTold Fault) (z : Bool) → Inv limit size u ds p → NotifiedBy z v p r q → Inv limit size u ds q
  notified_inv v p q r true I k =
      let h = notified_phase v p.terminal p.switch q.switch p.up p.down q.down r (is_user v.0) (next_notice v.0 p.switch.records) refl I.books I.phase k.0 in
      inv_by q k.1 refl k.2 refl h.0 h.1 I.rising
  notified_inv v p q r false I k =
      let a = k.0 in
      let h = other_notified v p.terminal p.switch q.switch p.up p.down a.down a.down_after r (is_user v.0) (next_notice v.0 p.switch.records) I.books I.phase a.notifying in
      inv_by q k.1.0 refl k.1.1 k.1.2 h.0 h.1 I.rising

  received_phase : (t : terminal.Model) (s : Model) (up down down' : Waiting) (z : Result (Option Frame) Fault) → Pulls down down' z → Rising t → Exchange u t s up down → Exchange u (receives t z) s up down'
  received_phase t s up down down' (Err e) (pulls_noise {bytes = bytes} th i) o h = phase_dropped _ bytes (phase_down _ th h)
  received_phase t s up down down' (Ok None) (pulls_none th) o h = phase_down _ th h
  received_phase t s up down down' (Ok (Some f)) (pulls_frame {bytes = bytes} th i) o h =
      phase_receive _ bytes f i (once t o) (once (receives t (Ok (Some f))) (rising_receives t (Ok (Some f)) o)) (phase_down _ th h)

  -- every step keeps the invariant
  pub step_inv : (v : User) → v.0 ≡ u → (p q : State) (e : Event) → Inv limit size u ds p → Step limit v p e q → Inv limit size u (deed e ++ ds) q
  step_inv w o p q (Opened v r) I k =
      inv_by q k.2.0 k.1 k.2.1 k.2.2 (opens_books (open_checked p.switch v) p.switch v I.books)
      (open_phase u v p.terminal p.switch p.up p.down (open_checked p.switch v) I.phase) I.rising
  step_inv w o p q (Connected c a b r) I k =
      subst (λ r. Inv limit size u (connected_deeds c.0 a.0 b.0 r ++ ds) q) (sym k.0)
      (moved_inv p q k.1 k.2 I (joins_move limit size ds p.switch I.books c a b) (not_by_connected u c.0 a.0 b.0 _))
  step_inv w y p q (Joined c r) I k =
      let z = terminal.connect_checked p.terminal c in
      let o = rising_connects p.terminal c z refl I.rising in
      inv_by q k.1 k.2.0 k.2.1 k.2.2 I.books (phase_connect _ z c (once p.terminal I.rising) (once (terminal.connects z p.terminal c) o) I.phase) o
  step_inv w o p q (Requested j c r) I k = inv_by q k.1 k.2 refl k.3 I.books (phase_ask _ j c (request_checked p.terminal j c) r refl k.0 I.phase) (rising_opens p.terminal j c (request_checked p.terminal j c) I.rising)
  step_inv w o p q (Ticked r) I k = inv_by q k.1 k.2 refl k.3 I.books (phase_tick _ p.terminal.request r refl k.0 I.phase) (rising_ticks p.terminal p.terminal.request I.rising)
  step_inv w o p q (Received r) I k =
      let h = k.0 in
      inv_by q h.state k.1 k.2 refl I.books (received_phase p.terminal p.switch p.up p.down q.down h.came (pulling_pulls h.pulling) I.rising I.phase) (rising_receives p.terminal h.came I.rising)
  step_inv w o p q (Served v r) I k = served_inv v p q r (same v.0 w.0) (ap (same v.0) (sym o)) I k
  step_inv w o p q (Notified v r) I k = notified_inv v p q r (same v.0 w.0) I k
  step_inv w o p q (Cleared c r) I k =
      subst (λ r. Inv limit size u (cleared_deeds c.0 r ++ ds) q) (sym k.0)
      (moved_inv p q k.1 k.2 I (cuts_move limit size ds p.switch I.books c) (not_by_cleared u c.0 _))
