-- Serving keeps what holds of a switch's state, and the limits. Assumes nothing.
use Rattle.std.proofs.Common.{◌≡◌, ℕ, ◌+◌, ◌-◌, ◌≤◌, Bool, true, false, eqb, leb, List, Some, None, Ok, Err, Option, Result, refl, ap, subst, arith}
use mathlib.Core.Bool.{beq}
use Rattle.std.proofs.lemmas.Bool.{and_from, not_from_false}
use Rattle.std.proofs.lemmas.Bool.Decides.{nat_tests}
use Rattle.frames.specs.Layout.{no_call}
use Rattle.frames.specs.declared.content.Body.TheVariants.{Answer}
use Rattle.frames.specs.declared.content.CallId.{CallId}
use Rattle.frames.specs.declared.content.Frame.{Frame}
use Rattle.frames.specs.declared.content.Operation.TheVariants.{Hold, Retrieve}
use Rattle.links.specs.Meaning.{SendAnswer, TakeAnswer}
use Rattle.register.specs.declared.user.User.{User}
use Rattle.records.proofs.Tables.{channels_within}
use Rattle.records.specs.Changes.{change, cleared_by, find, for_user, put_on_hold, retrieved}
use Rattle.records.specs.Legs.{standing, standing_in}
use Rattle.records.specs.Questions.{held_by}
use Rattle.records.specs.declared.legs.Record.{Record}
use Rattle.records.specs.declared.legs.Standing.{Standing}
use Rattle.records.specs.declared.legs.Standing.TheVariants.{Absent, Talking, OnHold}
use Rattle.signalling.specs.Ask.{ask_of}
use Rattle.signalling.specs.Writable.{lists}
use Rattle.signalling.specs.declared.ask.Ask.{Ask}
use Rattle.signalling.specs.declared.ask.Ask.TheVariants as ask
use Rattle.text.specs.declared.fault.Fault.{Fault}
use Rattle.switch.specs.Clearing.{channels_in, freeing, party_clears, takes_part}
use Rattle.switch.specs.Serving.{Acts, Serves, Serving, ServingBy, by_bit, carry_asked, effect, effect_of, handled_by, handled_of, hold_verdict, holds, noted, on_hold, on_retrieve, retrieve_verdict, retrieves, serve_checked, state_of}
use Rattle.switch.specs.State.{Model, with_records, with_sessions}
use Rattle.switch.specs.Tables.{answerable}
use Rattle.switch.specs.declared.session.Session.{Session}
use Rattle.switch.specs.declared.told.Handled.{Handled}
use Rattle.switch.specs.declared.told.Served.{Served}
use Rattle.switch.proofs.Sound.{Sound, Kept, kept_at, kept_change, kept_noted, kept_same, kept_then}
use Rattle.switch.proofs.SoundMoves.{at_most_one, clear_channels, clear_held, clear_lawful, held_in, hold_channels, hold_lawful, hold_others, id_cleared, id_for, id_held, id_retrieved, retrieve_channels, retrieve_held, retrieve_lawful}
use Rattle.switch.proofs.SoundRecords.{lawful_found}
use Rattle.switch.proofs.SoundSessions.{seated}

module _ (limit : ℕ → ℕ) (m : Model) (u c : ℕ) (h : Sound m) where
  -- a hold that is granted
  granted : seated u m.sessions ≡ true → (r : Record) → find c m.records ≡ Some r → standing u r ≡ Talking → leb (limit u) (held_by u m.records) ≡ false → Kept limit m (with_records (change c (for_user put_on_hold u) m.records) (m.used - 1) m)
  granted seat r e t less =
      kept_change limit m c (for_user put_on_hold u) r (m.used - 1) h e (id_for put_on_hold id_held u)
      (hold_lawful m.sessions u r seat (lawful_found m.sessions c m.records r e h.legs))
      (omega (arith, hold_channels u r t, h.counted, channels_within c m.records r e))
      (λ v w. own v w)
    where
      own : (v : ℕ) → held_by v m.records ≤ limit v → held_by v m.records + held_in v (for_user put_on_hold u r) ≤ limit v + held_in v r
      own v w =
          let most = at_most_one u (for_user put_on_hold u r) in
          let other = hold_others u v r in
          grind (arith, nat_tests, most, other)

  pub kept_holds : seated u m.sessions ≡ true → Kept limit m (holds (on_hold (limit u) m u c) u c m)
  kept_holds seat = go (find c m.records) refl
    where
      by : (r : Record) → find c m.records ≡ Some r → (s : Standing) → standing u r ≡ s → (none full : Bool) → leb (limit u) (held_by u m.records) ≡ full → Kept limit m (holds (hold_verdict s none full) u c m)
      by r e Absent p none full l = kept_same limit m h
      by r e OnHold p none full l = kept_same limit m h
      by r e Talking p true full l = kept_same limit m h
      by r e Talking p false true l = kept_same limit m h
      by r e Talking p false false l = granted seat r e p l

      go : (o : Option Record) → find c m.records ≡ o → Kept limit m (holds (hold_verdict (standing_in u o) (eqb (limit u) 0) (leb (limit u) (held_by u m.records))) u c m)
      go None e = kept_same limit m h
      go (Some r) e = by r e (standing u r) refl (eqb (limit u) 0) (leb (limit u) (held_by u m.records)) refl

  -- a retrieval
  pub kept_retrieves : Kept limit m (retrieves (on_retrieve m u c) u c m)
  kept_retrieves = go (find c m.records) refl
    where
      done : (r : Record) → find c m.records ≡ Some r → standing u r ≡ OnHold → Kept limit m (with_records (change c (for_user retrieved u) m.records) (m.used + 1) m)
      done r e t =
          kept_change limit m c (for_user retrieved u) r (m.used + 1) h e (id_for retrieved id_retrieved u)
          (retrieve_lawful m.sessions u r t (lawful_found m.sessions c m.records r e h.legs))
          (omega (arith, retrieve_channels u r t))
          (λ v w. omega (arith, w, retrieve_held u v r))

      by : (r : Record) → find c m.records ≡ Some r → (s : Standing) → standing u r ≡ s → (full : Bool) → Kept limit m (retrieves (retrieve_verdict s full) u c m)
      by r e Absent p full = kept_same limit m h
      by r e Talking p full = kept_same limit m h
      by r e OnHold p true = kept_same limit m h
      by r e OnHold p false = done r e p

      go : (o : Option Record) → find c m.records ≡ o → Kept limit m (retrieves (retrieve_verdict (standing_in u o) (eqb m.used m.size)) u c m)
      go None e = kept_same limit m h
      go (Some r) e = by r e (standing u r) refl (eqb m.used m.size)

  -- a party's clear
  pub kept_party_clears : Kept limit m (party_clears (standing_in u (find c m.records)) u c m)
  kept_party_clears = go (find c m.records) refl
    where
      done : (r : Record) → find c m.records ≡ Some r → takes_part (standing u r) ≡ true → Kept limit m (freeing (for_user cleared_by u) c m)
      done r e t =
          kept_change limit m c (for_user cleared_by u) r (m.used - channels_in (find c m.records)) h e (id_for cleared_by id_cleared u)
          (clear_lawful m.sessions u r t)
          (omega (arith, clear_channels u r t, ap channels_in e, h.counted, channels_within c m.records r e))
          (λ v w. omega (arith, w, clear_held u v r))

      by : (r : Record) → find c m.records ≡ Some r → (s : Standing) → standing u r ≡ s → Kept limit m (party_clears s u c m)
      by r e Absent p = kept_same limit m h
      by r e Talking p = done r e (ap takes_part p)
      by r e OnHold p = done r e (ap takes_part p)

      go : (o : Option Record) → find c m.records ≡ o → Kept limit m (party_clears (standing_in u o) u c m)
      go None e = kept_same limit m h
      go (Some r) e = by r e (standing u r) refl

-- what was asked, carried out
pub kept_state : (limit : ℕ → ℕ) (m : Model) (u : ℕ) (c : CallId) (k : Ask) → Sound m → seated u m.sessions ≡ true → Kept limit m (state_of (limit u) m u c k)
kept_state limit m u c ask.Hold h seat = kept_holds limit m u c.0 h seat
kept_state limit m u c ask.Retrieve h seat = kept_retrieves limit m u c.0 h
kept_state limit m u c ask.Clear h seat = kept_party_clears limit m u c.0 h

-- the verdicts have causes that their operation lists
hold_listed : (s : Standing) (none full : Bool) → lists (Answer Hold (hold_verdict s none full)) ≡ true
hold_listed Absent none full = refl
hold_listed OnHold none full = refl
hold_listed Talking true full = refl
hold_listed Talking false true = refl
hold_listed Talking false false = refl

retrieve_listed : (s : Standing) (full : Bool) → lists (Answer Retrieve (retrieve_verdict s full)) ≡ true
retrieve_listed Absent full = refl
retrieve_listed Talking full = refl
retrieve_listed OnHold true = refl
retrieve_listed OnHold false = refl

pub handled_answerable : (limit : ℕ) (m : Model) (u : ℕ) (c : CallId) (k : Ask) → no_call c.0 ≡ false → answerable (Some (handled_of limit m u c k)) ≡ true
handled_answerable limit m u c ask.Hold n = and_from _ _ (not_from_false _ n) (hold_listed (standing_in u (find c.0 m.records)) (eqb limit 0) (leb limit (held_by u m.records)))
handled_answerable limit m u c ask.Retrieve n = and_from _ _ (not_from_false _ n) (retrieve_listed (standing_in u (find c.0 m.records)) (eqb m.used m.size))
handled_answerable limit m u c ask.Clear n = and_from _ _ (not_from_false _ n) refl

-- whom the switch serves has a session
served_seated : (m : Model) (u : User) (s : Session) → serve_checked m u ≡ Ok s → seated u.0 m.sessions ≡ true
served_seated m u s e = grind (arith, nat_tests)

module _ {Y : Type 0} (sends : Y → List ℕ → Y → SendAnswer → Type 0) where
  kept_acts : (limit : ℕ → ℕ) (m : Model) (u : User) (s : Session) (f : Frame) (n : Model) (c d : Y) (r : Result Served Fault) → Sound m → seated u.0 m.sessions ≡ true → Acts sends (effect (limit u.0) m u s f) f.exchange m n c d r → Kept limit m n
  kept_acts limit m u s f n c d r h seat t = go (ask_of f.body) t
    where
      bit : (k : Ask) (b : Bool) (o : Option Handled) → s.handled ≡ o → Acts sends (by_bit b u f.exchange (record { user = s.user; exchange = s.exchange; handled = o }) (handled_of (limit u.0) m u.0 f.call k) (state_of (limit u.0) m u.0 f.call k)) f.exchange m n c d r → Kept limit m n
      bit k true None e t = kept_at limit m m n t.1 (kept_same limit m h)
      bit k true (Some x) e t = kept_at limit m m n t.1 (kept_same limit m h)
      bit k false o e t =
          let w = handled_of (limit u.0) m u.0 f.call k in
          let z = state_of (limit u.0) m u.0 f.call k in
          let a : Kept limit m z = kept_state limit m u.0 f.call k h seat in
          kept_at limit m (with_sessions (noted (handled_by u f.exchange w) z.sessions) z) n t.1
          (kept_then limit m z _ a (kept_noted limit z (handled_by u f.exchange w) a.sound))

      go : (o : Option Ask) → Acts sends (effect_of (carry_asked (limit u.0) m u.0 f.call o) u f.exchange s) f.exchange m n c d r → Kept limit m n
      go None t = kept_at limit m m n t.1 (kept_same limit m h)
      go (Some k) t = bit k (beq f.exchange s.exchange) s.handled refl t

module _ {X Y : Type 0} (takes : X → List ℕ → X → List ℕ → TakeAnswer → Type 0) (sends : Y → List ℕ → Y → SendAnswer → Type 0) where
  pub kept_serving : (limit : ℕ → ℕ) (u : User) (m n : Model) (a b : X) (c d : Y) (r : Result Served Fault) → Sound m → Serving takes sends (limit u.0) u m n a b c d r → Kept limit m n
  kept_serving limit u m n a b c d r h t = go (serve_checked m u) refl t
    where
      came : (s : Session) → seated u.0 m.sessions ≡ true → (o : Result (Option Frame) Fault) → Serves sends (limit u.0) u s o m n c d r → Kept limit m n
      came s seat (Err e) t = kept_at limit m m n t.1 (kept_same limit m h)
      came s seat (Ok None) t = kept_at limit m m n t.1 (kept_same limit m h)
      came s seat (Ok (Some f)) t = kept_acts sends limit m u s f n c d r h seat t

      go : (o : Result Session Fault) → serve_checked m u ≡ o → ServingBy takes sends o (limit u.0) u m n a b c d r → Kept limit m n
      go (Err e) q t = kept_at limit m m n t.1 (kept_same limit m h)
      go (Ok s) q t = came s (served_seated m u s q) t.came t.serves

  -- the limit passed is the user's
  pub served_with : (k l : ℕ) (u : User) (m n : Model) (a b : X) (c d : Y) (r : Result Served Fault) → k ≡ l → Serving takes sends k u m n a b c d r → Serving takes sends l u m n a b c d r
  served_with k l u m n a b c d r e t = subst (λ x. Serving takes sends x u m n a b c d r) e t
