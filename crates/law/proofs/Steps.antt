-- Each call on the ends, over real links, is a step of the pair. Assumes nothing.
use Rattle.std.proofs.Common.{◌≡◌, ℕ, true, false, List, Option, Result, sym, refl, subst, arith}
use Rattle.std.proofs.lemmas.Bool.Decides.{nat_tests}
use Rattle.frames.specs.declared.content.CallId.{CallId}
use Rattle.links.specs.Meaning.{SendAnswer, TakeAnswer, Sent, Taken}
use Rattle.records.specs.declared.legs.HeldLegs.{HeldLegs}
use Rattle.register.specs.User.{same}
use Rattle.register.specs.declared.user.User.{User}
use Rattle.signalling.specs.declared.ask.Ask.{Ask}
use Rattle.switch.specs.Clearing.{clear_told, clears}
use Rattle.switch.specs.Connecting.{connect_checked, connected}
use Rattle.switch.specs.Notifying.{Notifying}
use Rattle.switch.specs.Opening.{open_checked, opened}
use Rattle.switch.specs.Serving.{Serving}
use Rattle.switch.specs.State as switch
use Rattle.switch.specs.declared.told.Notified.{Notified as NotifiedTold}
use Rattle.switch.specs.declared.told.Served.{Served as ServedTold}
use Rattle.terminal.specs.Arriving.{Receiving}
use Rattle.terminal.specs.Asking.{Requesting, requested, Ticking, ticked}
use Rattle.terminal.specs.State as terminal
use Rattle.terminal.specs.declared.told.Received.{Received as ReceivedTold}
use Rattle.terminal.specs.declared.told.Ticked.{Ticked as TickedTold}
use Rattle.text.specs.declared.fault.Fault.{Fault}
use Rattle.law.specs.declared.event.Event.TheVariants.{Opened, Connected, Joined, Requested, Ticked, Received, Served, Notified, Cleared}
use Rattle.law.specs.Run.{Waiting, pair_of, Step, ServedBy, NotifiedBy}
use Rattle.law.proofs.Meant.{requesting_meant, ticking_meant, notifying_meant, receiving_meant, serving_meant}

is_self : (n : ℕ) → same n n ≡ true
is_self n = grind (arith, nat_tests)

-- calls that touch no link
module _ (limit : ℕ → ℕ) (u : User) (up down : Waiting) where
  pub opened_step : (t : terminal.Model) (s n : switch.Model) (v : User) (r : Result Unit Fault) → r ≡ open_checked s v → n ≡ opened s v
      → Step limit u (pair_of t s up down) (Opened v r) (pair_of t n up down)
  opened_step t s n v r e i = (e, i, (refl, refl, refl))

  pub connected_step : (t : terminal.Model) (s n : switch.Model) (c : CallId) (a b : User) (r : Result Unit Fault) → r ≡ connect_checked s c a b → n ≡ connected s c a b
      → Step limit u (pair_of t s up down) (Connected c a b r) (pair_of t n up down)
  connected_step t s n c a b r e i = (e, i, (refl, refl, refl))

  pub cleared_step : (t : terminal.Model) (s n : switch.Model) (c : CallId) (r : Result HeldLegs Fault) → r ≡ clear_told s c → n ≡ clears s c
      → Step limit u (pair_of t s up down) (Cleared c r) (pair_of t n up down)
  cleared_step t s n c r e i = (e, i, (refl, refl, refl))

  pub joined_step : (t n : terminal.Model) (s : switch.Model) (c : CallId) (r : Result Unit Fault) → r ≡ terminal.connect_checked t c → n ≡ terminal.connected t c
      → Step limit u (pair_of t s up down) (Joined c r) (pair_of n s up down)
  joined_step t n s c r e i = (e, i, (refl, refl, refl))

-- calls that send into a link
module _ (limit : ℕ → ℕ) (u : User) {X : Type 0} (waits : X → Waiting) (longest : ℕ) (sends : X → List ℕ → X → SendAnswer → Type 0)
    (sent : (a : X) (f : List ℕ) (b : X) (r : SendAnswer) → sends a f b r → Sent longest f (waits a) (waits b) r) where
  pub requested_step : (t n : terminal.Model) (s : switch.Model) (down : Waiting) (a b : X) (k : Ask) (c : CallId) (r : Result (Option Fault) Fault) → Requesting sends t k c a b r
      → n ≡ requested t k c → Step limit u (pair_of t s (waits a) down) (Requested k c r) (pair_of n s (waits b) down)
  requested_step t n s down a b k c r h e = (requesting_meant waits longest sends sent t k c a b r h, e, refl, refl)

  pub ticked_step : (t n : terminal.Model) (s : switch.Model) (down : Waiting) (a b : X) (r : TickedTold) → Ticking sends t a b r → n ≡ ticked t
      → Step limit u (pair_of t s (waits a) down) (Ticked r) (pair_of n s (waits b) down)
  ticked_step t n s down a b r h e = (ticking_meant waits longest sends sent t a b r h, e, refl, refl)

  pub notified_step : (t : terminal.Model) (s n : switch.Model) (up : Waiting) (a b : X) (r : Result NotifiedTold Fault) → Notifying sends u s n a b r
      → Step limit u (pair_of t s up (waits a)) (Notified u r) (pair_of t n up (waits b))
  notified_step t s n up a b r h =
      subst (λ z. NotifiedBy z u (pair_of t s up (waits a)) r (pair_of t n up (waits b))) (sym (is_self u.0)) (notifying_meant waits longest sends sent u s n a b r h, refl, refl)

  -- another user, over a link of his own
  pub notified_apart_step : (t : terminal.Model) (s n : switch.Model) (up down : Waiting) (v : User) (a b : X) (r : Result NotifiedTold Fault) → same v.0 u.0 ≡ false → Notifying sends v s n a b r
      → Step limit u (pair_of t s up down) (Notified v r) (pair_of t n up down)
  notified_apart_step t s n up down v a b r e h =
      subst (λ z. NotifiedBy z v (pair_of t s up down) r (pair_of t n up down)) (sym e)
      (record { down = waits a; down_after = waits b; notifying = notifying_meant waits longest sends sent v s n a b r h }, (refl, refl, refl))

-- calls that take from a link
module _ (limit : ℕ → ℕ) (u : User) {X : Type 0} (waits : X → Waiting) (longest : ℕ) (takes : X → List ℕ → X → List ℕ → TakeAnswer → Type 0)
    (taken : (a : X) (m : List ℕ) (b : X) (n : List ℕ) (r : TakeAnswer) → takes a m b n r → Taken longest m n (waits a) (waits b) r) where
  pub received_step : (t n : terminal.Model) (s : switch.Model) (up : Waiting) (a b : X) (r : Result ReceivedTold Fault) → Receiving takes t a n b r
      → Step limit u (pair_of t s up (waits a)) (Received r) (pair_of n s up (waits b))
  received_step t n s up a b r h = (receiving_meant waits longest takes taken h, refl, refl)

  module _ {Y : Type 0} (waits' : Y → Waiting) (longest' : ℕ) (sends : Y → List ℕ → Y → SendAnswer → Type 0)
      (sent : (a : Y) (f : List ℕ) (b : Y) (r : SendAnswer) → sends a f b r → Sent longest' f (waits' a) (waits' b) r) where
    pub served_step : (t : terminal.Model) (s n : switch.Model) (a b : X) (c d : Y) (r : Result ServedTold Fault) → Serving takes sends (limit u.0) u s n a b c d r
        → Step limit u (pair_of t s (waits a) (waits' c)) (Served u r) (pair_of t n (waits b) (waits' d))
    served_step t s n a b c d r h =
        subst (λ z. ServedBy z (limit u.0) u (pair_of t s (waits a) (waits' c)) r (pair_of t n (waits b) (waits' d))) (sym (is_self u.0))
        (serving_meant waits longest takes taken waits' longest' sends sent (limit u.0) u s n a b c d r h, refl)

    -- another user, over links of his own
    pub served_apart_step : (t : terminal.Model) (s n : switch.Model) (up down : Waiting) (v : User) (a b : X) (c d : Y) (r : Result ServedTold Fault) → same v.0 u.0 ≡ false
        → Serving takes sends (limit v.0) v s n a b c d r → Step limit u (pair_of t s up down) (Served v r) (pair_of t n up down)
    served_apart_step t s n up down v a b c d r e h =
        subst (λ z. ServedBy z (limit v.0) v (pair_of t s up down) r (pair_of t n up down)) (sym e) (
          record {
            up = waits a;
            up_after = waits b;
            down = waits' c;
            down_after = waits' d;
            serving = serving_meant waits longest takes taken waits' longest' sends sent (limit v.0) v s n a b c d r h;
          },
          (refl, refl, refl),
        )
