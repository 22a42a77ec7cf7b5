-- Serving and notifying on a pair: whose links are used, exactly. Assumes nothing.
use Rattle.std.specs.Prelude.{◌≡◌, ℕ, Bool, true, false, List, Result}
use Rattle.links.specs.Meaning.{SendAnswer, TakeAnswer}
use Rattle.register.specs.User.{same}
use Rattle.register.specs.declared.user.User.{User}
use Rattle.register.specs.declared.register.Register.{Ghosts}
use Rattle.switch.specs.Notifying.{Notifying}
use Rattle.switch.specs.Serving.{Serving}
use Rattle.switch.specs.State.{kept_register, state}
use Rattle.switch.specs.declared.told.Notified.{Notified}
use Rattle.switch.specs.declared.told.Served.{Served}
use Rattle.text.specs.declared.fault.Fault.{Fault}
use Rattle.pair.specs.View.{SwitchOnly}
use Rattle.pair.specs.declared.ends.Pair.{Pair}

abbrev pub SendsOf : Type 0 → Type 1
SendsOf Y = Y → List ℕ → Y → SendAnswer → Type 0

abbrev pub TakesOf : Type 0 → Type 1
TakesOf X = X → List ℕ → X → List ℕ → TakeAnswer → Type 0

module _ {R X Y V E : Type 0} {G : Ghosts R} (limits : R → ℕ → ℕ) (takes : TakesOf X) (sends : SendsOf Y) (their_takes : TakesOf V) (their_sends : SendsOf E) where
  -- by whether it is the pair's user: he is served over the pair's links, and the links handed in stay; any other over these
  abbrev pub ServesBy : Bool → User → Pair R X Y G → Pair R X Y G → V → V → E → E → Result Served Fault → Type 0
  ServesBy true u p q a b c d r = Serving takes sends (limits (kept_register p.switch) u.0) u (state p.switch) (state q.switch) p.up q.up p.down q.down r × (q.terminal ≡ p.terminal) × (b ≡ a) × (d ≡ c)
  ServesBy false u p q a b c d r = Serving their_takes their_sends (limits (kept_register p.switch) u.0) u (state p.switch) (state q.switch) a b c d r × SwitchOnly p q

  abbrev pub Serves : User → Pair R X Y G → Pair R X Y G → V → V → E → E → Result Served Fault → Type 0
  Serves u p q a b c d r = ServesBy (same u.0 p.user.0) u p q a b c d r

module _ {R X Y E : Type 0} {G : Ghosts R} (sends : SendsOf Y) (their_sends : SendsOf E) where
  abbrev pub NotifiesBy : Bool → User → Pair R X Y G → Pair R X Y G → E → E → Result Notified Fault → Type 0
  NotifiesBy true u p q c d r = Notifying sends u (state p.switch) (state q.switch) p.down q.down r × (q.terminal ≡ p.terminal) × (q.up ≡ p.up) × (d ≡ c)
  NotifiesBy false u p q c d r = Notifying their_sends u (state p.switch) (state q.switch) c d r × SwitchOnly p q

  abbrev pub Notifies : User → Pair R X Y G → Pair R X Y G → E → E → Result Notified Fault → Type 0
  Notifies u p q c d r = NotifiesBy (same u.0 p.user.0) u p q c d r
