-- Every run of a pair: a switch, one user's terminal and a link each way; other users are at the same switch. Assumes nothing.
use Rattle.std.specs.Prelude.{◌≡◌, ℕ, Bool, true, false, List, [], ◌∷◌, Result}
use Rattle.links.specs.Meaning.{SendAnswer, TakeAnswer, Sent, Taken}
use Rattle.register.specs.User.{same}
use Rattle.register.specs.declared.user.User.{User}
use Rattle.switch.specs.Clearing.{clear_told, clears}
use Rattle.switch.specs.Connecting.{connect_checked, connected}
use Rattle.switch.specs.Notifying.{Notifying}
use Rattle.switch.specs.Opening.{open_checked, opened}
use Rattle.switch.specs.Serving.{Serving}
use Rattle.switch.specs.State as switch
use Rattle.switch.specs.declared.told.Notified.{Notified as NotifiedTold}
use Rattle.switch.specs.declared.told.Served.{Served as ServedTold}
use Rattle.terminal.specs.Arriving.{Receiving}
use Rattle.terminal.specs.Asking.{Requesting, requested, Ticking, ticked}
use Rattle.terminal.specs.State as terminal
use Rattle.text.specs.declared.fault.Fault.{Fault}
use Rattle.law.specs.declared.event.Event.{Event}
use Rattle.law.specs.declared.event.Event.TheVariants.{Opened, Connected, Joined, Requested, Ticked, Received, Served, Notified, Cleared}

-- the frames that wait in a link, as bytes
abbrev pub Waiting : Type 0
Waiting = List (List ℕ)

-- both ends, and the frames that wait on the way up to the switch and down to the terminal
pub record State : Type 0 where
  pub terminal : terminal.Model
  pub switch : switch.Model
  pub up : Waiting
  pub down : Waiting

abbrev pub pair_of : terminal.Model → switch.Model → Waiting → Waiting → State
pair_of t s up down = record { terminal = t; switch = s; up = up; down = down }

abbrev pub fresh_state : ℕ → State
fresh_state size = pair_of terminal.fresh (switch.fresh size) [] []

-- what a send and a take of some link mean, whatever its longest frame
pub record Sends (old : Waiting) (f : List ℕ) (new : Waiting) (r : SendAnswer) : Type 0 where
  pub longest : ℕ
  pub sent : Sent longest f old new r

pub record Takes (old : Waiting) (before : List ℕ) (new : Waiting) (after : List ℕ) (r : TakeAnswer) : Type 0 where
  pub longest : ℕ
  pub taken : Taken longest before after old new r

-- serving and notifying a user who has links of his own, whatever these hold and answer
pub record ServingApart (limit : ℕ) (v : User) (m n : switch.Model) (r : Result ServedTold Fault) : Type 0 where
  pub up : Waiting
  pub up_after : Waiting
  pub down : Waiting
  pub down_after : Waiting
  pub serving : Serving Takes Sends limit v m n up up_after down down_after r

pub record NotifyingApart (v : User) (m n : switch.Model) (r : Result NotifiedTold Fault) : Type 0 where
  pub down : Waiting
  pub down_after : Waiting
  pub notifying : Notifying Sends v m n down down_after r

-- the terminal and both links stay; the switch and both links stay
abbrev pub SwitchAlone : State → State → Type 0
SwitchAlone p q = (q.terminal ≡ p.terminal) × (q.up ≡ p.up) × (q.down ≡ p.down)

abbrev pub TerminalAlone : State → State → Type 0
TerminalAlone p q = (q.switch ≡ p.switch) × (q.up ≡ p.up) × (q.down ≡ p.down)

-- serving, by whether it is the pair's user, who has the pair's links
abbrev pub ServedBy : Bool → ℕ → User → State → Result ServedTold Fault → State → Type 0
ServedBy true limit v p r q = Serving Takes Sends limit v p.switch q.switch p.up q.up p.down q.down r × (q.terminal ≡ p.terminal)
ServedBy false limit v p r q = ServingApart limit v p.switch q.switch r × SwitchAlone p q

-- notifying, likewise
abbrev pub NotifiedBy : Bool → User → State → Result NotifiedTold Fault → State → Type 0
NotifiedBy true v p r q = Notifying Sends v p.switch q.switch p.down q.down r × (q.terminal ≡ p.terminal) × (q.up ≡ p.up)
NotifiedBy false v p r q = NotifyingApart v p.switch q.switch r × SwitchAlone p q

-- one call on the pair of the user u, over a register with these limits: the state before, the call and what it told, the state after
abbrev pub Step : (ℕ → ℕ) → User → State → Event → State → Type 0
Step limit u p (Opened v r) q = (r ≡ open_checked p.switch v) × (q.switch ≡ opened p.switch v) × SwitchAlone p q
Step limit u p (Connected c a b r) q = (r ≡ connect_checked p.switch c a b) × (q.switch ≡ connected p.switch c a b) × SwitchAlone p q
Step limit u p (Joined c r) q = (r ≡ terminal.connect_checked p.terminal c) × (q.terminal ≡ terminal.connected p.terminal c) × TerminalAlone p q
Step limit u p (Requested k c r) q =
    Requesting Sends p.terminal k c p.up q.up r × (q.terminal ≡ requested p.terminal k c) × (q.switch ≡ p.switch) × (q.down ≡ p.down)
Step limit u p (Ticked r) q = Ticking Sends p.terminal p.up q.up r × (q.terminal ≡ ticked p.terminal) × (q.switch ≡ p.switch) × (q.down ≡ p.down)
Step limit u p (Received r) q = Receiving Takes p.terminal p.down q.terminal q.down r × (q.switch ≡ p.switch) × (q.up ≡ p.up)
Step limit u p (Served v r) q = ServedBy (same v.0 u.0) (limit v.0) v p r q
Step limit u p (Notified v r) q = NotifiedBy (same v.0 u.0) v p r q
Step limit u p (Cleared c r) q = (r ≡ clear_told p.switch c) × (q.switch ≡ clears p.switch c) × SwitchAlone p q

-- a run from a fresh pair: the calls made and what each told, the latest first, and the state after them
pub data Run (limit : ℕ → ℕ) (size : ℕ) (u : User) : List Event → State → Type 0 where
  fresh : Run limit size u [] (fresh_state size)
  then : {es : List Event} {e : Event} {p q : State} → Run limit size u es p → Step limit u p e q → Run limit size u (e ∷ es) q
