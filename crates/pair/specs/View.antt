-- What a pair is to the law: its two ends, and the frames that wait in its links. Assumes nothing.
use Rattle.std.specs.Prelude.{◌≡◌, ℕ, List}
use Rattle.register.specs.declared.register.Register.{Ghosts}
use Rattle.switch.specs.State.{kept_register, state}
use Rattle.law.specs.Law.{Onward}
use Rattle.law.specs.Run.{Run, State, Step, Waiting}
use Rattle.law.specs.declared.event.Event.{Event}
use Rattle.law.specs.declared.event.Event.TheVariants.{Opened, Connected, Joined, Requested, Ticked, Received, Served, Notified, Cleared}
use Rattle.pair.specs.declared.call.Call.{Call}
use Rattle.pair.specs.declared.call.Call.TheVariants.{Open, Connect, Join, Request, Tick, Receive, Serve, Notify, Clear}
use Rattle.pair.specs.declared.ends.Pair.{Pair}

module _ {R X Y : Type 0} {G : Ghosts R} (limits : R → ℕ → ℕ) (ups : X → Waiting) (downs : Y → Waiting) where
  abbrev pub view : Pair R X Y G → State
  view p = record { terminal = p.terminal; switch = state p.switch; up = ups p.up; down = downs p.down }

  -- the limits of the register that the switch has
  abbrev pub limits_of : Pair R X Y G → ℕ → ℕ
  limits_of p = limits (kept_register p.switch)

  -- a call and what it told is a step of a run
  abbrev pub Steps : Pair R X Y G → Event → Pair R X Y G → Type 0
  Steps p e q = Step (limits_of p) p.user (view p) e (view q)

  -- whatever run led to the pair, the call makes it longer, and the sums stand after it
  abbrev pub GoesOn : Pair R X Y G → Event → Pair R X Y G → Type 0
  GoesOn p e q = (size : ℕ) (es : List Event) → Run (limits_of p) size p.user es (view p) → Onward (limits_of p) size p.user e (view q) es

  -- a call is both
  pub record Lawful (p : Pair R X Y G) (e : Event) (q : Pair R X Y G) : Type 0 where
    pub step : Steps p e q
    pub onward : GoesOn p e q

-- the user and the register stay
abbrev pub SamePair : {R X Y : Type 0} {G : Ghosts R} → Pair R X Y G → Pair R X Y G → Type 0
SamePair p q = (q.user ≡ p.user) × (kept_register q.switch ≡ kept_register p.switch)

-- the call that an event is of
abbrev pub call_of : Event → Call
call_of (Opened v r) = Open v
call_of (Connected c a b r) = Connect c a b
call_of (Joined c r) = Join c
call_of (Requested k c r) = Request k c
call_of (Ticked r) = Tick
call_of (Received r) = Receive
call_of (Served v r) = Serve v
call_of (Notified v r) = Notify v
call_of (Cleared c r) = Clear c

-- what a call leaves alone, beside the user and the register: all but the switch; all but the terminal; all but it and a link
abbrev pub SwitchOnly : {R X Y : Type 0} {G : Ghosts R} → Pair R X Y G → Pair R X Y G → Type 0
SwitchOnly p q = (q.terminal ≡ p.terminal) × (q.up ≡ p.up) × (q.down ≡ p.down)

abbrev pub TerminalOnly : {R X Y : Type 0} {G : Ghosts R} → Pair R X Y G → Pair R X Y G → Type 0
TerminalOnly p q = (q.user ≡ p.user) × (q.switch ≡ p.switch) × (q.up ≡ p.up) × (q.down ≡ p.down)

abbrev pub TerminalUp : {R X Y : Type 0} {G : Ghosts R} → Pair R X Y G → Pair R X Y G → Type 0
TerminalUp p q = (q.user ≡ p.user) × (q.switch ≡ p.switch) × (q.down ≡ p.down)

abbrev pub TerminalDown : {R X Y : Type 0} {G : Ghosts R} → Pair R X Y G → Pair R X Y G → Type 0
TerminalDown p q = (q.user ≡ p.user) × (q.switch ≡ p.switch) × (q.up ≡ p.up)
