-- A list of calls played on a pair. Assumes nothing.
use Rattle.std.specs.Prelude.{◌≡◌, ℕ, List, ◌++◌, map, reverse}
use Rattle.register.specs.declared.register.Register.{Ghosts}
use Rattle.law.specs.Law.{Played}
use Rattle.law.specs.Run.{Run, Waiting, fresh_state}
use Rattle.law.specs.declared.event.Event.{Event}
use Rattle.pair.specs.View.{SamePair, call_of, limits_of, view}
use Rattle.pair.specs.declared.call.Call.{Call}
use Rattle.pair.specs.declared.ends.Pair.{Pair}

module _ {R X Y : Type 0} {G : Ghosts R} (limits : R → ℕ → ℕ) (ups : X → Waiting) (downs : Y → Waiting) where
  -- what playing calls on a pair leaves: what was told are these calls; they go on with whatever run led to the pair; and from a fresh pair,
  -- with a pool of any size, they are a run to the pair as it then is, after every part of which the sums stand
  pub record Plays (p : Pair R X Y G) (cs : List Call) (es : List Event) (q : Pair R X Y G) : Type 0 where
    pub calls : map call_of es ≡ cs
    pub same : SamePair p q
    pub onward : (size : ℕ) (old : List Event) → Run (limits_of limits ups downs p) size p.user old (view limits ups downs p) → Run (limits_of limits ups downs p) size p.user (reverse es ++ old) (view limits ups downs q)
    pub law : (size : ℕ) → view limits ups downs p ≡ fresh_state size → Played (limits_of limits ups downs p) size p.user es (view limits ups downs q)
