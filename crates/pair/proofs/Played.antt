-- What a loop that makes calls on a pair comes to. Assumes nothing.
use Rattle.std.proofs.Common.{◌≡◌, ℕ, ◌≤◌, List, [], ◌++◌, map, reverse, length, take, sym, ◌∙◌, subst, append-nil}
use Rattle.std.proofs.lemmas.List.{take_all}
use Rattle.register.specs.declared.register.Register.{Ghosts}
use Rattle.law.specs.Run.{Run, Waiting, fresh_state}
use Rattle.law.specs.Run.Run.{fresh}
use Rattle.law.specs.declared.event.Event.{Event}
use Rattle.law.proofs.Sums.{played}
use Rattle.pair.specs.Playing.{Plays}
use Rattle.pair.specs.View.{SamePair, call_of, limits_of, view}
use Rattle.pair.specs.declared.call.Call.{Call}
use Rattle.pair.specs.declared.ends.Pair.{Pair}

module _ {R X Y : Type 0} {G : Ghosts R} (limits : R → ℕ → ℕ) (ups : X → Waiting) (downs : Y → Waiting) where
  -- the history of the calls made on a pair goes on with whatever run led to it
  abbrev pub Since : Pair R X Y G → List Event → Pair R X Y G → Type 0
  Since o es p = (size : ℕ) (old : List Event) → Run (limits_of limits ups downs o) size o.user old (view limits ups downs o) → Run (limits_of limits ups downs o) size o.user (reverse es ++ old) (view limits ups downs p)

  pub plays : (o p : Pair R X Y G) (cs : List Call) (es : List Event) (k : ℕ) → length cs ≤ k → SamePair o p → map call_of es ≡ take k cs → Since o es p → Plays limits ups downs o cs es p
  plays o p cs es k le same h r =
      record { calls = h ∙ take_all k cs le; same = same; onward = r; law = λ size i. played (limits_of limits ups downs o) size o.user es (view limits ups downs p) (from size i) }
    where
      from : (size : ℕ) → view limits ups downs o ≡ fresh_state size → Run (limits_of limits ups downs o) size o.user (reverse es) (view limits ups downs p)
      from size i =
          subst (λ l. Run (limits_of limits ups downs o) size o.user l (view limits ups downs p)) (append-nil (reverse es))
          (r size [] (subst (λ p. Run (limits_of limits ups downs o) size o.user [] p) (sym i) fresh))
