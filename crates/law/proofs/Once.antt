-- No identifier stands twice among a terminal's calls: they rise, and each call at the terminal keeps that. Assumes nothing.
use Rattle.std.proofs.Common.{◌≡◌, ℕ, Bool, true, false, cond, eqb, ltb, List, [], ◌∷◌, Some, None, Ok, Err, Option, Result, sym, refl, ◌∙◌, subst, arith, eqb-true}
use Rattle.frames.specs.declared.content.CallId.{CallId}
use Rattle.frames.specs.declared.content.Cause.{Cause}
use Rattle.frames.specs.declared.content.Cause.TheVariants.{NotSubscribed, LimitReached, CallNotThere, AlreadyOnHold, NotOnHold, NoChannel}
use Rattle.frames.specs.declared.content.Frame.{Frame}
use Rattle.frames.specs.declared.content.News.{News}
use Rattle.frames.specs.declared.content.News.TheVariants.{PutOnHold, Retrieved, Released}
use Rattle.signalling.specs.declared.ask.Ask.{Ask}
use Rattle.signalling.specs.declared.ask.Ask.TheVariants.{Hold, Retrieve, Clear}
use Rattle.terminal.specs.Arriving.{Effect, effect, state_of, informed, settled, after_cause, receives}
use Rattle.terminal.specs.Arriving.Effect.{refused, stale, noted, closed}
use Rattle.terminal.specs.Asking.{opens, ticks}
use Rattle.terminal.specs.Calls.{rising, rising_from, find, without, own_to, other_to, mark, mark_other}
use Rattle.terminal.specs.State.{Model, connect_checked, connects, unmarked}
use Rattle.terminal.specs.declared.call.Call.{Call}
use Rattle.terminal.specs.declared.request.Request.{Request}
use Rattle.terminal.specs.declared.told.Reply.{Reply}
use Rattle.terminal.specs.declared.told.Reply.TheVariants.{Granted, Declined, Cleared}
use Rattle.terminal.proofs.Lawful.{find_below}
use Rattle.terminal.proofs.Marks.{and_right, fits, rising_more, rising_change, rising_without}
use Rattle.text.specs.declared.fault.Fault.{Fault}

-- a removed call is not found again
abbrev pub Once : List Call → Type 0
Once cs = (n : ℕ) → find n (without n cs) ≡ None

abbrev pub Rising : Model → Type 0
Rising m = rising m.last m.calls ≡ true

once_from : (k last : ℕ) (cs : List Call) → rising_from k last cs ≡ true → (n : ℕ) → find n (without n cs) ≡ None
once_from k last [] h n = refl
once_from k last (c ∷ cs) h n = go (eqb c.id.0 n) refl (once_from c.id.0 last cs rest n)
  where
    rest : rising_from c.id.0 last cs ≡ true
    rest = and_right (ltb k c.id.0) (rising_from c.id.0 last cs) h

    go : (b : Bool) → eqb c.id.0 n ≡ b → find n (without n cs) ≡ None → find n (cond b cs (c ∷ without n cs)) ≡ None
    go true t ih = find_below n c.id.0 last cs rest (omega (arith, eqb-true _ _ t))
    go false t ih = let P : Bool → Type 0 = λ x. cond x (Some c) (find n (without n cs)) ≡ None in subst P (sym t) ih

pub once : (m : Model) → Rising m → Once m.calls
once m h = once_from 0 m.last m.calls h

pub rising_connects : (m : Model) (c : CallId) (z : Result Unit Fault) → connect_checked m c ≡ z → Rising m → Rising (connects z m c)
rising_connects m c (Ok u) e h = rising_more 0 m.last m.calls (unmarked c) (fits m c u (sym e)).above h
rising_connects m c (Err x) e h = h

pub rising_opens : (m : Model) (k : Ask) (c : CallId) (z : Result Unit Fault) → Rising m → Rising (opens z m k c)
rising_opens m k c (Ok u) h = h
rising_opens m k c (Err x) h = h

pub rising_ticks : (m : Model) (q : Option Request) → Rising m → Rising (ticks q m)
rising_ticks m None h = h
rising_ticks m (Some q) h = h

rising_mark : (n last : ℕ) (b : Bool) (cs : List Call) → rising last cs ≡ true → rising last (mark n b cs) ≡ true
rising_mark n last b cs h = rising_change (own_to b) (λ _. refl) n 0 last cs ∙ h

rising_other : (n last : ℕ) (b : Bool) (cs : List Call) → rising last cs ≡ true → rising last (mark_other n b cs) ≡ true
rising_other n last b cs h = rising_change (other_to b) (λ _. refl) n 0 last cs ∙ h

rising_cause : (y : Cause) (n last : ℕ) (cs : List Call) → rising last cs ≡ true → rising last (after_cause y n cs) ≡ true
rising_cause NotSubscribed n last cs h = h
rising_cause LimitReached n last cs h = h
rising_cause CallNotThere n last cs h = rising_without n 0 last cs h
rising_cause AlreadyOnHold n last cs h = h
rising_cause NotOnHold n last cs h = h
rising_cause NoChannel n last cs h = h

rising_settled : (k : Ask) (r : Reply) (n last : ℕ) (cs : List Call) → rising last cs ≡ true → rising last (settled k r n cs) ≡ true
rising_settled Hold Granted n last cs h = rising_mark n last true cs h
rising_settled Retrieve Granted n last cs h = rising_mark n last false cs h
rising_settled Clear Granted n last cs h = h
rising_settled Hold (Declined c) n last cs h = rising_cause c n last cs h
rising_settled Retrieve (Declined c) n last cs h = rising_cause c n last cs h
rising_settled Clear (Declined c) n last cs h = rising_cause c n last cs h
rising_settled Hold Cleared n last cs h = rising_without n 0 last cs h
rising_settled Retrieve Cleared n last cs h = rising_without n 0 last cs h
rising_settled Clear Cleared n last cs h = rising_without n 0 last cs h

rising_informed : (w : News) (n last : ℕ) (cs : List Call) → rising last cs ≡ true → rising last (informed w n cs) ≡ true
rising_informed PutOnHold n last cs h = rising_other n last true cs h
rising_informed Retrieved n last cs h = rising_other n last false cs h
rising_informed Released n last cs h = rising_without n 0 last cs h

rising_state : (m : Model) (e : Effect) → Rising m → Rising (state_of e m)
rising_state m refused h = h
rising_state m stale h = h
rising_state m (noted c w) h = rising_informed w c.0 m.last m.calls h
rising_state m (closed k c r) h = rising_settled k r c.0 m.last m.calls h

pub rising_receives : (m : Model) (z : Result (Option Frame) Fault) → Rising m → Rising (receives m z)
rising_receives m (Err e) h = h
rising_receives m (Ok None) h = h
rising_receives m (Ok (Some f)) h = rising_state m (effect m f) h
