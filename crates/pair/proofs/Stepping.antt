-- What a call on a pair does over its links is a step over the frames that wait in them, and goes on with whatever run led to it. Assumes nothing.
use Rattle.std.proofs.Common.{ℕ, Bool, true, false, List, Result, ap}
use Rattle.links.specs.Meaning.{SendAnswer, TakeAnswer, Sent, Taken}
use Rattle.register.specs.User.{same}
use Rattle.register.specs.declared.user.User.{User}
use Rattle.register.specs.declared.register.Register.{Ghosts}
use Rattle.switch.specs.State.{state}
use Rattle.switch.specs.declared.told.Notified.{Notified}
use Rattle.switch.specs.declared.told.Served.{Served}
use Rattle.text.specs.declared.fault.Fault.{Fault}
use Rattle.law.specs.Run.{NotifiedBy, ServedBy, Waiting}
use Rattle.law.specs.declared.event.Event.{Event}
use Rattle.law.specs.declared.event.Event.TheVariants.{Served as event_served, Notified as event_notified}
use Rattle.law.proofs.Meant.{notifying_meant, serving_meant}
use Rattle.law.proofs.Sums.{onward}
use Rattle.pair.specs.Serving.{Notifies, NotifiesBy, SendsOf, Serves, ServesBy, TakesOf}
use Rattle.pair.specs.View.{Lawful, Steps, limits_of, view}
use Rattle.pair.specs.declared.ends.Pair.{Pair}

-- the laws of a link
abbrev pub SentOf : {X : Type 0} → (X → Waiting) → ℕ → SendsOf X → Type 0
SentOf {X} waits longest sends = (a : X) (f : List ℕ) (b : X) (r : SendAnswer) → sends a f b r → Sent longest f (waits a) (waits b) r

abbrev pub TakenOf : {X : Type 0} → (X → Waiting) → ℕ → TakesOf X → Type 0
TakenOf {X} waits longest takes = (a : X) (m : List ℕ) (b : X) (n : List ℕ) (r : TakeAnswer) → takes a m b n r → Taken longest m n (waits a) (waits b) r

module _ {R X Y : Type 0} {G : Ghosts R} (limits : R → ℕ → ℕ) (ups : X → Waiting) (downs : Y → Waiting) where
  pub lawful : (p : Pair R X Y G) (e : Event) (q : Pair R X Y G) → Steps limits ups downs p e q → Lawful limits ups downs p e q
  lawful p e q s = record { step = s; onward = λ size es r. onward (limits_of limits ups downs p) size p.user {es = es} {e = e} {p = view limits ups downs p} {q = view limits ups downs q} s r }

  module _ {V E : Type 0} (long_up long_down long_their_up long_their_down : ℕ) (takes : TakesOf X) (taken : TakenOf ups long_up takes) (sends : SendsOf Y) (sent : SentOf downs long_down sends)
      (their_ups : V → Waiting) (their_downs : E → Waiting) (their_takes : TakesOf V) (their_taken : TakenOf their_ups long_their_up their_takes) (their_sends : SendsOf E) (their_sent : SentOf their_downs long_their_down their_sends) where
    served : (z : Bool) (u : User) (p q : Pair R X Y G) (a b : V) (c d : E) (r : Result Served Fault) → ServesBy limits takes sends their_takes their_sends z u p q a b c d r
        → ServedBy z (limits_of limits ups downs p u.0) u (view limits ups downs p) r (view limits ups downs q)
    served true u p q a b c d r h =
        (serving_meant ups long_up takes taken downs long_down sends sent (limits_of limits ups downs p u.0) u (state p.switch) (state q.switch) p.up q.up p.down q.down r h.0, h.1)
    served false u p q a b c d r h = (
      record {
        up = their_ups a;
        up_after = their_ups b;
        down = their_downs c;
        down_after = their_downs d;
        serving = serving_meant their_ups long_their_up their_takes their_taken their_downs long_their_down their_sends their_sent (limits_of limits ups downs p u.0) u (state p.switch) (state q.switch) a b c d r h.0;
      },
      (h.1.0, ap ups h.1.1, ap downs h.1.2),
    )

    pub serve_lawful : (u : User) (p q : Pair R X Y G) (a b : V) (c d : E) (r : Result Served Fault) → Serves limits takes sends their_takes their_sends u p q a b c d r → Lawful limits ups downs p (event_served u r) q
    serve_lawful u p q a b c d r h = lawful p (event_served u r) q (served (same u.0 p.user.0) u p q a b c d r h)

  module _ {E : Type 0} (long_down long_their_down : ℕ) (sends : SendsOf Y) (sent : SentOf downs long_down sends) (their_downs : E → Waiting) (their_sends : SendsOf E) (their_sent : SentOf their_downs long_their_down their_sends) where
    notified : (z : Bool) (u : User) (p q : Pair R X Y G) (c d : E) (r : Result Notified Fault) → NotifiesBy sends their_sends z u p q c d r → NotifiedBy z u (view limits ups downs p) r (view limits ups downs q)
    notified true u p q c d r h = (notifying_meant downs long_down sends sent u (state p.switch) (state q.switch) p.down q.down r h.0, h.1, ap ups h.2)
    notified false u p q c d r h = (
      record { down = their_downs c; down_after = their_downs d; notifying = notifying_meant their_downs long_their_down their_sends their_sent u (state p.switch) (state q.switch) c d r h.0 },
      (h.1.0, ap ups h.1.1, ap downs h.1.2),
    )

    pub notify_lawful : (u : User) (p q : Pair R X Y G) (c d : E) (r : Result Notified Fault) → Notifies sends their_sends u p q c d r → Lawful limits ups downs p (event_notified u r) q
    notify_lawful u p q c d r h = lawful p (event_notified u r) q (notified (same u.0 p.user.0) u p q c d r h)
