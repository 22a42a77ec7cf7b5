-- What a call does over real links is what it does over the lists of frames that wait in them. Assumes nothing.
use Rattle.std.proofs.Common.{ℕ, Bool, true, false, List, Some, None, Ok, Err, Option, Result, ap}
use Rattle.frames.specs.declared.content.CallId.{CallId}
use Rattle.frames.specs.declared.content.Frame.{Frame}
use Rattle.links.specs.Meaning.{SendAnswer, TakeAnswer, Sent, Taken}
use Rattle.records.specs.Notices.{next_notice}
use Rattle.records.specs.declared.notices.Notice.{Notice}
use Rattle.register.specs.User.{is_user}
use Rattle.register.specs.declared.user.User.{User}
use Rattle.signalling.specs.Carrying.{Pulling, Telling}
use Rattle.signalling.specs.declared.ask.Ask.{Ask}
use Rattle.switch.specs.Notifying.{Notifies, Notifying}
use Rattle.switch.specs.Serving.{Effect, effect, Acts, Answering, Serves, ServingBy, Serving, serve_checked}
use Rattle.switch.specs.Serving.Effect.{refused, repeated, fresh}
use Rattle.switch.specs.State as switch
use Rattle.switch.specs.declared.session.Session.{Session}
use Rattle.switch.specs.declared.told.Notified.{Notified}
use Rattle.switch.specs.declared.told.Served.{Served}
use Rattle.terminal.specs.Arriving.{Receiving}
use Rattle.terminal.specs.Asking.{Asks, Requesting, request_checked, Ticks, TicksBy, Ticking, due}
use Rattle.terminal.specs.State as terminal
use Rattle.terminal.specs.declared.request.Request.{Request}
use Rattle.terminal.specs.declared.told.Received.{Received}
use Rattle.terminal.specs.declared.told.Ticked.{Ticked}
use Rattle.text.specs.declared.fault.Fault.{Fault}
use Rattle.law.specs.Run.{Waiting, Sends, Takes}

-- a link with its two relations and laws
module _ {X : Type 0} (waits : X → Waiting) (longest : ℕ) (sends : X → List ℕ → X → SendAnswer → Type 0)
    (sent : (a : X) (f : List ℕ) (b : X) (r : SendAnswer) → sends a f b r → Sent longest f (waits a) (waits b) r) where
  pub telling_meant : {f : Frame} {a b : X} {told : Option Fault} → Telling sends f a b told → Telling Sends f (waits a) (waits b) told
  telling_meant {f} {a} {b} t =
      let s = t.sending in
      record {
        answer = t.answer;
        sending = record { bytes = s.bytes; written = s.written; sent = record { longest = longest; sent = sent a s.bytes b t.answer s.sent } };
        says = t.says;
      }

  asks_meant : (z : Result Unit Fault) (f : Frame) (a b : X) (r : Result (Option Fault) Fault) → Asks sends z f a b r → Asks Sends z f (waits a) (waits b) r
  asks_meant (Err e) f a b r h = (h.0, ap waits h.1)
  asks_meant (Ok u) f a b (Ok told) h = telling_meant h
  asks_meant (Ok u) f a b (Err e) h = h

  pub requesting_meant : (m : terminal.Model) (k : Ask) (c : CallId) (a b : X) (r : Result (Option Fault) Fault) → Requesting sends m k c a b r → Requesting Sends m k c (waits a) (waits b) r
  requesting_meant m k c a b r h = asks_meant (request_checked m k c) _ a b r h

  ticks_by_meant : (d : Bool) (q : Request) (x : Bool) (a b : X) (r : Ticked) → TicksBy sends d q x a b r → TicksBy Sends d q x (waits a) (waits b) r
  ticks_by_meant true q x a b r h = record { told = h.told; telling = telling_meant h.telling; says = h.says }
  ticks_by_meant false q x a b r h = (h.0, ap waits h.1)

  ticks_meant : (o : Option Request) (x : Bool) (a b : X) (r : Ticked) → Ticks sends o x a b r → Ticks Sends o x (waits a) (waits b) r
  ticks_meant None x a b r h = (h.0, ap waits h.1)
  ticks_meant (Some q) x a b r h = ticks_by_meant (due q) q x a b r h

  pub ticking_meant : (m : terminal.Model) (a b : X) (r : Ticked) → Ticking sends m a b r → Ticking Sends m (waits a) (waits b) r
  ticking_meant m a b r h = ticks_meant m.request m.exchange a b r h

  notifies_meant : (z : Bool) (o : Option Notice) (u : ℕ) (m n : switch.Model) (c d : X) (r : Result Notified Fault) → Notifies sends z o u m n c d r → Notifies Sends z o u m n (waits c) (waits d) r
  notifies_meant false o u m n c d r h = (h.0, h.1, ap waits h.2)
  notifies_meant true None u m n c d r h = (h.0, h.1, ap waits h.2)
  notifies_meant true (Some q) u m n c d r h = (record { fault = h.0.fault; telling = telling_meant h.0.telling; says = h.0.says }, h.1)

  pub notifying_meant : (u : User) (m n : switch.Model) (c d : X) (r : Result Notified Fault) → Notifying sends u m n c d r → Notifying Sends u m n (waits c) (waits d) r
  notifying_meant u m n c d r h = notifies_meant (is_user u.0) (next_notice u.0 m.records) u.0 m n c d r h

  answering_meant : {f : Frame} {told : Option Fault → Served} {c d : X} {r : Result Served Fault} → Answering sends f told c d r → Answering Sends f told (waits c) (waits d) r
  answering_meant h = record { fault = h.fault; telling = telling_meant h.telling; says = h.says }

  acts_meant : (e : Effect) (x : Bool) (m n : switch.Model) (c d : X) (r : Result Served Fault) → Acts sends e x m n c d r → Acts Sends e x m n (waits c) (waits d) r
  acts_meant (refused e) x m n c d r h = (h.0, h.1, ap waits h.2)
  acts_meant (repeated g) x m n c d r h = (answering_meant h.0, h.1)
  acts_meant (fresh g k) x m n c d r h = (answering_meant h.0, h.1)

  serves_meant : (limit : ℕ) (u : User) (s : Session) (came : Result (Option Frame) Fault) (m n : switch.Model) (c d : X) (r : Result Served Fault)
      → Serves sends limit u s came m n c d r → Serves Sends limit u s came m n (waits c) (waits d) r
  serves_meant limit u s (Err e) m n c d r h = (h.0, h.1, ap waits h.2)
  serves_meant limit u s (Ok None) m n c d r h = (h.0, h.1, ap waits h.2)
  serves_meant limit u s (Ok (Some f)) m n c d r h = acts_meant (effect limit m u s f) f.exchange m n c d r h

module _ {X : Type 0} (waits : X → Waiting) (longest : ℕ) (takes : X → List ℕ → X → List ℕ → TakeAnswer → Type 0)
    (taken : (a : X) (m : List ℕ) (b : X) (n : List ℕ) (r : TakeAnswer) → takes a m b n r → Taken longest m n (waits a) (waits b) r) where
  pub pulling_meant : {a b : X} {r : Result (Option Frame) Fault} → Pulling takes a b r → Pulling Takes (waits a) (waits b) r
  pulling_meant {a} {b} p =
      record { mem = p.mem; length = p.length; took = record { longest = longest; taken = taken a _ b p.mem (Ok p.length) p.took }; says = p.says }

  pub receiving_meant : {m : terminal.Model} {a : X} {n : terminal.Model} {b : X} {r : Result Received Fault} → Receiving takes m a n b r → Receiving Takes m (waits a) n (waits b) r
  receiving_meant h = record { came = h.came; pulling = pulling_meant h.pulling; outcome = h.outcome; state = h.state }

  module _ {Y : Type 0} (waits' : Y → Waiting) (longest' : ℕ) (sends : Y → List ℕ → Y → SendAnswer → Type 0)
      (sent : (a : Y) (f : List ℕ) (b : Y) (r : SendAnswer) → sends a f b r → Sent longest' f (waits' a) (waits' b) r) where
    serving_by_meant : (z : Result Session Fault) (limit : ℕ) (u : User) (m n : switch.Model) (a b : X) (c d : Y) (r : Result Served Fault)
        → ServingBy takes sends z limit u m n a b c d r → ServingBy Takes Sends z limit u m n (waits a) (waits b) (waits' c) (waits' d) r
    serving_by_meant (Err e) limit u m n a b c d r h = (h.0, h.1, ap waits h.2, ap waits' h.3)
    serving_by_meant (Ok s) limit u m n a b c d r h =
        record { came = h.came; pulling = pulling_meant h.pulling; serves = serves_meant waits' longest' sends sent limit u s h.came m n c d r h.serves }

    pub serving_meant : (limit : ℕ) (u : User) (m n : switch.Model) (a b : X) (c d : Y) (r : Result Served Fault)
        → Serving takes sends limit u m n a b c d r → Serving Takes Sends limit u m n (waits a) (waits b) (waits' c) (waits' d) r
    serving_meant limit u m n a b c d r h = serving_by_meant (serve_checked m u) limit u m n a b c d r h
