-- The laws of receiving. Assumes nothing.
use Rattle.std.proofs.Common.{◌≡◌, ℕ, ◌≤◌, Bool, true, false, cond, ◌&&◌, eqb, List, [], ◌∷◌, is_some, Some, None, Ok, Err, Option, Result, sym, refl, ap, subst, arith, eqb-true}
use mathlib.Core.Bool.{beq}
use Rattle.std.proofs.lemmas.Bool.{and_parts}
use Rattle.std.proofs.lemmas.Bool.Decides.{nat_tests}
use Rattle.frames.specs.declared.content.Body.{Body}
use Rattle.frames.specs.declared.content.Body.TheVariants.{Request as request_body, Answer, ClearRequest, ClearAnswer, Notice as notice_body}
use Rattle.frames.specs.declared.content.CallId.{CallId}
use Rattle.frames.specs.declared.content.Cause.{Cause}
use Rattle.frames.specs.declared.content.Frame.{Frame}
use Rattle.frames.specs.declared.content.News.{News}
use Rattle.links.specs.Meaning.{TakeAnswer}
use Rattle.signalling.proofs.Asks.{same_asked}
use Rattle.signalling.specs.Ask.{asked_by, same_ask}
use Rattle.signalling.specs.declared.ask.Ask.{Ask}
use Rattle.signalling.specs.declared.ask.Ask.TheVariants.{Clear}
use Rattle.text.specs.declared.fault.Fault.{Fault}
use Rattle.terminal.specs.Arriving.{reply_of, counts, heard, answered, effect_of, told_of, state_of, settled, after_cause, informed, received, receives, Receiving}
use Rattle.terminal.specs.Arriving.Effect.{stale, closed}
use Rattle.terminal.specs.Calls.{rising_from, rising, find, mark, mark_other, without}
use Rattle.terminal.specs.Laws.{shown, grants_by, KeptOpen, Closing, Lawful}
use Rattle.terminal.specs.State.{Model}
use Rattle.terminal.specs.declared.call.Call.{Call}
use Rattle.terminal.specs.declared.request.Request.{Request}
use Rattle.terminal.specs.declared.told.Received.{Received}
use Rattle.terminal.specs.declared.told.Reply.{Reply}
use Rattle.terminal.specs.declared.told.Reply.TheVariants.{Cleared}

-- the other party's mark leaves the own mark
shown_other : (n i : ℕ) (b : Bool) (cs : List Call) → shown i (mark_other n b cs) ≡ shown i cs
shown_other n i b [] = refl
shown_other n i b (c ∷ cs) = let ih = shown_other n i b cs in grind (arith, nat_tests, ih)

-- a call's own mark leaves the others'
shown_own : (n i : ℕ) (b : Bool) (cs : List Call) → eqb n i ≡ false → shown i (mark n b cs) ≡ shown i cs
shown_own n i b [] ne = refl
shown_own n i b (c ∷ cs) ne = let ih = shown_own n i b cs ne in grind (arith, nat_tests, ih)

-- identifiers not above the first are not found
pub find_below : (n k last : ℕ) (cs : List Call) → rising_from k last cs ≡ true → n ≤ k → find n cs ≡ None
find_below n k last [] h le = refl
find_below n k last (c ∷ cs) h le = let ih = find_below n c.id.0 last cs in grind (arith, nat_tests, ih)

-- a call that is held after a removal has its own mark
shown_without : (n i k last : ℕ) (cs : List Call) → rising_from k last cs ≡ true → is_some (find i (without n cs)) ≡ true → shown i (without n cs) ≡ shown i cs
shown_without n i k last [] h is = refl
shown_without n i k last (c ∷ cs) h is = let ih = shown_without n i c.id.0 last cs in let low = find_below i c.id.0 last cs in grind (arith, nat_tests, ih, low)

-- own marks after news
news_marks : (w : News) (n i last : ℕ) (cs : List Call) → rising last cs ≡ true → is_some (find i (informed w n cs)) ≡ true → shown i (informed w n cs) ≡ shown i cs
news_marks w n i last cs h is =
    let other = shown_other n i in
    let gone = shown_without n i 0 last cs h in
    grind (arith, other, gone)

-- own marks after the answer to a request
cause_marks : (x : Cause) (n i last : ℕ) (cs : List Call) → rising last cs ≡ true → is_some (find i (after_cause x n cs)) ≡ true → shown i (after_cause x n cs) ≡ shown i cs
cause_marks x n i last cs h is = let gone = shown_without n i 0 last cs h in grind (arith, gone)

reply_marks : (k : Ask) (r : Reply) (c : CallId) (i last : ℕ) (cs : List Call) → rising last cs ≡ true → is_some (find i (settled k r c.0 cs)) ≡ true → grants_by r c i ≡ false → shown i (settled k r c.0 cs) ≡ shown i cs
reply_marks k r c i last cs h is ne =
    let own = shown_own c.0 i in
    let declined = λ (x : Cause). cause_marks x c.0 i last cs h in
    let gone = shown_without c.0 i 0 last cs h in
    grind (arith, own, declined, gone)

-- what leaves the state, and tells of no answer
still : {m : Model} {r : Result Received Fault} → Closing r m m ≡ KeptOpen m m → Lawful m m r
still {m} e = record { marks = λ i is ne. refl; closing = subst (λ P. P) (sym e) (record { request = refl; exchange = refl }); last = refl }

lawful_answer : (m : Model) (q : Request) (k : Ask) (f : Frame) (r : Reply) → rising m.last m.calls ≡ true → m.request ≡ Some q → Lawful m (state_of (answered q m.exchange k f r) m) (told_of (answered q m.exchange k f r))
lawful_answer m q k f r h was = go (counts q m.exchange k f) refl
  where
    go : (b : Bool) → counts q m.exchange k f ≡ b → Lawful m (state_of (cond b (closed k f.call r) stale) m) (told_of (cond b (closed k f.call r) stale))
    go true e =
        let t = and_parts _ _ (and_parts (beq m.exchange f.exchange) (eqb q.call.0 f.call.0 && same_ask q.ask k) e).1 in
        let at : q.call.0 ≡ f.call.0 = eqb-true _ _ t.0 in
        record { marks = λ i is ne. reply_marks k r f.call i m.last m.calls h is ne; closing = record { was = q; open_before = was; ask = same_asked q.ask k t.1; call = ap (λ n. record { 0 = n }) at; none_after = refl; exchange = refl }; last = refl }
    go false e = still refl

lawful_news : (m : Model) (o : Option Call) (c : CallId) (w : News) → rising m.last m.calls ≡ true → Lawful m (state_of (heard o c w) m) (told_of (heard o c w))
lawful_news m (Some x) c w h = record { marks = λ i is ne. news_marks w c.0 i m.last m.calls h is; closing = record { request = refl; exchange = refl }; last = refl }
lawful_news m None c w h = still refl

-- a frame that arrives is lawful
pub lawful_effect : (m : Model) (f : Frame) (q : Option Request) (b : Body) → rising m.last m.calls ≡ true → m.request ≡ q → Lawful m (state_of (effect_of m f q b) m) (told_of (effect_of m f q b))
lawful_effect m f None (request_body o) h was = still refl
lawful_effect m f None ClearRequest h was = still refl
lawful_effect m f None (notice_body w) h was = lawful_news m (find f.call.0 m.calls) f.call w h
lawful_effect m f None (Answer o v) h was = still refl
lawful_effect m f None ClearAnswer h was = still refl
lawful_effect m f (Some q) (request_body o) h was = still refl
lawful_effect m f (Some q) ClearRequest h was = still refl
lawful_effect m f (Some q) (notice_body w) h was = lawful_news m (find f.call.0 m.calls) f.call w h
lawful_effect m f (Some q) (Answer o v) h was = lawful_answer m q (asked_by o) f (reply_of v) h was
lawful_effect m f (Some q) ClearAnswer h was = lawful_answer m q Clear f Cleared h was

lawful : (m : Model) (came : Result (Option Frame) Fault) → rising m.last m.calls ≡ true → Lawful m (receives m came) (received m came)
lawful m (Err e) h = still refl
lawful m (Ok None) h = still refl
lawful m (Ok (Some f)) h = lawful_effect m f m.request f.body h refl

-- receiving is lawful
pub receiving_lawful : {X : Type 0} (takes : X → List ℕ → X → List ℕ → TakeAnswer → Type 0) (m : Model) (a : X) (n : Model) (b : X) (r : Result Received Fault) → rising m.last m.calls ≡ true → Receiving takes m a n b r → Lawful m n r
receiving_lawful takes m a n b r h v =
    let P : Model → Type 0 = λ x. Lawful m x r in
    let Q : Result Received Fault → Type 0 = λ y. Lawful m (receives m v.came) y in
    subst P (sym v.state) (subst Q (sym v.outcome) (lawful m v.came h))
