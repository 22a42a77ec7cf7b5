-- The writer does not refuse a frame that can be written, so posting it sends it. Assumes nothing.
use Rattle.std.proofs.Common.{◌≡◌, ℕ, ◌≤◌, Bool, true, false, List, is_some, Some, None, Ok, Option, Result, refl, ap, ◌∙◌, subst, arith}
use borrow.Author.Tests.{clash}
use Rattle.std.proofs.lemmas.Bool.Decides.{nat_tests}
use Rattle.std.specs.Result.{result_err}
use Rattle.frames.specs.Codes.{kind, cause_number}
use Rattle.frames.specs.Layout.{no_call, bars_bit}
use Rattle.frames.specs.Write.{writes_pdu, pdu_of, declined, framed}
use Rattle.frames.specs.declared.content.Body.{Body}
use Rattle.frames.specs.declared.content.Body.TheVariants.{Request, Answer, ClearRequest, ClearAnswer, Notice}
use Rattle.frames.specs.declared.content.CallId.{CallId}
use Rattle.frames.specs.declared.content.Frame.{Frame}
use Rattle.frames.specs.declared.content.News.{News}
use Rattle.frames.specs.declared.content.Operation.{Operation}
use Rattle.frames.specs.declared.content.Verdict.TheVariants.{Granted, Declined}
use Rattle.links.specs.Meaning.{SendAnswer}
use Rattle.text.specs.Fault.{in_frame, unless}
use Rattle.text.specs.declared.fault.Fault.{Fault}
use Rattle.signalling.specs.Carrying.{Posts, Posting, Sending, Telling}
use Rattle.signalling.specs.Writable.{lists, writable, Written}

-- identifiers from 1 to 16,383
pub in_range : (n : ℕ) → 1 ≤ n → n ≤ 16383 → no_call n ≡ false
in_range n low high = grind (arith, nat_tests)

-- the PDU of a body
declined_pdu : (o : Operation) (n : Option ℕ) → is_some n ≡ true → (p : ℕ × List ℕ) × (pdu_of (declined o n) ≡ Ok p)
declined_pdu o (Some n) h = (_, refl)
declined_pdu o None h = absurd (clash h)

pdu : (b : Body) → lists b ≡ true → (p : ℕ × List ℕ) × (writes_pdu b ≡ Ok p)
pdu (Request o) h = (_, refl)
pdu (Answer o Granted) h = (_, refl)
pdu (Answer o (Declined c)) h = declined_pdu o (cause_number o c) h
pdu ClearRequest h = (_, refl)
pdu ClearAnswer h = (_, refl)
pdu (Notice w) h = (_, refl)

-- what passes each of the writer's checks
pub checked : (f : Frame) → no_call f.call.0 ≡ false → bars_bit (kind f.body) f.exchange ≡ false → lists f.body ≡ true → Written f
checked f c x h =
    let p = pdu f.body h in
    let P : Bool → Bool → Result (List ℕ) Fault = λ s t. unless s (in_frame 12 0) (unless t (in_frame 13 1) (framed f (writes_pdu f.body))) in
    record { bytes = _; is = ap (λ s. P s (no_call f.call.0)) x ∙ ap (λ t. P false t) c ∙ ap (framed f) p.1 }

pub written : (f : Frame) → writable f ≡ true → Written f
written f h = let p = checked f in grind (arith, nat_tests, p)

-- a notice's frame
pub written_notice : (c : CallId) (w : News) → no_call c.0 ≡ false → Written (record { exchange = false; call = c; body = Notice w })
written_notice c w h = checked _ h refl refl

module _ {X : Type 0} (sends : X → List ℕ → X → SendAnswer → Type 0) where
  -- what was posted is sent, and its fault is told
  pub posted : (f : Frame) (a b : X) (r : SendAnswer) → Written f → Posting sends f a b r → Sending sends f a b r
  posted f a b r w p = record { bytes = w.bytes; written = w.is; sent = subst (λ x. Posts sends x a b r) w.is p }

  pub posted_told : (f : Frame) (a b : X) (r : SendAnswer) (told : Option Fault) → Written f → Posting sends f a b r → told ≡ result_err r → Telling sends f a b told
  posted_told f a b r told w p e = record { answer = r; sending = posted f a b r w p; says = e }
