-- What is written reads back. Assumes nothing.
use Rattle.std.proofs.Common.{◌≡◌, ℕ, ◌^◌, ◌<◌, Bool, true, false, ◌||◌, eqb, ltb, List, [], ◌∷◌, ◌++◌, length, get_or, Some, Ok, Err, Result, refl, ap, ◌∙◌, subst, arith}
use Rattle.std.proofs.Math.Nat.{mod-one}
use Rattle.std.proofs.lemmas.Bool.{le-ltb, ltb-false, or_from, or_parts}
use Rattle.frames.specs.declared.codes.Kind.{Kind}
use Rattle.frames.specs.declared.codes.Kind.TheVariants.{Request as request, Answer as answer, ClearRequest as clear_request, ClearAnswer as clear_answer, Notice as notice}
use Rattle.frames.specs.declared.content.Body.{Body}
use Rattle.frames.specs.declared.content.Body.TheVariants.{Request, Answer, ClearRequest, ClearAnswer, Notice}
use Rattle.frames.specs.declared.content.CallId.{CallId}
use Rattle.frames.specs.declared.content.Cause.TheVariants.{NotSubscribed, LimitReached, CallNotThere, AlreadyOnHold, NotOnHold, NoChannel}
use Rattle.frames.specs.declared.content.Frame.{Frame}
use Rattle.frames.specs.declared.content.News.TheVariants.{PutOnHold, Retrieved, Released}
use Rattle.frames.specs.declared.content.Operation.TheVariants.{Hold, Retrieve}
use Rattle.frames.specs.declared.content.Verdict.TheVariants.{Granted, Declined}
use Rattle.text.specs.declared.fault.Fault.{Fault}
use Rattle.frames.specs.declared.reader.Header.{Header}
use Rattle.frames.specs.Bits.{Fit, joined, parts}
use Rattle.frames.specs.Codes.{kind, kind_number, kind_of}
use Rattle.text.specs.Fault.{in_frame, after, unless}
use Rattle.frames.specs.Layout.{header_widths, no_call, bars_bit}
use Rattle.frames.specs.Read.{header, of_kind, reads, reads_header, reads_rest}
use Rattle.frames.specs.Write.{bit, header_fields, header_octets, framed, writes, writes_pdu}
use Rattle.text.proofs.Checks.{passed}
use Rattle.frames.proofs.Regroup.{joined_small, joined_parts, parts_joined, values}

kind_small : (k : Kind) → kind_number k < 2 ^ 4
kind_small request = omega arith
kind_small answer = omega arith
kind_small clear_request = omega arith
kind_small clear_answer = omega arith
kind_small notice = omega arith

kind_back : (k : Kind) → kind_of (kind_number k) ≡ Some k
kind_back request = refl
kind_back answer = refl
kind_back clear_request = refl
kind_back clear_answer = refl
kind_back notice = refl

bit_small : (b : Bool) → bit b < 2 ^ 1
bit_small true = omega arith
bit_small false = omega arith

bit_back : (b : Bool) → eqb (bit b) 1 ≡ b
bit_back true = refl
bit_back false = refl

call_small : (c : ℕ) → no_call c ≡ false → c < 2 ^ 16
call_small c e = let h = ltb-false 16383 c (or_parts (ltb c 1) (ltb 16383 c) e).1 in omega arith

abbrev header_of : Frame → ℕ → Header
header_of f n = record { kind = kind f.body; exchange = f.exchange; call = f.call; bits = n }

module _ (f : Frame) (n : ℕ) (few : n < 256) (call : no_call f.call.0 ≡ false) where
  fit : Fit (header_fields f n)
  fit = (kind_small (kind f.body), (omega arith, (bit_small f.exchange, (call_small f.call.0 call, (few, tt)))))

  -- the four bytes of a header hold its fields
  pub header_back : (more : List ℕ) → header (header_octets f n ++ more) ≡ values (header_fields f n)
  header_back more =
      ap (parts header_widths) (joined_parts (8 ∷ 8 ∷ 8 ∷ 8 ∷ []) (joined (header_fields f n)) (joined_small (header_fields f n) fit))
      ∙ parts_joined (header_fields f n) fit

  pub reads_header_back : bars_bit (kind f.body) f.exchange ≡ false → (more : List ℕ) → reads_header (header_octets f n ++ more) ≡ Ok (header_of f n)
  reads_header_back bars more =
      ap (λ h. of_kind (kind_of (get_or h 0 0)) h) (header_back more)
      ∙ ap (λ o. of_kind o (values (header_fields f n))) (kind_back (kind f.body))
      ∙ ap (λ x. unless (bars_bit (kind f.body) x) (in_frame 12 0) (unless (no_call f.call.0) (in_frame 13 1) (Ok (record { kind = kind f.body; exchange = x; call = f.call; bits = n })))) (bit_back f.exchange)
      ∙ ap (λ b. unless b (in_frame 12 0) (unless (no_call f.call.0) (in_frame 13 1) (Ok (header_of f n)))) bars
      ∙ ap (λ b. unless b (in_frame 13 1) (Ok (header_of f n))) call

-- n PDU bits in these bytes are read as this body
abbrev Says : Bool → CallId → Body → ℕ → List ℕ → Type 0
Says x c b n pdu = let f : Frame = record { exchange = x; call = c; body = b } in reads_rest (header_octets f n ++ pdu) (header_of f n) ≡ Ok f

-- a PDU that reads as its body, where there is one
abbrev Good : Bool → CallId → Body → Result (ℕ × List ℕ) Fault → Type 0
Good x c b (Ok p) = (p.0 < 256) × ((length p.1 < 29) × Says x c b p.0 p.1)
Good x c b (Err f) = Unit {0}

good : (x : Bool) (c : CallId) (b : Body) → Good x c b (writes_pdu b)
good x c (Request Hold) = (omega arith, (omega arith, refl))
good x c (Request Retrieve) = (omega arith, (omega arith, refl))
good x c (Answer Hold Granted) = (omega arith, (omega arith, refl))
good x c (Answer Retrieve Granted) = (omega arith, (omega arith, refl))
good x c (Answer Hold (Declined NotSubscribed)) = (omega arith, (omega arith, refl))
good x c (Answer Hold (Declined LimitReached)) = (omega arith, (omega arith, refl))
good x c (Answer Hold (Declined CallNotThere)) = (omega arith, (omega arith, refl))
good x c (Answer Hold (Declined AlreadyOnHold)) = (omega arith, (omega arith, refl))
good x c (Answer Hold (Declined NotOnHold)) = tt
good x c (Answer Hold (Declined NoChannel)) = tt
good x c (Answer Retrieve (Declined NotSubscribed)) = tt
good x c (Answer Retrieve (Declined LimitReached)) = tt
good x c (Answer Retrieve (Declined CallNotThere)) = (omega arith, (omega arith, refl))
good x c (Answer Retrieve (Declined AlreadyOnHold)) = tt
good x c (Answer Retrieve (Declined NotOnHold)) = (omega arith, (omega arith, refl))
good x c (Answer Retrieve (Declined NoChannel)) = (omega arith, (omega arith, refl))
good x c ClearRequest = (omega arith, (omega arith, simp mod-one))
good x c ClearAnswer = (omega arith, (omega arith, simp mod-one))
good x c (Notice PutOnHold) = (omega arith, (omega arith, refl))
good x c (Notice Retrieved) = (omega arith, (omega arith, refl))
good x c (Notice Released) = (omega arith, (omega arith, refl))

module _ (f : Frame) (bars : bars_bit (kind f.body) f.exchange ≡ false) (call : no_call f.call.0 ≡ false) where
  framed_back : (o : Result (ℕ × List ℕ) Fault) → Good f.exchange f.call f.body o → (bs : List ℕ) → framed f o ≡ Ok bs → reads bs ≡ Ok f
  framed_back (Err e) g bs p = let z : ◌≡◌ {A = ℕ} 0 1 = cc in absurd (omega arith)
  framed_back (Ok pdu) g bs p =
      let all = header_octets f pdu.0 ++ pdu.1 in
      let same : all ≡ bs = cc in
      let fits : (ltb (length all) 4 || ltb 32 (length all)) ≡ false = or_from (ltb (length all) 4) (ltb 32 (length all)) (le-ltb (length all) 4 (omega arith)) (le-ltb 32 (length all) (omega (arith, g.1.0))) in
      subst (λ l. reads l ≡ Ok f) same
      (ap (λ m. unless m (in_frame 11 (length all)) (after (reads_header all) (reads_rest all))) fits
      ∙ ap (λ h. after h (reads_rest all)) (reads_header_back f pdu.0 g.0 call bars pdu.1)
      ∙ g.1.1)

pub reads_back : (f : Frame) (bs : List ℕ) → writes f ≡ Ok bs → reads bs ≡ Ok f
reads_back f bs e =
    let bars = passed (bars_bit (kind f.body) f.exchange) (in_frame 12 0) _ bs e in
    let call = passed (no_call f.call.0) (in_frame 13 1) _ bs bars.1 in
    framed_back f bars.0 call.0 (writes_pdu f.body) (good f.exchange f.call f.body) bs call.1
