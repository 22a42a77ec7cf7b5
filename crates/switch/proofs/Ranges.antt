-- A frame that is read has an identifier in range. Assumes nothing.
use Rattle.std.proofs.Common.{◌≡◌, ℕ, false, not, ◌||◌, eqb, ltb, List, length, get_or, take, Some, None, Ok, Option, sym, ap, ◌∙◌, arith}
use Rattle.frames.specs.Codes.{kind_of}
use Rattle.frames.specs.Layout.{bars_bit, no_call}
use Rattle.frames.specs.Read.{checks_length, frame, header, of_kind, reads, reads_body, reads_header, reads_rest}
use Rattle.frames.specs.declared.codes.Kind.{Kind}
use Rattle.frames.specs.declared.content.Frame.{Frame}
use Rattle.frames.specs.declared.reader.Header.{Header}
use Rattle.links.specs.Meaning.{TakeAnswer}
use Rattle.signalling.specs.Carrying.{Pulling, pulled}
use Rattle.text.proofs.Checks.{came, passed}
use Rattle.text.specs.Fault.{after, in_frame, unless}

abbrev read_header : Kind → List ℕ → Header
read_header k hs = record { kind = k; exchange = eqb (get_or hs 2 0) 1; call = record { 0 = get_or hs 3 0 }; bits = get_or hs 4 0 }

kind_call : (k : Option Kind) (hs : List ℕ) (h : Header) → of_kind k hs ≡ Ok h → no_call h.call.0 ≡ false
kind_call None hs h e = let z : ◌≡◌ {A = ℕ} 0 1 = cc in absurd (omega arith)
kind_call (Some k) hs h e =
    let p = passed (not (eqb (get_or hs 1 0) 0)) (in_frame 12 0) (unless (bars_bit k (eqb (get_or hs 2 0) 1)) (in_frame 12 0) (unless (no_call (get_or hs 3 0)) (in_frame 13 1) (Ok (read_header k hs)))) h e in
    let q = passed (bars_bit k (eqb (get_or hs 2 0) 1)) (in_frame 12 0) (unless (no_call (get_or hs 3 0)) (in_frame 13 1) (Ok (read_header k hs))) h p.1 in
    let r = passed (no_call (get_or hs 3 0)) (in_frame 13 1) (Ok (read_header k hs)) h q.1 in
    let s : read_header k hs ≡ h = cc r.1 in
    ap (λ (y : Header). no_call y.call.0) (sym s) ∙ r.0

rest_call : (bs : List ℕ) (h : Header) (f : Frame) → reads_rest bs h ≡ Ok f → f.call ≡ h.call
rest_call bs h f e =
    let p = came (checks_length h.bits bs) (λ _. after (reads_body h.kind h.bits bs) (λ b. Ok (frame h b))) f e in
    let q = came (reads_body h.kind h.bits bs) (λ b. Ok (frame h b)) f p.2 in
    let s : frame h q.0 ≡ f = cc q.2 in
    ap (λ (y : Frame). y.call) (sym s)

pub read_call : (bs : List ℕ) (f : Frame) → reads bs ≡ Ok f → no_call f.call.0 ≡ false
read_call bs f e =
    let p = passed (ltb (length bs) 4 || ltb 32 (length bs)) (in_frame 11 (length bs)) (after (reads_header bs) (reads_rest bs)) f e in
    let q = came (reads_header bs) (reads_rest bs) f p.1 in
    ap (λ y. no_call y.0) (rest_call bs q.0 f q.2) ∙ kind_call (kind_of (get_or (header bs) 0 0)) (header bs) q.0 q.1

module _ {X : Type 0} (takes : X → List ℕ → X → List ℕ → TakeAnswer → Type 0) where
  pub pulled_call : (a b : X) (f : Frame) → Pulling takes a b (Ok (Some f)) → no_call f.call.0 ≡ false
  pulled_call a b f p = go p.mem p.length p.says
    where
      go : (mem : List ℕ) (n : Option ℕ) → Ok (Some f) ≡ pulled mem n → no_call f.call.0 ≡ false
      go mem None e = let z : ◌≡◌ {A = ℕ} 0 1 = cc in absurd (omega arith)
      go mem (Some n) e =
          let q = came (reads (take n mem)) (λ x. Ok (Some x)) (Some f) (sym e) in
          let s : q.0 ≡ f = cc q.2 in
          ap (λ (y : Frame). no_call y.call.0) (sym s) ∙ read_call (take n mem) q.0 q.1
