-- What is read is the encoding of its content. Assumes nothing.
use Rattle.std.proofs.Common.{◌≡◌, ℕ, ◌+◌, ◌-◌, ◌/◌, ◌%◌, ◌^◌, ◌<◌, Bool, true, false, cond, not, ◌&&◌, ◌||◌, eqb, ltb, List, [], ◌∷◌, ◌++◌, length, get_or, Some, None, Ok, Option, Result, sym, refl, ap, ◌∙◌, subst, arith}
use Rattle.std.proofs.lemmas.Bool.{and_parts, eqb-true, not-false}
use Rattle.std.proofs.lemmas.Bool.Decides.{nat_tests}
use Rattle.frames.specs.declared.bits.Field.{Field}
use Rattle.frames.specs.declared.codes.Kind.{Kind}
use Rattle.frames.specs.declared.codes.Kind.TheVariants.{Request as request, Answer as answer, ClearRequest as clear_request, ClearAnswer as clear_answer, Notice as notice}
use Rattle.frames.specs.declared.content.Body.{Body}
use Rattle.frames.specs.declared.content.Body.TheVariants.{Request, Answer, ClearRequest, ClearAnswer, Notice}
use Rattle.frames.specs.declared.content.Cause.{Cause}
use Rattle.frames.specs.declared.content.Frame.{Frame}
use Rattle.frames.specs.declared.content.News.{News}
use Rattle.frames.specs.declared.content.Operation.{Operation}
use Rattle.frames.specs.declared.content.Verdict.{Verdict}
use Rattle.frames.specs.declared.content.Verdict.TheVariants.{Granted, Declined}
use Rattle.text.specs.declared.fault.Fault.{Fault}
use Rattle.frames.specs.declared.reader.Header.{Header}
use Rattle.frames.specs.Bits.{field, Fit, joined, octets, parts}
use Rattle.frames.specs.Codes.{bearing, is, kind, kind_number, kind_of, kinds, operations, causes, all_news, ss_type, request_type, request_of, answer_type, answer_of, cause_number, cause_of, news_number, news_of}
use Rattle.text.specs.Fault.{in_frame, unless}
use Rattle.text.specs.Laws.{Bytes}
use Rattle.frames.specs.Layout.{header_widths, pdu_octets, filling, no_call, bars_bit}
use Rattle.frames.specs.Read.{header, of_kind, reads, reads_header, reads_rest, checks_length, pdu, reads_pdu, requested, verdict, reads_verdict, answered, noticed, reads_body, frame}
use Rattle.frames.specs.Write.{bit, header_octets, declined, framed, pdu_of, writes, writes_pdu}
use Rattle.text.proofs.Checks.{passed, came}
use Rattle.frames.proofs.Regroup.{joined_small, joined_parts, parts_fit, parts_joined}

-- a check of two numbers that passed: they are one
equal : {X : Type 0} (a b : ℕ) (f : Fault) (r : Result X Fault) (x : X) → unless (not (eqb a b)) f r ≡ Ok x → (a ≡ b) × (r ≡ Ok x)
equal a b f r x e = let p = passed (not (eqb a b)) f r x e in (eqb-true a b (not-false (eqb a b) p.0), p.1)

-- what is found under a number bears it
borne : (n : ℕ) (o : Option ℕ) → is n o ≡ true → o ≡ Some n
borne n None e = let z : ◌≡◌ {A = ℕ} 0 1 = cc in absurd (omega arith)
borne n (Some m) e = ap Some (sym (eqb-true n m e))

found : {X : Type 0} (number : X → Option ℕ) (xs : List X) (n : ℕ) (y : X) → bearing number xs n ≡ Some y → number y ≡ Some n
found number [] n y e = let z : ◌≡◌ {A = ℕ} 0 1 = cc in absurd (omega arith)
found {X} number (x ∷ xs) n y e = go (is n (number x)) refl e (found number xs n y)
  where
    go : (b : Bool) → is n (number x) ≡ b → cond b (Some x) (bearing number xs n) ≡ Some y → (bearing number xs n ≡ Some y → number y ≡ Some n) → number y ≡ Some n
    go true t p ih = let same : x ≡ y = cc in subst (λ z. number z ≡ Some n) same (borne n (number x) t)
    go false t p ih = ih p

-- the fields of a header that was accepted
record Accepted (hd : List ℕ) (h : Header) : Type 0 where
  numbered : kind_number h.kind ≡ get_or hd 0 0
  zeros : get_or hd 1 0 ≡ 0
  exchange : h.exchange ≡ eqb (get_or hd 2 0) 1
  call : h.call.0 ≡ get_or hd 3 0
  bits : h.bits ≡ get_or hd 4 0
  allowed : bars_bit h.kind h.exchange ≡ false
  in_range : no_call h.call.0 ≡ false

accepted : (hd : List ℕ) (o : Option Kind) (h : Header) → kind_of (get_or hd 0 0) ≡ o → of_kind o hd ≡ Ok h → Accepted hd h
accepted hd None h k e = let z : ◌≡◌ {A = ℕ} 0 1 = cc in absurd (omega arith)
accepted hd (Some kd) h k e =
    let zeros = equal (get_or hd 1 0) 0 (in_frame 12 0) _ h e in
    let bars = passed (bars_bit kd (eqb (get_or hd 2 0) 1)) (in_frame 12 0) _ h zeros.1 in
    let call = passed (no_call (get_or hd 3 0)) (in_frame 13 1) _ h bars.1 in
    let same : record { kind = kd; exchange = eqb (get_or hd 2 0) 1; call = record { 0 = get_or hd 3 0 }; bits = get_or hd 4 0 } ≡ h = cc in
    subst (Accepted hd) same (record {
      numbered = let b = found (λ k. Some (kind_number k)) kinds (get_or hd 0 0) kd k in cc;
      zeros = zeros.0;
      exchange = refl;
      call = refl;
      bits = refl;
      allowed = bars.0;
      in_range = call.0;
    })

bit_of : (x : ℕ) → x < 2 → bit (eqb x 1) ≡ x
bit_of x h = grind (arith, nat_tests)

module _ (b0 b1 b2 b3 : ℕ) (more : List ℕ) (small : Bytes (b0 ∷ b1 ∷ b2 ∷ b3 ∷ more)) where
  fit : Fit (octets (b0 ∷ b1 ∷ b2 ∷ b3 ∷ []))
  fit = (small 0, (small 1, (small 2, (small 3, tt))))

  -- the fields that were read are written into the bytes that they were read of
  header_same : (b : Body) (h : Header) → kind b ≡ h.kind → Accepted (header (b0 ∷ b1 ∷ b2 ∷ b3 ∷ more)) h → header_octets (frame h b) h.bits ≡ b0 ∷ b1 ∷ b2 ∷ b3 ∷ []
  header_same b h k a =
      let number = joined (octets (b0 ∷ b1 ∷ b2 ∷ b3 ∷ [])) in
      let below = joined_small (octets (b0 ∷ b1 ∷ b2 ∷ b3 ∷ [])) fit in
      let kd = ap kind_number k ∙ a.numbered in
      let ex = ap bit a.exchange ∙ bit_of (get_or (header (b0 ∷ b1 ∷ b2 ∷ b3 ∷ more)) 2 0) (parts_fit header_widths number below).1.1.0 in
      ap (parts (8 ∷ 8 ∷ 8 ∷ 8 ∷ []))
      (ap joined (λ i. field 4 (kd i) ∷ field 3 (sym a.zeros i) ∷ field 1 (ex i) ∷ field 16 (a.call i) ∷ field 8 (a.bits i) ∷ [])
      ∙ joined_parts header_widths number below)
      ∙ parts_joined (octets (b0 ∷ b1 ∷ b2 ∷ b3 ∷ [])) fit

-- the PDU of the body that was read is the bytes after the header
record Same (k : Kind) (n : ℕ) (more : List ℕ) (b : Body) : Type 0 where
  of_kind : kind b ≡ k
  written : writes_pdu b ≡ Ok (n, more)

-- the bytes fit the number of bits, and those past it are zero
record Sized (n : ℕ) (bs : List ℕ) : Type 0 where
  long : length bs ≡ 4 + pdu_octets n
  zeros : get_or bs (length bs - 1) 0 % 2 ^ filling n ≡ 0

sized : (n : ℕ) (bs : List ℕ) → checks_length n bs ≡ Ok tt → Sized n bs
sized n bs e =
    let long = equal (length bs) (4 + pdu_octets n) (in_frame 14 3) _ tt e in
    let zeros = equal (get_or bs (length bs - 1) 0 % 2 ^ filling n) 0 (in_frame 14 3) _ tt long.1 in
    record { long = long.0; zeros = zeros.0 }

-- the PDU was there and of this service
of_service : (n : ℕ) (bs p : List ℕ) → reads_pdu n bs ≡ Ok p → (get_or (pdu bs) 0 0 ≡ ss_type) × (p ≡ pdu bs)
of_service n bs p e =
    let there = passed (ltb n 11) (in_frame 15 4) _ p e in
    let type = equal (get_or (pdu bs) 0 0) ss_type (in_frame 15 4) _ p there.1 in
    (type.0, cc)

-- two bytes after a header of four
two : (b0 b1 b2 b3 : ℕ) (more : List ℕ) → length (b0 ∷ b1 ∷ b2 ∷ b3 ∷ more) ≡ 6 → more ≡ get_or more 0 0 ∷ get_or more 1 0 ∷ []
two b0 b1 b2 b3 [] e = absurd (omega arith)
two b0 b1 b2 b3 (x ∷ []) e = absurd (omega arith)
two b0 b1 b2 b3 (x ∷ y ∷ []) e = refl
two b0 b1 b2 b3 (x ∷ y ∷ z ∷ zs) e = absurd (omega arith)

one_byte : (b0 b1 b2 b3 : ℕ) (more : List ℕ) → length (b0 ∷ b1 ∷ b2 ∷ b3 ∷ more) ≡ 5 → more ≡ get_or more 0 0 ∷ []
one_byte b0 b1 b2 b3 [] e = absurd (omega arith)
one_byte b0 b1 b2 b3 (x ∷ []) e = refl
one_byte b0 b1 b2 b3 (x ∷ y ∷ ys) e = absurd (omega arith)

no_byte : (b0 b1 b2 b3 : ℕ) (more : List ℕ) → length (b0 ∷ b1 ∷ b2 ∷ b3 ∷ more) ≡ 4 → more ≡ []
no_byte b0 b1 b2 b3 [] e = refl
no_byte b0 b1 b2 b3 (x ∷ xs) e = absurd (omega arith)

module _ (b0 b1 b2 b3 : ℕ) (more : List ℕ) (small : Bytes (b0 ∷ b1 ∷ b2 ∷ b3 ∷ more)) where
  -- bits that join into the number of two bytes are these bytes
  two_same : (fs : List Field) → length (b0 ∷ b1 ∷ b2 ∷ b3 ∷ more) ≡ 6 → joined fs ≡ joined (octets (get_or more 0 0 ∷ get_or more 1 0 ∷ [])) → parts (8 ∷ 8 ∷ []) (joined fs) ≡ more
  two_same fs long e =
      ap (parts (8 ∷ 8 ∷ [])) e
      ∙ parts_joined (octets (get_or more 0 0 ∷ get_or more 1 0 ∷ [])) (small 4, (small 5, tt))
      ∙ sym (two b0 b1 b2 b3 more long)

  -- m bits in two bytes: what is past them in the last one is zero
  in_two : (n m : ℕ) → n ≡ m → pdu_octets m ≡ 2 → Sized n (b0 ∷ b1 ∷ b2 ∷ b3 ∷ more) → (length (b0 ∷ b1 ∷ b2 ∷ b3 ∷ more) ≡ 6) × (get_or more 1 0 % 2 ^ filling m ≡ 0)
  in_two n m e two sz =
      let bs = b0 ∷ b1 ∷ b2 ∷ b3 ∷ more in
      let long : length bs ≡ 6 = sz.long ∙ ap (λ k. 4 + pdu_octets k) e ∙ ap (λ k. 4 + k) two in
      (long, subst (λ k. get_or bs (k - 1) 0 % 2 ^ filling m ≡ 0) long (subst (λ k. get_or bs (length bs - 1) 0 % 2 ^ filling k ≡ 0) e sz.zeros))

  requested_same : (n : ℕ) (o : Option Operation) (b : Body) → Sized n (b0 ∷ b1 ∷ b2 ∷ b3 ∷ more) → get_or (pdu (b0 ∷ b1 ∷ b2 ∷ b3 ∷ more)) 0 0 ≡ ss_type → request_of (get_or (pdu (b0 ∷ b1 ∷ b2 ∷ b3 ∷ more)) 1 0) ≡ o → requested n o ≡ Ok b → Same request n more b
  requested_same n None b sz ss t e = let z : ◌≡◌ {A = ℕ} 0 1 = cc in absurd (omega arith)
  requested_same n (Some o) b sz ss t e =
      let bs = b0 ∷ b1 ∷ b2 ∷ b3 ∷ more in
      let count = equal n 11 (in_frame 17 3) _ b e in
      let eleven = count.0 in
      let tail = in_two n 11 eleven refl sz in
      let same : Request o ≡ b = cc in
      let type : request_type o ≡ get_or (pdu bs) 1 0 = let f = found (λ k. Some (request_type k)) operations (get_or (pdu bs) 1 0) o t in cc in
      let h = small 4 in
      let l = small 5 in
      subst (Same request n more) same (record {
        of_kind = refl;
        written = λ i. Ok (sym eleven i, two_same (field 6 ss_type ∷ field 5 (request_type o) ∷ field 5 0 ∷ []) tail.0 (omega arith) i);
      })

  verdict_same : (n : ℕ) (o : Operation) (g d : Bool) (c : Option Cause) (v : Verdict) → Sized n (b0 ∷ b1 ∷ b2 ∷ b3 ∷ more) → get_or (pdu (b0 ∷ b1 ∷ b2 ∷ b3 ∷ more)) 0 0 ≡ ss_type → answer_type o ≡ get_or (pdu (b0 ∷ b1 ∷ b2 ∷ b3 ∷ more)) 1 0 → (eqb n 12 && eqb (get_or (pdu (b0 ∷ b1 ∷ b2 ∷ b3 ∷ more)) 2 0) 1) ≡ g → (eqb n 15 && eqb (get_or (pdu (b0 ∷ b1 ∷ b2 ∷ b3 ∷ more)) 2 0) 0) ≡ d → cause_of o (get_or (pdu (b0 ∷ b1 ∷ b2 ∷ b3 ∷ more)) 3 0) ≡ c → verdict g d c ≡ Ok v → writes_pdu (Answer o v) ≡ Ok (n, more)
  verdict_same n o true d c v sz ss t g e cs p =
      let bs = b0 ∷ b1 ∷ b2 ∷ b3 ∷ more in
      let both = and_parts (eqb n 12) (eqb (get_or (pdu bs) 2 0) 1) g in
      let twelve = eqb-true n 12 both.0 in
      let one = eqb-true (get_or (pdu bs) 2 0) 1 both.1 in
      let tail = in_two n 12 twelve refl sz in
      let same : Granted ≡ v = cc in
      let h = small 4 in
      let l = small 5 in
      subst (λ w. writes_pdu (Answer o w) ≡ Ok (n, more)) same
      (λ i. Ok (sym twelve i, two_same (field 6 ss_type ∷ field 5 (answer_type o) ∷ field 1 1 ∷ field 4 0 ∷ []) tail.0 (omega arith) i))
  verdict_same n o false true None v sz ss t g e cs p = let z : ◌≡◌ {A = ℕ} 0 1 = cc in absurd (omega arith)
  verdict_same n o false true (Some c) v sz ss t g e cs p =
      let bs = b0 ∷ b1 ∷ b2 ∷ b3 ∷ more in
      let both = and_parts (eqb n 15) (eqb (get_or (pdu bs) 2 0) 0) e in
      let fifteen = eqb-true n 15 both.0 in
      let zero = eqb-true (get_or (pdu bs) 2 0) 0 both.1 in
      let tail = in_two n 15 fifteen refl sz in
      let same : Declined c ≡ v = cc in
      let number = found (cause_number o) causes (get_or (pdu bs) 3 0) c cs in
      let h = small 4 in
      let l = small 5 in
      subst (λ w. writes_pdu (Answer o w) ≡ Ok (n, more)) same
      (ap (λ k. pdu_of (declined o k)) number
      ∙ (λ i. Ok (sym fifteen i, two_same (field 6 ss_type ∷ field 5 (answer_type o) ∷ field 1 0 ∷ field 3 (get_or (pdu bs) 3 0) ∷ field 1 0 ∷ []) tail.0 (omega arith) i)))
  verdict_same n o false false c v sz ss t g e cs p = let z : ◌≡◌ {A = ℕ} 0 1 = cc in absurd (omega arith)

  answered_same : (n : ℕ) (o : Option Operation) (b : Body) → Sized n (b0 ∷ b1 ∷ b2 ∷ b3 ∷ more) → get_or (pdu (b0 ∷ b1 ∷ b2 ∷ b3 ∷ more)) 0 0 ≡ ss_type → answer_of (get_or (pdu (b0 ∷ b1 ∷ b2 ∷ b3 ∷ more)) 1 0) ≡ o → answered n (pdu (b0 ∷ b1 ∷ b2 ∷ b3 ∷ more)) o ≡ Ok b → Same answer n more b
  answered_same n None b sz ss t e = let z : ◌≡◌ {A = ℕ} 0 1 = cc in absurd (omega arith)
  answered_same n (Some o) b sz ss t e =
      let bs = b0 ∷ b1 ∷ b2 ∷ b3 ∷ more in
      let p = came (reads_verdict o n (get_or (pdu bs) 2 0) (get_or (pdu bs) 3 0)) (λ v. Ok (Answer o v)) b e in
      let same : Answer o p.0 ≡ b = cc p.2 in
      let type : answer_type o ≡ get_or (pdu bs) 1 0 = let f = found (λ k. Some (answer_type k)) operations (get_or (pdu bs) 1 0) o t in cc in
      subst (Same answer n more) same (record { of_kind = refl; written = verdict_same n o _ _ _ p.0 sz ss type refl refl refl p.1 })

  notice_same : (n : ℕ) (w : Option News) (b : Body) → Sized n (b0 ∷ b1 ∷ b2 ∷ b3 ∷ more) → n ≡ 8 → news_of (get_or more 0 0) ≡ w → noticed w ≡ Ok b → Same notice n more b
  notice_same n None b sz eight t e = let z : ◌≡◌ {A = ℕ} 0 1 = cc in absurd (omega arith)
  notice_same n (Some w) b sz eight t e =
      let same : Notice w ≡ b = cc in
      let number : news_number w ≡ get_or more 0 0 = let f = found (λ k. Some (news_number k)) all_news (get_or more 0 0) w t in cc in
      let value : joined (field 8 (news_number w) ∷ field 0 0 ∷ []) / 1 ≡ get_or more 0 0 = omega arith in
      let one = one_byte b0 b1 b2 b3 more (sz.long ∙ ap (λ k. 4 + pdu_octets k) eight) in
      subst (Same notice n more) same (record {
        of_kind = refl;
        written = λ i. Ok (sym eight i, (ap (λ k. k ∷ []) value ∙ sym one) i);
      })

  bare_same : (n : ℕ) → Sized n (b0 ∷ b1 ∷ b2 ∷ b3 ∷ more) → n ≡ 0 → ◌≡◌ {A = Result (ℕ × List ℕ) Fault} (Ok (0, [])) (Ok (n, more))
  bare_same n sz none = λ i. Ok (sym none i, sym (no_byte b0 b1 b2 b3 more (sz.long ∙ ap (λ k. 4 + pdu_octets k) none)) i)

  body_same : (k : Kind) (n : ℕ) (b : Body) → Sized n (b0 ∷ b1 ∷ b2 ∷ b3 ∷ more) → reads_body k n (b0 ∷ b1 ∷ b2 ∷ b3 ∷ more) ≡ Ok b → Same k n more b
  body_same request n b sz e =
      let bs = b0 ∷ b1 ∷ b2 ∷ b3 ∷ more in
      let p = came (reads_pdu n bs) (λ p. requested n (request_of (get_or p 1 0))) b e in
      let service = of_service n bs p.0 p.1 in
      requested_same n _ b sz service.0 refl (subst (λ q. requested n (request_of (get_or q 1 0)) ≡ Ok b) service.1 p.2)
  body_same answer n b sz e =
      let bs = b0 ∷ b1 ∷ b2 ∷ b3 ∷ more in
      let p = came (reads_pdu n bs) (λ p. answered n p (answer_of (get_or p 1 0))) b e in
      let service = of_service n bs p.0 p.1 in
      answered_same n _ b sz service.0 refl (subst (λ q. answered n q (answer_of (get_or q 1 0)) ≡ Ok b) service.1 p.2)
  body_same clear_request n b sz e =
      let p = equal n 0 (in_frame 17 3) _ b e in
      let same : ClearRequest ≡ b = cc in
      subst (Same clear_request n more) same (record { of_kind = refl; written = bare_same n sz p.0 })
  body_same clear_answer n b sz e =
      let p = equal n 0 (in_frame 17 3) _ b e in
      let same : ClearAnswer ≡ b = cc in
      subst (Same clear_answer n more) same (record { of_kind = refl; written = bare_same n sz p.0 })
  body_same notice n b sz e =
      let p = equal n 8 (in_frame 17 3) _ b e in
      notice_same n _ b sz p.0 refl p.1

  long_exact : (f : Frame) → reads (b0 ∷ b1 ∷ b2 ∷ b3 ∷ more) ≡ Ok f → writes f ≡ Ok (b0 ∷ b1 ∷ b2 ∷ b3 ∷ more)
  long_exact f e =
      let bs = b0 ∷ b1 ∷ b2 ∷ b3 ∷ more in
      let p = passed (ltb (length bs) 4 || ltb 32 (length bs)) (in_frame 11 (length bs)) _ f e in
      let head = came (reads_header bs) (reads_rest bs) f p.1 in
      let h = head.0 in
      let fits = came (checks_length h.bits bs) _ f head.2 in
      let body = came (reads_body h.kind h.bits bs) (λ b. Ok (frame h b)) f fits.2 in
      let b = body.0 in
      let same : frame h b ≡ f = cc body.2 in
      let a = accepted (header bs) (kind_of (get_or (header bs) 0 0)) h refl head.1 in
      let pdu_same = body_same h.kind h.bits b (sized h.bits bs fits.1) body.1 in
      subst (λ g. writes g ≡ Ok bs) same
      (ap (λ x. unless x (in_frame 12 0) (unless (no_call h.call.0) (in_frame 13 1) (framed (frame h b) (writes_pdu b)))) (ap (λ k. bars_bit k h.exchange) pdu_same.of_kind ∙ a.allowed)
      ∙ ap (λ x. unless x (in_frame 13 1) (framed (frame h b) (writes_pdu b))) a.in_range
      ∙ ap (framed (frame h b)) pdu_same.written
      ∙ ap (λ l. Ok (l ++ more)) (header_same b0 b1 b2 b3 more small b h pdu_same.of_kind a))

-- what is read of bytes is the content whose encoding they are
pub exact : (bs : List ℕ) → Bytes bs → (f : Frame) → reads bs ≡ Ok f → writes f ≡ Ok bs
exact [] small f e = let z : ◌≡◌ {A = ℕ} 0 1 = cc in absurd (omega arith)
exact (a ∷ []) small f e = let z : ◌≡◌ {A = ℕ} 0 1 = cc in absurd (omega arith)
exact (a ∷ b ∷ []) small f e = let z : ◌≡◌ {A = ℕ} 0 1 = cc in absurd (omega arith)
exact (a ∷ b ∷ c ∷ []) small f e = let z : ◌≡◌ {A = ℕ} 0 1 = cc in absurd (omega arith)
exact (a ∷ b ∷ c ∷ d ∷ more) small f e = long_exact a b c d more small f e
