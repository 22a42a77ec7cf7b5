-- What the reader answers, with its checks in their order. Assumes nothing.
use Rattle.std.specs.Prelude.{ℕ, ◌+◌, ◌-◌, ◌%◌, ◌^◌, Bool, true, false, not, ◌&&◌, ◌||◌, List, [], ◌∷◌, length, Some, None, Ok, Err, Option, Result, ◌==◌, nat_lt, slice_index}
use Rattle.frames.specs.declared.codes.Kind.{Kind}
use Rattle.frames.specs.declared.codes.Kind.TheVariants.{Request as request, Answer as answer, ClearRequest as clear_request, ClearAnswer as clear_answer, Notice as notice}
use Rattle.frames.specs.declared.content.Body.{Body}
use Rattle.frames.specs.declared.content.Body.TheVariants.{Request, Answer, ClearRequest, ClearAnswer, Notice}
use Rattle.frames.specs.declared.content.Cause.{Cause}
use Rattle.frames.specs.declared.content.Frame.{Frame}
use Rattle.frames.specs.declared.content.News.{News}
use Rattle.frames.specs.declared.content.Operation.{Operation}
use Rattle.frames.specs.declared.content.Verdict.{Verdict}
use Rattle.frames.specs.declared.content.Verdict.TheVariants.{Granted, Declined}
use Rattle.text.specs.declared.fault.Fault.{Fault}
use Rattle.frames.specs.declared.reader.Header.{Header}
use Rattle.frames.specs.Bits.{joined, octets, parts}
use Rattle.frames.specs.Codes.{kind_of, ss_type, request_of, answer_of, cause_of, news_of}
use Rattle.text.specs.Fault.{in_frame, after, unless}
use Rattle.frames.specs.Layout.{header_widths, pdu_widths, pdu_octets, filling, no_call, bars_bit}

-- the fields of the first four bytes
abbrev pub header : List ℕ → List ℕ
header bs = parts header_widths (joined (octets (slice_index bs 0 ∷ slice_index bs 1 ∷ slice_index bs 2 ∷ slice_index bs 3 ∷ [])))

abbrev pub of_kind : Option Kind → List ℕ → Result Header Fault
of_kind None h = Err (in_frame 12 0)
of_kind (Some k) h =
    unless (not (slice_index h 1 == 0)) (in_frame 12 0)
    (unless (bars_bit k (slice_index h 2 == 1)) (in_frame 12 0)
    (unless (no_call (slice_index h 3)) (in_frame 13 1)
    (Ok (record { kind = k; exchange = (slice_index h 2 == 1); call = record { 0 = slice_index h 3 }; bits = slice_index h 4 }))))

abbrev pub reads_header : List ℕ → Result Header Fault
reads_header bs = of_kind (kind_of (slice_index (header bs) 0)) (header bs)

-- the PDU takes the bytes that its bits ask for, and ends in zeros
abbrev pub checks_length : ℕ → List ℕ → Result Unit Fault
checks_length n bs =
    unless (not (length bs == 4 + pdu_octets n)) (in_frame 14 3)
    (unless (not (slice_index bs (length bs - 1) % 2 ^ filling n == 0)) (in_frame 14 3)
    (Ok tt))

-- the fields of a PDU of the service
abbrev pub pdu : List ℕ → List ℕ
pdu bs = parts pdu_widths (joined (octets (slice_index bs 4 ∷ slice_index bs 5 ∷ [])))

abbrev pub reads_pdu : ℕ → List ℕ → Result (List ℕ) Fault
reads_pdu n bs =
    unless (nat_lt n 11) (in_frame 15 4)
    (unless (not (slice_index (pdu bs) 0 == ss_type)) (in_frame 15 4)
    (Ok (pdu bs)))

abbrev pub requested : ℕ → Option Operation → Result Body Fault
requested n None = Err (in_frame 16 4)
requested n (Some o) = unless (not (n == 11)) (in_frame 17 3) (Ok (Request o))

abbrev pub reads_request : ℕ → List ℕ → Result Body Fault
reads_request n bs = after (reads_pdu n bs) (λ p. requested n (request_of (slice_index p 1)))

-- granted in 12 bits with result 1, declined in 15 with result 0 and a listed cause
abbrev pub listed : Option Cause → Result Verdict Fault
listed None = Err (in_frame 17 3)
listed (Some c) = Ok (Declined c)

abbrev pub verdict : Bool → Bool → Option Cause → Result Verdict Fault
verdict true declined c = Ok Granted
verdict false true c = listed c
verdict false false c = Err (in_frame 17 3)

abbrev pub reads_verdict : Operation → ℕ → ℕ → ℕ → Result Verdict Fault
reads_verdict o n result cause = verdict (n == 12 && result == 1) (n == 15 && result == 0) (cause_of o cause)

abbrev pub answered : ℕ → List ℕ → Option Operation → Result Body Fault
answered n p None = Err (in_frame 16 4)
answered n p (Some o) = after (reads_verdict o n (slice_index p 2) (slice_index p 3)) (λ v. Ok (Answer o v))

abbrev pub reads_answer : ℕ → List ℕ → Result Body Fault
reads_answer n bs = after (reads_pdu n bs) (λ p. answered n p (answer_of (slice_index p 1)))

abbrev pub noticed : Option News → Result Body Fault
noticed None = Err (in_frame 17 3)
noticed (Some w) = Ok (Notice w)

abbrev pub reads_notice : ℕ → List ℕ → Result Body Fault
reads_notice n bs = unless (not (n == 8)) (in_frame 17 3) (noticed (news_of (slice_index bs 4)))

abbrev pub reads_bare : ℕ → Body → Result Body Fault
reads_bare n b = unless (not (n == 0)) (in_frame 17 3) (Ok b)

abbrev pub reads_body : Kind → ℕ → List ℕ → Result Body Fault
reads_body request n bs = reads_request n bs
reads_body answer n bs = reads_answer n bs
reads_body clear_request n bs = reads_bare n ClearRequest
reads_body clear_answer n bs = reads_bare n ClearAnswer
reads_body notice n bs = reads_notice n bs

abbrev pub frame : Header → Body → Frame
frame h b = record { exchange = h.exchange; call = h.call; body = b }

abbrev pub reads_rest : List ℕ → Header → Result Frame Fault
reads_rest bs h = after (checks_length h.bits bs) (λ _. after (reads_body h.kind h.bits bs) (λ b. Ok (frame h b)))

-- what is read of bytes
abbrev pub reads : List ℕ → Result Frame Fault
reads bs = unless (nat_lt (length bs) 4 || nat_lt 32 (length bs)) (in_frame 11 (length bs)) (after (reads_header bs) (reads_rest bs))
