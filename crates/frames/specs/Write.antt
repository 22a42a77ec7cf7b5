-- What the writer answers. Assumes nothing.
use Rattle.std.specs.Prelude.{ℕ, Bool, true, false, List, [], ◌∷◌, ◌++◌, replicate, Some, None, Ok, Err, Option, Result}
use Rattle.frames.specs.declared.bits.Field.{Field}
use Rattle.frames.specs.declared.content.Body.{Body}
use Rattle.frames.specs.declared.content.Body.TheVariants.{Request, Answer, ClearRequest, ClearAnswer, Notice}
use Rattle.frames.specs.declared.content.Frame.{Frame}
use Rattle.frames.specs.declared.content.Operation.{Operation}
use Rattle.frames.specs.declared.content.Verdict.TheVariants.{Granted, Declined}
use Rattle.frames.specs.declared.refusal.Refusal.{Refusal}
use Rattle.text.specs.declared.fault.Fault.{Fault}
use Rattle.frames.specs.declared.writer.pdu.Pdu.{Pdu}
use Rattle.frames.specs.Bits.{field, total, joined, parts}
use Rattle.frames.specs.Codes.{kind, kind_number, ss_type, request_type, answer_type, cause_number, news_number}
use Rattle.text.specs.Fault.{in_frame, unless}
use Rattle.frames.specs.Layout.{pdu_octets, filling, no_call, bars_bit}
use Rattle.frames.specs.Refusal.{told}
use Rattle.text.specs.Octets.{held}

abbrev pub bit : Bool → ℕ
bit true = 1
bit false = 0

-- the fields of the header of a frame with n PDU bits
abbrev pub header_fields : Frame → ℕ → List Field
header_fields f n = field 4 (kind_number (kind f.body)) ∷ field 3 0 ∷ field 1 (bit f.exchange) ∷ field 16 f.call.0 ∷ field 8 n ∷ []

abbrev pub header_octets : Frame → ℕ → List ℕ
header_octets f n = parts (8 ∷ 8 ∷ 8 ∷ 8 ∷ []) (joined (header_fields f n))

-- a declined operation tells its cause, if it lists that
abbrev pub declined : Operation → Option ℕ → Result (List Field) Fault
declined o (Some n) = Ok (field 6 ss_type ∷ field 5 (answer_type o) ∷ field 1 0 ∷ field 3 n ∷ [])
declined o None = Err (in_frame 17 3)

-- the fields of a PDU
abbrev pub pdu_fields : Body → Result (List Field) Fault
pdu_fields (Request o) = Ok (field 6 ss_type ∷ field 5 (request_type o) ∷ [])
pdu_fields (Answer o Granted) = Ok (field 6 ss_type ∷ field 5 (answer_type o) ∷ field 1 1 ∷ [])
pdu_fields (Answer o (Declined c)) = declined o (cause_number o c)
pdu_fields ClearRequest = Ok []
pdu_fields ClearAnswer = Ok []
pdu_fields (Notice w) = Ok (field 8 (news_number w) ∷ [])

-- the bytes of a PDU, filled up with zero bits
abbrev pub filled : List Field → List Field
filled fs = fs ++ field (filling (total fs)) 0 ∷ []

abbrev pub packed : List Field → List ℕ
packed fs = parts (replicate (pdu_octets (total fs)) 8) (joined (filled fs))

abbrev pub pdu_of : Result (List Field) Fault → Result (ℕ × List ℕ) Fault
pdu_of (Ok fs) = Ok (total fs, packed fs)
pdu_of (Err f) = Err f

abbrev pub writes_pdu : Body → Result (ℕ × List ℕ) Fault
writes_pdu b = pdu_of (pdu_fields b)

abbrev pub framed : Frame → Result (ℕ × List ℕ) Fault → Result (List ℕ) Fault
framed f (Ok p) = Ok (header_octets f p.0 ++ p.1)
framed f (Err e) = Err e

-- what is written of a content, with the checks in their order
abbrev pub writes : Frame → Result (List ℕ) Fault
writes f =
    unless (bars_bit (kind f.body) f.exchange) (in_frame 12 0)
    (unless (no_call f.call.0) (in_frame 13 1)
    (framed f (writes_pdu f.body)))

-- an answer by the number and bytes that it holds
abbrev pub told_pdu : Result Pdu Refusal → Result (ℕ × List ℕ) Fault
told_pdu (Ok p) = Ok (p.bits, held p.octets)
told_pdu (Err r) = Err (told r)
