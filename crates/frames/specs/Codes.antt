-- Kinds, PDU types, causes and news by their numbers, and back. Assumes nothing.
use Rattle.std.specs.Prelude.{ℕ, Bool, false, List, [], ◌∷◌, Some, None, Option, ◌==◌}
use Rattle.std.specs.List.{find}
use Rattle.frames.specs.declared.codes.Kind.{Kind}
use Rattle.frames.specs.declared.codes.Kind.TheVariants.{Request as request, Answer as answer, ClearRequest as clear_request, ClearAnswer as clear_answer, Notice as notice}
use Rattle.frames.specs.declared.codes.PduType.{PduType}
use Rattle.frames.specs.declared.codes.PduType.TheVariants.{Request as request_for, Answer as answer_to}
use Rattle.frames.specs.declared.content.Body.{Body}
use Rattle.frames.specs.declared.content.Body.TheVariants.{Request, Answer, ClearRequest, ClearAnswer, Notice}
use Rattle.frames.specs.declared.content.Cause.{Cause}
use Rattle.frames.specs.declared.content.Cause.TheVariants.{NotSubscribed, LimitReached, CallNotThere, AlreadyOnHold, NotOnHold, NoChannel}
use Rattle.frames.specs.declared.content.News.{News}
use Rattle.frames.specs.declared.content.News.TheVariants.{PutOnHold, Retrieved, Released}
use Rattle.frames.specs.declared.content.Operation.{Operation}
use Rattle.frames.specs.declared.content.Operation.TheVariants.{Hold, Retrieve}

abbrev pub is : ℕ → Option ℕ → Bool
is n None = false
is n (Some m) = n == m

-- the first of some values that bears a number
abbrev pub bearing : {X : Type 0} → (X → Option ℕ) → List X → ℕ → Option X
bearing number xs n = find (λ x. is n (number x)) xs

abbrev pub kind : Body → Kind
kind (Request o) = request
kind (Answer o v) = answer
kind ClearRequest = clear_request
kind ClearAnswer = clear_answer
kind (Notice w) = notice

abbrev pub kind_number : Kind → ℕ
kind_number request = 1
kind_number answer = 2
kind_number clear_request = 3
kind_number clear_answer = 4
kind_number notice = 5

abbrev pub kinds : List Kind
kinds = request ∷ answer ∷ clear_request ∷ clear_answer ∷ notice ∷ []

abbrev pub kind_of : ℕ → Option Kind
kind_of = bearing (λ k. Some (kind_number k)) kinds

abbrev pub ss_type : ℕ
ss_type = 12

abbrev pub operations : List Operation
operations = Hold ∷ Retrieve ∷ []

-- INVOKE and RETRIEVE
abbrev pub request_type : Operation → ℕ
request_type Hold = 4
request_type Retrieve = 6

abbrev pub request_of : ℕ → Option Operation
request_of = bearing (λ o. Some (request_type o)) operations

-- INVOKE ACK and RETRIEVE ACK
abbrev pub answer_type : Operation → ℕ
answer_type Hold = 5
answer_type Retrieve = 7

abbrev pub answer_of : ℕ → Option Operation
answer_of = bearing (λ o. Some (answer_type o)) operations

-- the number of a PDU type, and the type under a number
abbrev pub pdu_type : PduType → ℕ
pdu_type (request_for o) = request_type o
pdu_type (answer_to o) = answer_type o

abbrev pub pdu_types : List PduType
pdu_types = request_for Hold ∷ answer_to Hold ∷ request_for Retrieve ∷ answer_to Retrieve ∷ []

abbrev pub pdu_type_of : ℕ → Option PduType
pdu_type_of = bearing (λ t. Some (pdu_type t)) pdu_types

-- the causes that each operation lists
abbrev pub cause_number : Operation → Cause → Option ℕ
cause_number Hold NotSubscribed = Some 1
cause_number Hold LimitReached = Some 2
cause_number Hold CallNotThere = Some 3
cause_number Hold AlreadyOnHold = Some 4
cause_number Hold NotOnHold = None
cause_number Hold NoChannel = None
cause_number Retrieve NotSubscribed = None
cause_number Retrieve LimitReached = None
cause_number Retrieve CallNotThere = Some 1
cause_number Retrieve AlreadyOnHold = None
cause_number Retrieve NotOnHold = Some 2
cause_number Retrieve NoChannel = Some 3

abbrev pub causes : List Cause
causes = NotSubscribed ∷ LimitReached ∷ CallNotThere ∷ AlreadyOnHold ∷ NotOnHold ∷ NoChannel ∷ []

abbrev pub cause_of : Operation → ℕ → Option Cause
cause_of o = bearing (cause_number o) causes

abbrev pub news_number : News → ℕ
news_number PutOnHold = 1
news_number Retrieved = 2
news_number Released = 3

abbrev pub all_news : List News
all_news = PutOnHold ∷ Retrieved ∷ Released ∷ []

abbrev pub news_of : ℕ → Option News
news_of = bearing (λ w. Some (news_number w)) all_news
