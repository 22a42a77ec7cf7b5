-- What the outcome of a call is in words: `OK` and what was told, or `NO` and the fault. Assumes nothing.
use Rattle.std.specs.Prelude.{ℕ, List, ◌++◌, Some, Ok, Err, codes, decimal, Option, Result}
use Rattle.std.specs.Option.{option_map}
use Rattle.frames.specs.Codes.{news_number}
use Rattle.frames.specs.declared.content.Operation.{Operation}
use Rattle.frames.specs.declared.content.Operation.TheVariants as operation
use Rattle.frames.specs.declared.content.Verdict.TheVariants as verdict
use Rattle.law.specs.declared.event.Event.{Event}
use Rattle.law.specs.declared.event.Event.TheVariants as event
use Rattle.records.specs.Legs.{legs_number}
use Rattle.signalling.specs.declared.ask.Ask.{Ask}
use Rattle.signalling.specs.declared.ask.Ask.TheVariants as ask
use Rattle.signalling.specs.Words.{ask_word}
use Rattle.switch.specs.declared.told.Handled.{Handled}
use Rattle.switch.specs.declared.told.Handled.TheVariants.{Answered, Cleared}
use Rattle.switch.specs.declared.told.Notified.{Notified}
use Rattle.switch.specs.declared.told.Notified.TheVariants as notified
use Rattle.switch.specs.declared.told.Served.{Served}
use Rattle.switch.specs.declared.told.Served.TheVariants as served
use Rattle.terminal.specs.declared.told.Received.{Received}
use Rattle.terminal.specs.declared.told.Received.TheVariants as received
use Rattle.terminal.specs.declared.told.Reply.{Reply}
use Rattle.terminal.specs.declared.told.Reply.TheVariants as reply
use Rattle.terminal.specs.declared.told.Ticked.{Ticked}
use Rattle.terminal.specs.declared.told.Ticked.TheVariants as ticked
use Rattle.text.specs.Words.{fault_words}
use Rattle.text.specs.declared.fault.Fault.{Fault}
use Rattle.wording.specs.Words.{beside, operation_word, verdict_words}

-- what a request was for an operation, to number its causes; a clear has none
abbrev pub operation_of : Ask → Operation
operation_of ask.Hold = operation.Hold
operation_of ask.Retrieve = operation.Retrieve
operation_of ask.Clear = operation.Hold

-- what came of a request, at the terminal
abbrev pub reply_words : Ask → Reply → List ℕ
reply_words k reply.Granted = codes "granted"
reply_words k (reply.Declined c) = verdict_words (operation_of k) (verdict.Declined c)
reply_words k reply.Cleared = codes "cleared"

abbrev pub received_words : Received → List ℕ
received_words received.Nothing = codes "nothing"
received_words received.Stale = codes "stale"
received_words (received.Notice c w) = codes "notice " ++ (decimal c.0 ++ (codes " " ++ decimal (news_number w)))
received_words (received.Closed k c r) = codes "closed " ++ (ask_word k ++ (codes " " ++ (decimal c.0 ++ (codes " " ++ reply_words k r))))

abbrev pub ticked_words : Ticked → List ℕ
ticked_words ticked.Idle = codes "idle"
ticked_words (ticked.Waiting n) = codes "waiting " ++ decimal n
ticked_words (ticked.Repeated n f) = codes "repeated " ++ (decimal n ++ beside f)

-- what came of a request, at the switch
abbrev pub handled_words : Handled → List ℕ
handled_words (Answered o c v) = operation_word o ++ (codes " " ++ (decimal c.0 ++ (codes " " ++ verdict_words o v)))
handled_words (Cleared c l) = codes "clear " ++ (decimal c.0 ++ (codes " " ++ decimal (legs_number l)))

abbrev pub served_words : Served → List ℕ
served_words served.Nothing = codes "nothing"
served_words (served.Fresh h f) = codes "fresh " ++ (handled_words h ++ beside f)
served_words (served.Repeat h f) = codes "repeat " ++ (handled_words h ++ beside f)

abbrev pub notified_words : Notified → List ℕ
notified_words notified.Nothing = codes "nothing"
notified_words (notified.Notice c w f) = codes "notified " ++ (decimal c.0 ++ (codes " " ++ (decimal (news_number w) ++ beside f)))

-- `OK` and the words, or `NO` and the fault
abbrev pub answered : {X : Type 0} → (X → List ℕ) → Result X Fault → List ℕ
answered words (Ok x) = codes "OK " ++ words x
answered words (Err f) = codes "NO " ++ fault_words f

-- the same over what a type prints
abbrev pub answered_output : {X : Type 0} → (X → Option (List ℕ)) → Result X Fault → Option (List ℕ)
answered_output output (Ok x) = option_map (λ words. codes "OK " ++ words) (output x)
answered_output output (Err f) = Some (codes "NO " ++ fault_words f)

-- of any call
abbrev pub outcome_words : Event → List ℕ
outcome_words (event.Opened u r) = answered (λ _. codes "opened") r
outcome_words (event.Connected c a b r) = answered (λ _. codes "connected") r
outcome_words (event.Joined c r) = answered (λ _. codes "connected") r
outcome_words (event.Requested k c r) = answered (λ f. codes "requested" ++ beside f) r
outcome_words (event.Ticked t) = codes "OK " ++ ticked_words t
outcome_words (event.Received r) = answered received_words r
outcome_words (event.Served u r) = answered served_words r
outcome_words (event.Notified u r) = answered notified_words r
outcome_words (event.Cleared c r) = answered (λ l. codes "clear " ++ (decimal c.0 ++ (codes " " ++ decimal (legs_number l)))) r
