-- What a frame asks, and the frame that asks it. Assumes nothing.
use Rattle.std.specs.Prelude.{Bool, true, false, Some, None, Option}
use Rattle.frames.specs.declared.content.Body.{Body}
use Rattle.frames.specs.declared.content.Body.TheVariants.{Request, Answer, ClearRequest, ClearAnswer, Notice}
use Rattle.frames.specs.declared.content.Operation.{Operation}
use Rattle.frames.specs.declared.content.Operation.TheVariants as operation
use Rattle.signalling.specs.declared.ask.Ask.{Ask}
use Rattle.signalling.specs.declared.ask.Ask.TheVariants.{Hold, Retrieve, Clear}

-- what a request for an operation asks, and an answer to it answers
abbrev pub asked_by : Operation → Ask
asked_by operation.Hold = Hold
asked_by operation.Retrieve = Retrieve

-- what a body asks, if it is a request's
abbrev pub ask_of : Body → Option Ask
ask_of (Request o) = Some (asked_by o)
ask_of ClearRequest = Some Clear
ask_of (Answer o v) = None
ask_of ClearAnswer = None
ask_of (Notice w) = None

-- the body of a request's frame
abbrev pub body_for : Ask → Body
body_for Hold = Request operation.Hold
body_for Retrieve = Request operation.Retrieve
body_for Clear = ClearRequest

-- whether two requests ask the same
abbrev pub same_ask : Ask → Ask → Bool
same_ask Hold Hold = true
same_ask Hold Retrieve = false
same_ask Hold Clear = false
same_ask Retrieve Hold = false
same_ask Retrieve Retrieve = true
same_ask Retrieve Clear = false
same_ask Clear Hold = false
same_ask Clear Retrieve = false
same_ask Clear Clear = true
