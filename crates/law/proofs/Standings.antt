-- How a call stands for one user at the switch, and what may befall that: all that the exchange knows of calls. Assumes nothing.
use Rattle.std.proofs.Common.{◌≡◌, ℕ}
use Rattle.frames.specs.declared.content.Body.{Body}
use Rattle.frames.specs.declared.content.Body.TheVariants.{Request, Answer, ClearRequest, ClearAnswer}
use Rattle.frames.specs.declared.content.Cause.{Cause}
use Rattle.frames.specs.declared.content.Cause.TheVariants.{AlreadyOnHold, NoChannel}
use Rattle.frames.specs.declared.content.News.{News}
use Rattle.frames.specs.declared.content.News.TheVariants.{PutOnHold, Retrieved, Released}
use Rattle.frames.specs.declared.content.Operation.TheVariants.{Hold, Retrieve}
use Rattle.frames.specs.declared.content.Verdict.TheVariants.{Granted, Declined}

-- his leg is on hold; it is not, and may be again; or the call was cleared, for good
pub data Standing : Type 0 where
  on off gone : Standing

-- what may befall a call without a fresh request of the user
pub data Drifts : Standing → Standing → Type 0 where
  stays : {s : Standing} → Drifts s s
  fades : {s : Standing} → Drifts s gone

-- a fresh request: its body, the answer's, and the standing of its call before and after
pub data Did : Body → Body → Standing → Standing → Type 0 where
  held : Did (Request Hold) (Answer Hold Granted) off on
  not_held_off : {x : Cause} → Did (Request Hold) (Answer Hold (Declined x)) off off
  not_held_gone : {x : Cause} → Did (Request Hold) (Answer Hold (Declined x)) gone gone
  not_held_on : Did (Request Hold) (Answer Hold (Declined AlreadyOnHold)) on on
  back : Did (Request Retrieve) (Answer Retrieve Granted) on off
  not_back_off : {x : Cause} → Did (Request Retrieve) (Answer Retrieve (Declined x)) off off
  not_back_gone : {x : Cause} → Did (Request Retrieve) (Answer Retrieve (Declined x)) gone gone
  not_back_on : Did (Request Retrieve) (Answer Retrieve (Declined NoChannel)) on on
  over : {s : Standing} → Did ClearRequest ClearAnswer s gone
  not_over : Did ClearRequest ClearAnswer off off

-- news of a release is only of a call that is gone
abbrev pub NewsTrue : (ℕ → Standing) → ℕ → News → Type 0
NewsTrue st c PutOnHold = Unit {0}
NewsTrue st c Retrieved = Unit {0}
NewsTrue st c Released = st c ≡ gone
