-- What was taken from a link and read, and what was written and sent. Assumes nothing.
use Rattle.std.specs.Prelude.{◌≡◌, ℕ, List, take, replicate, Some, None, Ok, Err, Option, Result}
use Rattle.std.specs.Result.{result_err}
use Rattle.frames.specs.Read.{reads}
use Rattle.frames.specs.Write.{writes}
use Rattle.frames.specs.declared.content.Frame.{Frame}
use Rattle.links.specs.Meaning.{SendAnswer, TakeAnswer}
use Rattle.text.specs.Fault.{after}
use Rattle.text.specs.declared.fault.Fault.{Fault}

-- what was taken from a link: nothing, or a frame that is read
abbrev pub pulled : List ℕ → Option ℕ → Result (Option Frame) Fault
pulled mem None = Ok None
pulled mem (Some n) = after (reads (take n mem)) (λ f. Ok (Some f))

module _ {X : Type 0} (takes : X → List ℕ → X → List ℕ → TakeAnswer → Type 0) where
  -- some take of the link, into 32 zero bytes and so never refused, gave what was pulled
  pub record Pulling (a b : X) (r : Result (Option Frame) Fault) : Type 0 where
    pub mem : List ℕ
    pub length : Option ℕ
    pub took : takes a (replicate 32 0) b mem (Ok length)
    pub says : r ≡ pulled mem length

module _ {X : Type 0} (sends : X → List ℕ → X → SendAnswer → Type 0) where
  -- the bytes that the writer gives are sent; what it refuses is told, and leaves the link alone
  abbrev pub Posts : Result (List ℕ) Fault → X → X → SendAnswer → Type 0
  Posts (Ok bytes) a b r = sends a bytes b r
  Posts (Err e) a b r = (r ≡ Err e) × (b ≡ a)

  abbrev pub Posting : Frame → X → X → SendAnswer → Type 0
  Posting f a b r = Posts (writes f) a b r

  -- the frame of a content was sent: its bytes, which the writer gives, and what the link answered
  pub record Sending (f : Frame) (a b : X) (r : SendAnswer) : Type 0 where
    pub bytes : List ℕ
    pub written : writes f ≡ Ok bytes
    pub sent : sends a bytes b r

  -- some send of the link, whose fault is told
  pub record Telling (f : Frame) (a b : X) (told : Option Fault) : Type 0 where
    pub answer : SendAnswer
    pub sending : Sending f a b answer
    pub says : told ≡ result_err answer
