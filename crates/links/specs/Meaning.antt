-- What a link means: the frames that wait in it, and what a send and a take may make of them. Assumes nothing.
use Rattle.std.specs.Prelude.{◌≡◌, ℕ, ◌<◌, ◌≤◌, true, false, cond, List, [], ◌∷◌, ◌++◌, length, take, drop, Some, None, Ok, Err, Option, Result}
use Rattle.text.specs.declared.fault.Fault.{Fault}
use Rattle.text.specs.Fault.{in_link}
use Rattle.links.specs.Checks.{unfit, short}
use Rattle.links.specs.Thinned.{Thinned}

-- what a send and a take answer
abbrev pub SendAnswer : Type 0
SendAnswer = Result Unit Fault

abbrev pub TakeAnswer : Type 0
TakeAnswer = Result (Option ℕ) Fault

-- each frame has 1 to 32 bytes
abbrev pub Framed : List (List ℕ) → Type 0
Framed [] = Unit
Framed (f ∷ w) = (0 < length f) × (length f ≤ 32) × Framed w

-- a send of f was accepted
pub record Accepted (longest : ℕ) (f : List ℕ) (old new : List (List ℕ)) : Type 0 where
  pub fit : unfit longest f ≡ false
  pub waits : Thinned (old ++ f ∷ []) new

-- it was refused: by 41 if the frame does not fit, and by 43 for any other reason
pub record Refused (longest : ℕ) (f : List ℕ) (old new : List (List ℕ)) (e : Fault) : Type 0 where
  pub fault : e ≡ cond (unfit longest f) (in_link 41) (in_link 43)
  pub waits : Thinned old new

-- what a send of f means: the frames that waited, those that then wait, and the answer
abbrev pub Sent : ℕ → List ℕ → List (List ℕ) → List (List ℕ) → SendAnswer → Type 0
Sent longest f old new (Ok u) = Accepted longest f old new
Sent longest f old new (Err e) = Refused longest f old new e

-- a frame of n bytes was handed out, at the start of the memory
pub record Handed (longest : ℕ) (before after : List ℕ) (old new : List (List ℕ)) (n : ℕ) : Type 0 where
  pub long : short before ≡ false
  pub some : 0 < n
  pub fit : n ≤ longest
  pub untouched : drop n after ≡ drop n before
  pub waits : Thinned old (take n after ∷ new)

-- nothing came
pub record Nothing (before after : List ℕ) (old new : List (List ℕ)) : Type 0 where
  pub long : short before ≡ false
  pub untouched : after ≡ before
  pub waits : Thinned old new

-- too little memory was handed over
pub record TurnedDown (before after : List ℕ) (old new : List (List ℕ)) (e : Fault) : Type 0 where
  pub short : short before ≡ true
  pub fault : e ≡ in_link 42
  pub untouched : after ≡ before
  pub waits : new ≡ old

-- what a take means: the memory before and after, the frames that waited, those that then wait, and the answer
abbrev pub Taken : ℕ → List ℕ → List ℕ → List (List ℕ) → List (List ℕ) → TakeAnswer → Type 0
Taken longest before after old new (Ok (Some n)) = Handed longest before after old new n
Taken longest before after old new (Ok None) = Nothing before after old new
Taken longest before after old new (Err e) = TurnedDown before after old new e
