-- What a link promises in which an accepted frame waits once and is handed out once. Assumes nothing.
use Rattle.std.specs.Prelude.{◌≡◌, ℕ, ◌-◌, List, [], ◌∷◌, ◌++◌, length, drop, Some, None, Ok, Err, Option, nat_lt}
use Rattle.links.specs.declared.queue.ByteQueue.{ByteQueue}
use Rattle.text.specs.Fault.{in_link, unless}
use Rattle.links.specs.Checks.{unfit, short}
use Rattle.links.specs.Meaning.{SendAnswer, TakeAnswer}
use Rattle.links.specs.Packing.{Packing, frames, costs}
use Rattle.links.specs.Queue.{SameMemory}

-- what a send of f answers: 43 exactly when it costs more than is free
abbrev pub send_answer : Packing → ByteQueue → List ℕ → SendAnswer
send_answer p q f =
    unless (unfit p.longest f) (in_link 41)
    (unless (nat_lt (q.size - costs p (frames p q)) (p.cost f)) (in_link 43)
    (Ok tt))

-- what waits after it
abbrev pub after_send : SendAnswer → List (List ℕ) → List ℕ → List (List ℕ)
after_send (Ok u) w f = w ++ f ∷ []
after_send (Err e) w f = w

-- a refused send changes nothing
abbrev pub KeptBySend : SendAnswer → ByteQueue → ByteQueue → Type 0
KeptBySend (Ok u) a b = Unit
KeptBySend (Err e) a b = b ≡ a

-- a send of f, from the queue a to the queue b, and its answer
pub record Stores (p : Packing) (a : ByteQueue) (f : List ℕ) (b : ByteQueue) (r : SendAnswer) : Type 0 where
  pub answer : r ≡ send_answer p a f
  pub waits : frames p b ≡ after_send r (frames p a) f
  pub memory : SameMemory a b
  pub kept : KeptBySend r a b

-- the length of the first frame
abbrev pub first_length : List (List ℕ) → Option ℕ
first_length [] = None
first_length (f ∷ w) = Some (length f)

-- what a take into the memory m answers: nothing comes only of an empty list
abbrev pub take_answer : List ℕ → List (List ℕ) → TakeAnswer
take_answer m w = unless (short m) (in_link 42) (Ok (first_length w))

-- what waits after it
abbrev pub after_take : TakeAnswer → List (List ℕ) → List (List ℕ)
after_take (Err e) w = w
after_take (Ok None) w = w
after_take (Ok (Some n)) w = drop 1 w

-- the memory after it: the first frame, and then what stood there
abbrev pub put_first : List (List ℕ) → List ℕ → List ℕ
put_first [] m = m
put_first (f ∷ w) m = f ++ drop (length f) m

abbrev pub memory_after : TakeAnswer → List (List ℕ) → List ℕ → List ℕ
memory_after (Err e) w m = m
memory_after (Ok None) w m = m
memory_after (Ok (Some n)) w m = put_first w m

-- a refused take, and one of nothing, change nothing
abbrev pub KeptByTake : TakeAnswer → ByteQueue → ByteQueue → Type 0
KeptByTake (Err e) a b = b ≡ a
KeptByTake (Ok None) a b = b ≡ a
KeptByTake (Ok (Some n)) a b = Unit

-- a take into the memory m, which then is n, and its answer
pub record HandsOut (p : Packing) (a : ByteQueue) (m : List ℕ) (b : ByteQueue) (n : List ℕ) (r : TakeAnswer) : Type 0 where
  pub answer : r ≡ take_answer m (frames p a)
  pub waits : frames p b ≡ after_take r (frames p a)
  pub out : n ≡ memory_after r (frames p a) m
  pub memory : SameMemory a b
  pub kept : KeptByTake r a b
