-- How frames stand in a queue of bytes. Assumes nothing.
use Rattle.std.specs.Prelude.{◌≡◌, ℕ, zero, suc, ◌+◌, Bool, true, ◌&&◌, List, [], ◌∷◌, ◌++◌, length, nat_le, nat_lt}
use Rattle.links.specs.declared.queue.ByteQueue.{ByteQueue}
use Rattle.links.specs.Queue.{held}

-- one way to write frames as bytes
pub record Packing : Type 0 where
  -- the bytes of the longest frame
  pub longest : ℕ
  -- what a frame costs
  pub cost : List ℕ → ℕ
  -- the bytes that stand for a frame
  pub written : List ℕ → List ℕ
  -- the frame that bytes begin with, and the bytes after it
  pub first : List ℕ → List ℕ
  pub after : List ℕ → List ℕ

-- numbers that are bytes
abbrev pub octets : List ℕ → Bool
octets [] = true
octets (b ∷ bs) = nat_lt b 256 && octets bs

module _ (p : Packing) where
  -- the frames that stand in bytes, at most so many
  abbrev pub unpack_in : ℕ → List ℕ → List (List ℕ)
  unpack_in zero bs = []
  unpack_in (suc k) [] = []
  unpack_in (suc k) (b ∷ bs) = p.first (b ∷ bs) ∷ unpack_in k (p.after (b ∷ bs))

  unfoldable pub unpack : List ℕ → List (List ℕ)
  unpack bs = unpack_in (length bs) bs

  -- the frames that wait in a queue
  abbrev pub frames : ByteQueue → List (List ℕ)
  frames q = unpack (held q)

  -- the bytes that stand for frames
  abbrev pub pack : List (List ℕ) → List ℕ
  pack [] = []
  pack (f ∷ w) = p.written f ++ pack w

  -- a frame of 1 byte to the longest, and frames that all are
  abbrev pub sound_frame : List ℕ → Bool
  sound_frame f = (nat_lt 0 (length f) && nat_le (length f) p.longest) && octets f

  abbrev pub sound : List (List ℕ) → Bool
  sound [] = true
  sound (f ∷ w) = sound_frame f && sound w

  -- what frames cost
  abbrev pub costs : List (List ℕ) → ℕ
  costs [] = 0
  costs (f ∷ w) = p.cost f + costs w

  -- bytes that begin with a frame
  pub record Begins (bs : List ℕ) : Type 0 where
    pub whole : bs ≡ p.written (p.first bs) ++ p.after bs
    pub sound_first : sound_frame (p.first bs) ≡ true

  -- frames stand packed in a queue
  pub record Packed (q : ByteQueue) : Type 0 where
    pub whole : pack (frames q) ≡ held q
    pub framed : sound (frames q) ≡ true
