-- The bytes that wait in a queue. Assumes nothing.
use Rattle.std.specs.Prelude.{◌≡◌, ℕ, ◌+◌, ◌-◌, cond, List, ◌++◌, take, drop, vec_items, vec_len, nat_lt}
use Rattle.links.specs.declared.queue.ByteQueue.{ByteQueue}
use Rattle.links.specs.Checks.{unfit_memory}

-- n bytes of a memory from h on, which goes on at its start
abbrev pub round : List ℕ → ℕ → ℕ → List ℕ
round m h n = take n (drop h (m ++ m))

-- the bytes of the memory that count
abbrev pub cells : ByteQueue → List ℕ
cells q = take q.size (vec_items q.memory)

-- the bytes that wait
abbrev pub held : ByteQueue → List ℕ
held q = round (cells q) q.head q.used

-- the place of the byte that stands i after the first
abbrev pub place : ByteQueue → ℕ → ℕ
place q i = cond (nat_lt (q.head + i) q.size) (q.head + i) (q.head + i - q.size)

-- how many bytes of a memory of n count: 0 if it would be turned down
abbrev pub room : ℕ → ℕ
room n = cond (unfit_memory n) 0 n

-- the memory is as long as it was, and as much of it counts
pub record SameMemory (a b : ByteQueue) : Type 0 where
  pub size : b.size ≡ a.size
  pub long : vec_len b.memory ≡ vec_len a.memory

-- bytes were put after those that waited
pub record Joined (a b : ByteQueue) (bs : List ℕ) : Type 0 where
  pub held : held b ≡ held a ++ bs
  pub memory : SameMemory a b

-- bytes were taken out, the first of those that waited
pub record Left (a b : ByteQueue) (bs : List ℕ) : Type 0 where
  pub held : held a ≡ bs ++ held b
  pub memory : SameMemory a b
