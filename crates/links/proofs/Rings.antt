-- What is taken out of a ring is its first frame. Assumes nothing.
use Rattle.std.proofs.Common.{◌≡◌, ℕ, ◌≤◌, List, [], ◌∷◌, ◌++◌, length, sym, ap, ◌∙◌, arith}
use Rattle.std.proofs.lemmas.List.{length-append}
use Rattle.links.specs.declared.queue.ByteQueue.{ByteQueue}
use Rattle.links.specs.Packing.{Begins}
use Rattle.links.specs.Queue.{held, Left}
use Rattle.links.specs.Ring.{in_ring}
use Rattle.links.specs.SoundFrames.{high}
use Rattle.links.proofs.Queues.{length_held}

-- a frame whose length is taken out stands whole in the bytes after it
pub counted_fits : (bs new : List ℕ) (n : ℕ) → Begins in_ring bs → bs ≡ n ∷ new → (n ≤ length new) × (n ≤ 16)
counted_fits bs new n b e =
    let f = in_ring.first bs in
    let both : n ∷ new ≡ length f ∷ (f ++ in_ring.after bs) = sym e ∙ b.whole in
    let count : n ≡ length f = cc in
    let rest : new ≡ f ++ in_ring.after bs = cc in
    (omega (arith, ap length rest, length-append f (in_ring.after bs)), omega (arith, high in_ring f b.sound_first))

-- the same, of a queue before and after
pub counted_waits : (a b : ByteQueue) (n : ℕ) → Begins in_ring (held a) → Left a b (n ∷ []) → n ≤ b.used
counted_waits a b n begins popped = omega (arith, length_held b, (counted_fits (held a) (held b) n begins popped.held).0)
