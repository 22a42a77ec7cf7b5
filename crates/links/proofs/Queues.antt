-- Facts of a queue's memory. Assumes nothing.
use Rattle.std.specs.Prelude.{◌≡◌, ℕ, ◌+◌, ◌-◌, ◌<◌, ◌≤◌, List, ◌++◌, length, vec_items, nat_lt, refl}
use Rattle.std.proofs.Common.{sym, ap, ◌∙◌, inl, inr, append_assoc, arith}
use Rattle.std.proofs.lemmas.List.{length-append, length-take-le}
use Rattle.std.proofs.lemmas.Bool.{cond_both, ltb-true, ltb-false}
use Rattle.links.specs.declared.queue.ByteQueue.{ByteQueue}
use Rattle.links.specs.Queue.{cells, held, place, Joined, Left}
use Rattle.links.proofs.Round.{Spot, length_round}

pub length_cells : (q : ByteQueue) → length (cells q) ≡ q.size
length_cells q = length-take-le q.size (vec_items q.memory) (omega (arith, q.memory.ok.0, q.within))

pub length_held : (q : ByteQueue) → length (held q) ≡ q.used
length_held q = length_round (cells q) q.head q.used (omega (arith, length_cells q, q.start)) (omega (arith, length_cells q, q.fits))

-- a place of the memory that counts
pub place_spot : (q : ByteQueue) (i : ℕ) → 0 < q.size → i ≤ q.size → Spot (cells q) q.head i (place q i)
place_spot q i some fits =
    let long = length_cells q in
    let start = q.start in
    cond_both (nat_lt (q.head + i) q.size) (q.head + i) (q.head + i - q.size) (Spot (cells q) q.head i)
    (λ e. let lt = ltb-true (q.head + i) q.size e in (omega arith, inl refl))
    (λ e. let le = ltb-false (q.head + i) q.size e in (omega arith, inr (omega arith)))

module _ {a b : ByteQueue} {xs : List ℕ} where
  pub joined_then : {c : ByteQueue} {ys : List ℕ} → Joined a b xs → Joined b c ys → Joined a c (xs ++ ys)
  joined_then {c} {ys} j k = record {
    held = k.held ∙ ap (λ x. x ++ ys) j.held ∙ append_assoc (held a) xs ys;
    memory = record { size = k.memory.size ∙ j.memory.size; long = k.memory.long ∙ j.memory.long };
  }

  pub joined_used : Joined a b xs → b.used ≡ a.used + length xs
  joined_used j = omega (arith, length_held a, length_held b, ap length j.held, length-append (held a) xs)

  pub left_then : {c : ByteQueue} {ys : List ℕ} → Left a b xs → Left b c ys → Left a c (xs ++ ys)
  left_then {c} {ys} j k = record {
    held = j.held ∙ ap (λ x. xs ++ x) k.held ∙ sym (append_assoc xs ys (held c));
    memory = record { size = k.memory.size ∙ j.memory.size; long = k.memory.long ∙ j.memory.long };
  }

  pub left_used : Left a b xs → a.used ≡ length xs + b.used
  left_used j = omega (arith, length_held a, length_held b, ap length j.held, length-append xs (held b))
