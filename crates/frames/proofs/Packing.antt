-- Fields packed into the bytes of a PDU. Assumes nothing.
use Rattle.std.proofs.Common.{◌≡◌, ℕ, ◌+◌, ◌-◌, ◌*◌, ◌/◌, ◌%◌, ◌^◌, ◌<◌, ◌≤◌, List, [], ◌∷◌, ◌++◌, length, take, replicate, zero, suc, sym, refl, ap, add-zero, ◌∙◌, subst, mul_assoc, arith}
use Rattle.std.specs.Int.{w16, to_be_bytes}
use Rattle.std.proofs.lemmas.Nat.{pow-add, shl_below, shl_whole}
use Rattle.frames.proofs.Regroup.{joined_push}
use Rattle.frames.specs.declared.bits.Field.{Field}
use Rattle.frames.specs.Bits.{field, joined, parts, total}
use Rattle.frames.specs.Layout.{filling, pdu_octets}
use Rattle.frames.specs.Write.{packed}

-- these bytes are at most two, and those of k times eight bits
record Top (k t n : ℕ) (bs : List ℕ) : Type 0 where
  same : bs ≡ parts (replicate k 8) (n * 2 ^ (8 * k - t))
  short : length bs ≤ 2

-- t bits, moved to the top of sixteen
module _ (t n : ℕ) (few : t ≤ 15) (small : n < 2 ^ t) where
  moved : (k : ℕ) → t ≤ k → n * 2 ^ (k - t) < 2 ^ k
  moved k h = let e : t + (k - t) ≡ k = omega arith in subst (λ m. n * 2 ^ (k - t) < 2 ^ m) e (shl_below n t (k - t) small)

  pub top_fits : (n * 2 ^ (16 - t)) % 2 ^ 64 < 2 ^ 16
  top_fits = rw (shl_whole n t (16 - t) 64 small (omega arith)) (moved 16 (omega arith))

  top : (k : ℕ) → pdu_octets t ≡ k → Top k t n (take 32 ([] ++ take k (to_be_bytes w16 ((n * 2 ^ (16 - t)) % 2 ^ 64))))
  top zero e = record { same = refl; short = omega arith }
  top (suc zero) e =
      let low : t ≤ 8 = omega arith in
      let below = moved 8 low in
      let whole = shl_whole n t (16 - t) 64 small (omega arith) in
      let p : 16 - t ≡ (8 - t) + 8 = omega arith in
      let on : n * 2 ^ (16 - t) ≡ n * 2 ^ (8 - t) * 2 ^ 8 = ap (λ k. n * 2 ^ k) p ∙ ap (λ k. n * k) (pow-add 2 (8 - t) 8) ∙ sym (mul_assoc n (2 ^ (8 - t)) (2 ^ 8)) in
      let byte : ((n * 2 ^ (16 - t)) % 2 ^ 64) / 256 % 256 ≡ n * 2 ^ (8 - t) / 2 ^ 0 = omega arith in
      record { same = ap (λ b. b ∷ []) byte; short = omega arith }
  top (suc (suc zero)) e =
      let below = moved 16 (omega arith) in
      let whole = shl_whole n t (16 - t) 64 small (omega arith) in
      let high : ((n * 2 ^ (16 - t)) % 2 ^ 64) / 256 % 256 ≡ n * 2 ^ (16 - t) / 2 ^ 8 = omega arith in
      let low : ((n * 2 ^ (16 - t)) % 2 ^ 64) % 256 ≡ (n * 2 ^ (16 - t)) % 2 ^ 8 / 2 ^ 0 = omega arith in
      record { same = λ i. high i ∷ low i ∷ []; short = omega arith }
  top (suc (suc (suc k))) e = absurd (omega arith)

-- what is held of fields is their bytes
pub record Holds (fs : List Field) (bs : List ℕ) : Type 0 where
  pub same : bs ≡ packed fs
  pub short : length bs ≤ 2

pub holds : (fs : List Field) (t n k : ℕ) → t ≡ total fs → n ≡ joined fs → k ≡ pdu_octets t → total fs ≤ 15 → n < 2 ^ total fs → Holds fs (take 32 ([] ++ take k (to_be_bytes w16 ((n * 2 ^ (16 - t)) % 2 ^ 64))))
holds fs t n k e number octets few small =
    let s = top t n (omega arith) (subst (λ m. n < 2 ^ m) (sym e) small) k (sym octets) in
    let count = octets ∙ ap pdu_octets e in
    record {
      same =
          s.same
          ∙ (λ i. parts (replicate (count i) 8) (number i * 2 ^ (8 * count i - e i)))
          ∙ ap (parts (replicate (pdu_octets (total fs)) 8)) (sym (joined_push 0 fs (field (filling (total fs)) 0) ∙ add-zero _));
      short = s.short;
    }
