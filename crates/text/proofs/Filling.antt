-- A buffer filled up with more bytes, as far as there is room. Assumes nothing.
use Rattle.std.proofs.Common.{◌≡◌, ℕ, ◌-◌, ◌≤◌, min, List, ◌++◌, length, take, sym, ap, ◌∙◌, arith}
use Rattle.std.proofs.lemmas.List.{take_min, length-take-le}
use Rattle.std.proofs.Math.Seq.{take-append-add}
use Rattle.text.specs.declared.buffer.Buffer.{Buffer}
use Rattle.text.specs.Octets.{held}

pub held_length : {n : ℕ} (b : Buffer n) → length (held b) ≡ b.len
held_length b = length-take-le b.len b.bytes (omega (arith, b.size, b.fits))

pub filled : (start more : List ℕ) (n k : ℕ) → length start ≤ n → k ≡ min (length more) (n - length start) → start ++ take k more ≡ take n (start ++ more)
filled start more n k room e =
    ap (λ l. start ++ l) (ap (λ m. take m more) (omega arith) ∙ take_min (n - length start) more)
    ∙ sym (take-append-add start more (n - length start))
    ∙ ap (λ m. take m (start ++ more)) (omega arith)
