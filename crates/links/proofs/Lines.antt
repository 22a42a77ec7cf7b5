-- What is put in a line and taken out of it. Assumes nothing.
use Rattle.std.proofs.Common.{◌≡◌, ℕ, ◌+◌, ◌/◌, ◌%◌, ◌<◌, ◌≤◌, ltb, List, [], ◌∷◌, ◌++◌, length, get_or, take, drop, Option, Some, sym, refl, ap, ◌∙◌, subst, arith, ◌*◌}
use Rattle.std.proofs.lemmas.Bool.{and_parts, ltb-true}
use Rattle.std.proofs.lemmas.List.{take_more, length-take-le}
use Rattle.text.specs.Hex.{digit, digit_of, both, byte_of, pair}
use Rattle.text.specs.Text.{text}
use Rattle.links.specs.declared.queue.ByteQueue.{ByteQueue}
use Rattle.links.specs.Line.{Rest, NextByte, in_lines}
use Rattle.links.specs.LineLaws.{digit_read, length_text, reads, goes_on}
use Rattle.links.specs.Packing.{octets}
use Rattle.links.specs.Queue.{held, SameMemory, Joined, Left}
use Rattle.links.proofs.Queues.{joined_then, joined_used, left_then}

text_push : (f : List ℕ) (b : ℕ) → text (f ++ b ∷ []) ≡ text f ++ pair b
text_push [] b = refl
text_push (x ∷ f) b = ap (λ d. pair x ++ d) (text_push f b)

-- a byte more of the frame in the queue
pub put_more : (a b c : ByteQueue) (f : List ℕ) (i : ℕ) → i < length f → Joined a b (text (take i f)) → Joined b c (pair (get_or f i 0)) → Joined a c (text (take (i + 1) f))
put_more a b c f i lt put next = subst (Joined a c) (sym (ap text (take_more f i 0 lt) ∙ text_push (take i f) (get_or f i 0))) (joined_then put next)

-- the room that the first i bytes take
pub put_used : (a b : ByteQueue) (f : List ℕ) (i : ℕ) → i ≤ length f → Joined a b (text (take i f)) → b.used ≡ a.used + 2 * i
put_used a b f i le put = omega (arith, joined_used put, length_text (take i f), length-take-le i f le)

-- two digits are the next byte
pub next_byte : (a b c : ByteQueue) (high low : ℕ) (r : Option ℕ) → Rest (held a) → (high ≡ 10 → ⊥) → Left a b (high ∷ []) → Left b c (low ∷ []) → r ≡ byte_of high low → NextByte a c r
next_byte a b c high low r start on one two is = go (in_lines.first (held a)) refl
  where
    digits : high ∷ low ∷ held c ≡ in_lines.written (in_lines.first (held a)) ++ in_lines.after (held a)
    digits = sym (left_then one two).held ∙ start.whole

    go : (f : List ℕ) → in_lines.first (held a) ≡ f → NextByte a c r
    go [] e = let w : high ∷ low ∷ held c ≡ 10 ∷ in_lines.after (held a) = digits ∙ ap (λ x. in_lines.written x ++ in_lines.after (held a)) e in absurd (on (cc))
    go (v ∷ f) e =
        let w : high ∷ low ∷ held c ≡ digit (v / 16) ∷ digit (v % 16) ∷ (in_lines.written f ++ in_lines.after (held a)) = digits ∙ ap (λ x. in_lines.written x ++ in_lines.after (held a)) e in
        let h : high ≡ digit (v / 16) = cc in
        let l : low ≡ digit (v % 16) = cc in
        let rest : held c ≡ in_lines.written f ++ in_lines.after (held a) = cc in
        let parts = and_parts (ltb v 256) (octets f) (sym (ap octets e) ∙ start.octets) in
        let small = ltb-true v 256 parts.0 in
        let byte : r ≡ Some v =
        is ∙ ap (λ x. byte_of x low) h ∙ ap (λ x. byte_of (digit (v / 16)) x) l
        ∙ ap (λ x. both x (digit_of (digit (v % 16)))) (digit_read (v / 16) (omega arith))
        ∙ ap (λ x. both (Some (v / 16)) x) (digit_read (v % 16) (omega arith))
        ∙ ap Some (omega arith) in
        let first : in_lines.first (held c) ≡ f = ap in_lines.first rest ∙ reads f (in_lines.after (held a)) parts.1 in
        let after : in_lines.after (held c) ≡ in_lines.after (held a) = ap in_lines.after rest ∙ goes_on f (in_lines.after (held a)) in
        subst (NextByte a c) (sym byte) (record {
          first = e ∙ ap (λ x. v ∷ x) (sym first);
          after = sym after;
          rest = record {
            whole = rest ∙ ap (λ x. in_lines.written x ++ in_lines.after (held a)) (sym first) ∙ ap (λ x. in_lines.written (in_lines.first (held c)) ++ x) (sym after);
            octets = ap octets first ∙ parts.1;
          };
          memory = (left_then one two).memory;
        })

-- the first n bytes of the frame are out
pub record Reading (a b : ByteQueue) (m : List ℕ) (n : ℕ) (out : List ℕ) : Type 0 where
  pub first : in_lines.first (held a) ≡ take n out ++ in_lines.first (held b)
  pub after : in_lines.after (held a) ≡ in_lines.after (held b)
  pub rest : Rest (held b)
  pub few : n ≤ length out
  pub untouched : drop n out ≡ drop n m
  pub memory : SameMemory a b
