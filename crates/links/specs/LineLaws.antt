-- Frames as text lines can be read back. Assumes nothing.
use Rattle.std.proofs.Common.{◌≡◌, ℕ, ◌+◌, ◌*◌, ◌/◌, ◌%◌, ◌<◌, true, false, eqb, ltb, List, [], ◌∷◌, ◌++◌, length, Some, unwrap_or, refl, ap, ◌∙◌, append_assoc, arith}
use Rattle.std.proofs.lemmas.List.{length-append}
use Rattle.std.proofs.lemmas.Bool.{and_parts, ltb-true, cond-false}
use Rattle.std.proofs.lemmas.Bool.Decides.{nat_tests}
use Rattle.text.specs.Hex.{digit, digit_of}
use Rattle.text.specs.Text.{text, bytes}
use Rattle.links.specs.Lawful.{Lawful}
use Rattle.links.specs.Line.{line, after_line, in_lines}
use Rattle.links.specs.Packing.{octets}
use Rattle.links.specs.SoundFrames as sound_frames

pub digit_read : (v : ℕ) → v < 16 → digit_of (digit v) ≡ Some v
digit_read v h = grind (arith, nat_tests)

pub digit_no_feed : (v : ℕ) → eqb (digit v) 10 ≡ false
digit_no_feed v = grind (arith, nat_tests)

pub length_text : (f : List ℕ) → length (text f) ≡ 2 * length f
length_text [] = refl
length_text (b ∷ f) = omega (arith, length_text f)

-- a byte by its two digits
byte_read : (b : ℕ) → b < 256 → unwrap_or (digit_of (digit (b / 16))) 0 * 16 + unwrap_or (digit_of (digit (b % 16))) 0 ≡ b
byte_read b h =
    ap (λ o. unwrap_or o 0 * 16 + unwrap_or (digit_of (digit (b % 16))) 0) (digit_read (b / 16) (omega arith))
    ∙ ap (λ o. b / 16 * 16 + unwrap_or o 0) (digit_read (b % 16) (omega arith))
    ∙ omega arith

text_read : (f : List ℕ) → octets f ≡ true → bytes (text f) ≡ f
text_read [] o = refl
text_read (b ∷ f) o =
    let parts = and_parts (ltb b 256) (octets f) o in
    ap (λ x. x ∷ bytes (text f)) (byte_read b (ltb-true b 256 parts.0)) ∙ ap (λ x. b ∷ x) (text_read f parts.1)

-- a line ends at its line feed, since no digit is one
line_read : (f rest : List ℕ) → line (text f ++ 10 ∷ rest) ≡ text f
line_read [] rest = refl
line_read (b ∷ f) rest =
    cond-false (eqb (digit (b / 16)) 10) _ _ (digit_no_feed (b / 16))
    ∙ ap (λ x. digit (b / 16) ∷ x) (cond-false (eqb (digit (b % 16)) 10) _ _ (digit_no_feed (b % 16)))
    ∙ ap (λ x. digit (b / 16) ∷ digit (b % 16) ∷ x) (line_read f rest)

after_read : (f rest : List ℕ) → after_line (text f ++ 10 ∷ rest) ≡ rest
after_read [] rest = refl
after_read (b ∷ f) rest =
    cond-false (eqb (digit (b / 16)) 10) _ _ (digit_no_feed (b / 16))
    ∙ cond-false (eqb (digit (b % 16)) 10) _ _ (digit_no_feed (b % 16))
    ∙ after_read f rest

-- any bytes written as a line, also none
pub reads : (f rest : List ℕ) → octets f ≡ true → in_lines.first (in_lines.written f ++ rest) ≡ f
reads f rest o = ap (λ x. bytes (line x)) (append_assoc (text f) (10 ∷ []) rest) ∙ ap bytes (line_read f rest) ∙ text_read f o

pub goes_on : (f rest : List ℕ) → in_lines.after (in_lines.written f ++ rest) ≡ rest
goes_on f rest = ap after_line (append_assoc (text f) (10 ∷ []) rest) ∙ after_read f rest

pub lawful : Lawful in_lines
lawful = record {
  reads = λ f rest s. reads f rest (sound_frames.bytes in_lines f s);
  goes_on = λ f rest s. goes_on f rest;
  some = λ f. omega (arith, length-append (text f) (10 ∷ []));
  cost_written = λ f. omega (arith, length-append (text f) (10 ∷ []), length_text f);
  low = omega arith;
  high = omega arith;
}
