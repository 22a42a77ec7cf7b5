-- What is written of bytes as text reads back, and what is read is written so. Assumes nothing.
use Rattle.std.proofs.Common.{◌≡◌, ℕ, suc, ◌+◌, ◌*◌, ◌/◌, ◌%◌, ◌<◌, ◌≤◌, cond, List, [], ◌∷◌, ◌++◌, length, is_some, Some, None, Ok, Option, unwrap_or, sym, refl, ap, ◌∙◌, arith}
use Rattle.std.proofs.lemmas.Bool.{cond-true}
use Rattle.std.proofs.lemmas.Bool.Decides.{nat_tests}
use Rattle.text.specs.Hex.{digit, digit_of, pair}
use Rattle.text.specs.Laws.{Bytes}
use Rattle.text.specs.Text.{text, no_digit, bytes, all_digits, checks_size, reads_text}
use Rattle.text.proofs.Checks.{came}
use Rattle.text.proofs.Lines.{good_size, passes, size_checked}

pub digit_back : (v : ℕ) → v < 16 → digit_of (digit v) ≡ Some v
digit_back v h = grind (arith, nat_tests)

-- a digit's value, and that digit again
same_digit : (b v : ℕ) → digit_of b ≡ Some v → (v < 16) × (digit v ≡ b)
same_digit b v e = grind (arith, nat_tests)

pair_back : (h l v w : ℕ) → digit_of h ≡ Some v → digit_of l ≡ Some w → pair (v * 16 + w) ≡ h ∷ l ∷ []
pair_back h l v w p q =
    let a = same_digit h v p in
    let b = same_digit l w q in
    let high : (v * 16 + w) / 16 ≡ v = omega arith in
    let low : (v * 16 + w) % 16 ≡ w = omega arith in
    λ i. (ap digit high ∙ a.1) i ∷ (ap digit low ∙ b.1) i ∷ []

-- a byte that is a digit has a value
valued : (o : Option ℕ) (i : ℕ) (x : Option ℕ) → cond (is_some o) x (Some i) ≡ None → (o ≡ Some (unwrap_or o 0)) × (x ≡ None)
valued None i x e = cc
valued (Some v) i x e = (refl, e)

-- an even number of digits, written anew
respelled : (i : ℕ) (line : List ℕ) → no_digit i line ≡ None → length line % 2 ≡ 0 → text (bytes line) ≡ line
respelled i [] e even = refl
respelled i (h ∷ []) e even = absurd (omega arith)
respelled i (h ∷ l ∷ ds) e even =
    let p = valued (digit_of h) i (no_digit (i + 1) (l ∷ ds)) e in
    let q = valued (digit_of l) (i + 1) (no_digit (i + 1 + 1) ds) p.1 in
    (λ j. pair_back h l _ _ p.0 q.0 j ++ respelled (i + 1 + 1) ds q.1 (omega arith) j)

-- where bytes come of a line, it has digits alone, two for each byte
clean : (o : Option ℕ) (line bs : List ℕ) → all_digits o line ≡ Ok bs → (o ≡ None) × (bytes line ≡ bs)
clean (Some i) line bs e = cc
clean None line bs e = (refl, cc)

pub spelled : (line bs : List ℕ) → reads_text line ≡ Ok bs → text bs ≡ line
spelled line bs e =
    let size = came (checks_size (length line)) (λ _. all_digits (no_digit 0 line) line) bs e in
    let even = size_checked (length line) size.1 in
    let all = clean (no_digit 0 line) line bs size.2 in
    sym (ap text all.1) ∙ respelled 0 line all.0 even.1

-- the bytes after the first are bytes
rest_bytes : (b : ℕ) (bs : List ℕ) → Bytes (b ∷ bs) → Bytes bs
rest_bytes b bs h i = h (suc i)

digits_of : (i b : ℕ) (ds : List ℕ) → b < 256 → no_digit i (pair b ++ ds) ≡ no_digit (i + 1 + 1) ds
digits_of i b ds h =
    cond-true (is_some (digit_of (digit (b / 16)))) _ _ (ap is_some (digit_back (b / 16) (omega arith)))
    ∙ cond-true (is_some (digit_of (digit (b % 16)))) _ _ (ap is_some (digit_back (b % 16) (omega arith)))

all_clean : (i : ℕ) (bs : List ℕ) → Bytes bs → no_digit i (text bs) ≡ None
all_clean i [] h = refl
all_clean i (b ∷ bs) h = digits_of i b (text bs) (h 0) ∙ all_clean (i + 1 + 1) bs (rest_bytes b bs h)

reread : (bs : List ℕ) → Bytes bs → bytes (text bs) ≡ bs
reread [] h = refl
reread (b ∷ bs) h =
    let v = h 0 in
    let whole : b / 16 * 16 + b % 16 ≡ b = omega arith in
    (λ j. (unwrap_or (digit_back (b / 16) (omega arith) j) 0 * 16 + unwrap_or (digit_back (b % 16) (omega arith) j) 0) ∷ bytes (text bs))
    ∙ (λ j. whole j ∷ reread bs (rest_bytes b bs h) j)

text_length : (bs : List ℕ) → length (text bs) ≡ 2 * length bs
text_length [] = refl
text_length (b ∷ bs) = let ih = text_length bs in omega arith

pub read_again : (bs : List ℕ) → Bytes bs → 0 < length bs → length bs ≤ 32 → reads_text (text bs) ≡ Ok bs
read_again bs h some few =
    let long = text_length bs in
    passes (text bs) (good_size (length (text bs)) (omega arith) (omega arith) (omega arith))
    ∙ ap (λ o. all_digits o (text bs)) (all_clean 0 bs h)
    ∙ ap Ok (reread bs h)
