-- What a turn over the digits of a line keeps. Assumes nothing.
use Rattle.std.proofs.Common.{◌≡◌, ℕ, zero, suc, ◌+◌, ◌*◌, ◌/◌, ◌%◌, ◌<◌, ◌≤◌, cond, ◌||◌, eqb, ltb, List, [], ◌∷◌, ◌++◌, length, get_or, take, drop, is_some, Some, None, Ok, Err, Option, Result, unwrap_or, sym, refl, ap, ◌∙◌, append_assoc, append-nil, arith}
use Rattle.std.specs.Simd.{first_chunks}
use Rattle.std.proofs.lemmas.List.{take_all, drop_more, drop_all, length_push}
use Rattle.std.proofs.lemmas.Bool.{cond-true, cond_both, eqb-false, ltb-false, or_parts}
use Rattle.std.proofs.lemmas.Bool.Decides.{nat_tests}
use Rattle.text.specs.declared.fault.Fault.{Fault}
use Rattle.text.specs.Fault.{in_line, after}
use Rattle.text.specs.Hex.{digit, digit_of}
use Rattle.text.proofs.Checks.{passed}
use Rattle.text.specs.Text.{no_digit, bytes, all_digits, checks_size, reads_text, digit_or, byte_at}

-- the bytes that the first i pairs of the line spell
pub record Reading (line : List ℕ) (i : ℕ) (bs : List ℕ) : Type 0 where
  pub clean : no_digit (2 * i) (drop (2 * i) line) ≡ no_digit 0 line
  pub so_far : bs ++ bytes (drop (2 * i) line) ≡ bytes line
  pub len : length bs ≡ i

-- a pair of a line
pub pair_at : (k i : ℕ) (line : List ℕ) (d : List ℕ) → i < k → 2 * k ≤ length line → get_or (first_chunks 2 k line) i d ≡ get_or line (2 * i) 0 ∷ get_or line (2 * i + 1) 0 ∷ []
pair_at zero i line d h l = absurd (omega arith)
pair_at (suc k) i [] d h l = absurd (omega arith)
pair_at (suc k) i (a ∷ []) d h l = absurd (omega arith)
pair_at (suc k) zero (a ∷ b ∷ line) d h l = refl
pair_at (suc k) (suc i) (a ∷ b ∷ line) d h l =
    let first : suc (suc (2 * i)) ≡ 2 * suc i = omega arith in
    let second : suc (suc (2 * i + 1)) ≡ 2 * suc i + 1 = omega arith in
    pair_at k i line d (omega arith) (omega arith)
    ∙ (λ j. get_or (a ∷ b ∷ line) (first j) 0 ∷ get_or (a ∷ b ∷ line) (second j) 0 ∷ [])

pub size_checked : (n : ℕ) → checks_size n ≡ Ok tt → (n ≤ 64) × (n % 2 ≡ 0)
size_checked n e =
    let short = passed (ltb 64 n) (in_line 1 64) _ tt e in
    let even = passed (eqb n 0 || eqb (n % 2) 1) (in_line 2 n) _ tt short.1 in
    let odd = eqb-false (n % 2) 1 (or_parts (eqb n 0) (eqb (n % 2) 1) even.0).1 in
    (ltb-false 64 n short.0, omega arith)

pub good_size : (n : ℕ) → 0 < n → n ≤ 64 → n % 2 ≡ 0 → checks_size n ≡ Ok tt
good_size n some short even = grind (arith, nat_tests)

-- a line of a size that passes
pub passes : (line : List ℕ) → checks_size (length line) ≡ Ok tt → reads_text line ≡ all_digits (no_digit 0 line) line
passes line e = ap (λ r. after r (λ _. all_digits (no_digit 0 line) line)) e

-- two digits spell a byte
pub record Digits (h l x : ℕ) : Type 0 where
  pub high : digit_of h ≡ Some (unwrap_or (digit_of h) 0)
  pub low : digit_of l ≡ Some (unwrap_or (digit_of l) 0)
  pub byte : x ≡ unwrap_or (digit_of h) 0 * 16 + unwrap_or (digit_of l) 0

two_digits : (i : ℕ) (h l : Option ℕ) (x : ℕ) → Ok x ≡ after (digit_or h i) (λ u. after (digit_or l (i + 1)) (λ v. Ok (u * 16 + v))) → (h ≡ Some (unwrap_or h 0)) × ((l ≡ Some (unwrap_or l 0)) × (x ≡ unwrap_or h 0 * 16 + unwrap_or l 0))
two_digits i None l x e = cc
two_digits i (Some u) None x e = cc
two_digits i (Some u) (Some v) x e = (refl, (refl, cc))

pub digits : (i h l x : ℕ) → Ok x ≡ byte_at i h l → Digits h l x
digits i h l x e = let t = two_digits i (digit_of h) (digit_of l) x e in record { high = t.0; low = t.1.0; byte = t.1.1 }

-- the first of two bytes that is no digit
wrong : (i : ℕ) (h l : Option ℕ) (f : Fault) (more : Option ℕ) → Err f ≡ after (digit_or h i) (λ u. after (digit_or l (i + 1)) (λ v. Ok (u * 16 + v))) → (k : ℕ) × (f ≡ in_line 3 k) × (cond (is_some h) (cond (is_some l) more (Some (i + 1))) (Some i) ≡ Some k)
wrong i None l f more e = (i, cc, refl)
wrong i (Some u) None f more e = (i + 1, cc, refl)
wrong i (Some u) (Some v) f more e = cc

module _ (line : List ℕ) (i : ℕ) (h : i < length line / 2) where
  abbrev first : ℕ
  first = get_or line (2 * i) 0

  abbrev second : ℕ
  second = get_or line (2 * i + 1) 0

  abbrev more : List ℕ
  more = drop (2 * (i + 1)) line

  split : drop (2 * i) line ≡ first ∷ second ∷ more
  split =
      drop_more line (2 * i) 0 (omega arith)
      ∙ ap (λ l. first ∷ l) (drop_more line (2 * i + 1) 0 (omega arith) ∙ ap (λ k. second ∷ drop k line) (omega arith))

  pub of_pair : (pairs : List (List ℕ)) (r : Result ℕ Fault) → pairs ≡ first_chunks 2 (length line / 2) line
      → r ≡ byte_at (2 * i) (get_or (get_or pairs i []) 0 0) (get_or (get_or pairs i []) 1 0) → r ≡ byte_at (2 * i) first second
  of_pair pairs r e t = t ∙ ap (λ p. byte_at (2 * i) (get_or p 0 0) (get_or p 1 0)) (ap (λ ps. get_or ps i []) e ∙ pair_at (length line / 2) i line [] h (omega arith))

  pub reading_next : (bs new : List ℕ) (x : ℕ) → length line ≤ 64 → Reading line i bs → Ok x ≡ byte_at (2 * i) first second → new ≡ take 32 (bs ++ x ∷ []) → Reading line (i + 1) new
  reading_next bs new x few r t e =
      let d = digits (2 * i) first second x t in
      let long : length (bs ++ x ∷ []) ≡ i + 1 = omega (arith, length_push bs x, r.len) in
      let kept : new ≡ bs ++ x ∷ [] = e ∙ take_all 32 (bs ++ x ∷ []) (omega arith) in
      record {
        clean =
            ap (λ k. no_digit k more) (omega arith)
            ∙ sym (cond-true (is_some (digit_of second)) (no_digit (2 * i + 1 + 1) more) _ (ap is_some d.low))
            ∙ sym (cond-true (is_some (digit_of first)) _ _ (ap is_some d.high))
            ∙ sym (ap (no_digit (2 * i)) split) ∙ r.clean;
        so_far =
            ap (λ l. l ++ bytes more) kept
            ∙ append_assoc bs (x ∷ []) (bytes more)
            ∙ ap (λ k. bs ++ (k ∷ bytes more)) d.byte
            ∙ sym (ap (λ l. bs ++ bytes l) split)
            ∙ r.so_far;
        len = ap length kept ∙ long;
      }

  pub reading_stops : (bs : List ℕ) (f : Fault) → Reading line i bs → Err f ≡ byte_at (2 * i) first second → Err f ≡ all_digits (no_digit 0 line) line
  reading_stops bs f r t =
      let w = wrong (2 * i) (digit_of first) (digit_of second) f (no_digit (2 * i + 1 + 1) more) t in
      ap Err w.1 ∙ sym (ap (λ o. all_digits o line) (sym r.clean ∙ ap (no_digit (2 * i)) split ∙ w.2))

pub reading_all : (line : List ℕ) (i : ℕ) (bs : List ℕ) → length line ≤ 2 * i → Reading line i bs → (no_digit 0 line ≡ None) × (bs ≡ bytes line)
reading_all line i bs h r =
    let none = drop_all (2 * i) line h in
    (sym r.clean ∙ ap (no_digit (2 * i)) none, sym (append-nil bs) ∙ ap (λ l. bs ++ bytes l) (sym none) ∙ r.so_far)

-- a digit is ASCII
pub digit_ascii : (v : ℕ) → v < 16 → digit v < 128
digit_ascii v h = cond_both (ltb v 10) (48 + v) (55 + v) (λ d. d < 128) (λ e. omega arith) (λ e. omega arith)
