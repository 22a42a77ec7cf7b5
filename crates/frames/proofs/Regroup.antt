-- The bits of fields regrouped: fields of any widths joined into a number come out of it again, and so does the number. Assumes nothing.
use Rattle.std.proofs.Common.{◌≡◌, ℕ, ◌+◌, ◌*◌, ◌/◌, ◌%◌, ◌^◌, ◌<◌, List, [], ◌∷◌, ◌++◌, sym, refl, ap, ◌∙◌, subst, mul_assoc, add-mul, arith, pow_pos, pow-add, shr_lt}
use Rattle.std.proofs.Math.Pow.{split, high, low}
use Rattle.std.proofs.Math.Arith.{digits_lt}
use Rattle.std.proofs.lemmas.Nat.{mod_below}
use Rattle.frames.specs.declared.bits.Field.{Field}
use Rattle.frames.specs.Bits.{field, Fit, joined, joined_onto, parts, sum, total, widths}

abbrev pub values : List Field → List ℕ
values [] = []
values (f ∷ fs) = f.value ∷ values fs

-- fields by their widths and values
abbrev pub fields : List ℕ → List ℕ → List Field
fields [] vs = []
fields (w ∷ ws) [] = []
fields (w ∷ ws) (v ∷ vs) = field w v ∷ fields ws vs

onto : (n : ℕ) (fs : List Field) → joined_onto n fs ≡ n * 2 ^ total fs + joined fs
onto n [] = omega arith
onto n (f ∷ fs) =
    let w = f.width in
    let v = f.value in
    let here = onto (n * 2 ^ w + v) fs in
    let zero = onto (0 * 2 ^ w + v) fs in
    let spread = add-mul (n * 2 ^ w) v (2 ^ total fs) in
    let regroup = mul_assoc n (2 ^ w) (2 ^ total fs) in
    let power = ap (λ m. n * m) (pow-add 2 w (total fs)) in
    let none : (0 * 2 ^ w + v) * 2 ^ total fs ≡ v * 2 ^ total fs = ap (λ m. m * 2 ^ total fs) (omega arith) in
    omega arith

first : (f : Field) (fs : List Field) → joined (f ∷ fs) ≡ f.value * 2 ^ total fs + joined fs
first f fs = onto (0 * 2 ^ f.width + f.value) fs ∙ ap (λ m. m * 2 ^ total fs + joined fs) (omega arith)

-- one field more
pub joined_push : (n : ℕ) (fs : List Field) (f : Field) → joined_onto n (fs ++ f ∷ []) ≡ joined_onto n fs * 2 ^ f.width + f.value
joined_push n [] f = refl
joined_push n (g ∷ fs) f = joined_push (n * 2 ^ g.width + g.value) fs f

pub joined_small : (fs : List Field) → Fit fs → joined fs < 2 ^ total fs
joined_small [] fit = omega arith
joined_small (f ∷ fs) fit =
    subst (λ m. m < 2 ^ total (f ∷ fs)) (sym (first f fs))
    (subst (λ m. f.value * 2 ^ total fs + joined fs < m) (sym (pow-add 2 f.width (total fs))) (digits_lt fit.0 (joined_small fs fit.1)))

pub parts_joined : (fs : List Field) → Fit fs → parts (widths fs) (joined fs) ≡ values fs
parts_joined [] fit = refl
parts_joined (f ∷ fs) fit =
    let small = joined_small fs fit.1 in
    ap (λ n. n / 2 ^ total fs ∷ parts (widths fs) (n % 2 ^ total fs)) (first f fs)
    ∙ (λ i. high f.value (total fs) small i ∷ parts (widths fs) (low f.value (total fs) small i))
    ∙ ap (λ vs. f.value ∷ vs) (parts_joined fs fit.1)

total_fields : (ws : List ℕ) (n : ℕ) → total (fields ws (parts ws n)) ≡ sum ws
total_fields [] n = refl
total_fields (w ∷ ws) n = ap (λ m. w + m) (total_fields ws (n % 2 ^ sum ws))

pub joined_parts : (ws : List ℕ) (n : ℕ) → n < 2 ^ sum ws → joined (fields ws (parts ws n)) ≡ n
joined_parts [] n small = omega arith
joined_parts (w ∷ ws) n small =
    first (field w (n / 2 ^ sum ws)) (fields ws (parts ws (n % 2 ^ sum ws)))
    ∙ ap (λ m. n / 2 ^ sum ws * 2 ^ m + joined (fields ws (parts ws (n % 2 ^ sum ws)))) (total_fields ws (n % 2 ^ sum ws))
    ∙ ap (λ m. n / 2 ^ sum ws * 2 ^ sum ws + m) (joined_parts ws (n % 2 ^ sum ws) (mod_below n (2 ^ sum ws) (pow_pos (sum ws))))
    ∙ split n (sum ws)

pub parts_fit : (ws : List ℕ) (n : ℕ) → n < 2 ^ sum ws → Fit (fields ws (parts ws n))
parts_fit [] n small = tt
parts_fit (w ∷ ws) n small = (shr_lt w (sum ws) small, parts_fit ws (n % 2 ^ sum ws) (mod_below n (2 ^ sum ws) (pow_pos (sum ws))))
