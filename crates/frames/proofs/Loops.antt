-- What a turn of the loops over fields keeps. Assumes nothing.
use Rattle.std.proofs.Common.{◌≡◌, ℕ, ◌+◌, ◌-◌, ◌*◌, ◌/◌, ◌%◌, ◌^◌, ◌<◌, ◌≤◌, List, [], ◌∷◌, ◌++◌, length, get_or, take, drop, zero, suc, sym, refl, ap, ◌∙◌, subst, arith, pow_mono, shr_lt}
use Rattle.std.proofs.lemmas.List.{drop_more, take_all, take_more}
use Rattle.frames.specs.declared.bits.Field.{Field}
use Rattle.frames.specs.Bits.{Fit, Narrow, joined, parts, sum, total}
use Rattle.frames.proofs.Regroup.{joined_push, joined_small}

-- the first of some fields fit as these do, and have no more bits
fit_take : (i : ℕ) (fs : List Field) → Fit fs → Fit (take i fs)
fit_take zero fs fit = tt
fit_take (suc i) [] fit = tt
fit_take (suc i) (f ∷ fs) fit = (fit.0, fit_take i fs fit.1)

total_take : (i : ℕ) (fs : List Field) → total (take i fs) ≤ total fs
total_take zero fs = omega arith
total_take (suc i) [] = omega arith
total_take (suc i) (f ∷ fs) = let h = total_take i fs in omega arith

abbrev pub nth : List Field → ℕ → Field
nth fs i = get_or fs i (record { width = 0; value = 0 })

width_within : (i : ℕ) (fs : List Field) → (nth fs i).width ≤ total fs
width_within i [] = omega arith
width_within zero (f ∷ fs) = omega arith
width_within (suc i) (f ∷ fs) = let h = width_within i fs in omega arith

-- with one field more the number still has at most 32 bits
pub record Turn (fs : List Field) (i n : ℕ) : Type 0 where
  pub joins : (n * 2 ^ (nth fs i).width) % 2 ^ 64 + (nth fs i).value ≡ joined (take (i + 1) fs)
  pub fits : joined (take (i + 1) fs) < 2 ^ 64
  pub narrow : (nth fs i).width < 64

pub turn : (fs : List Field) (i n : ℕ) → Fit fs → total fs ≤ 32 → i < length fs → n ≡ joined (take i fs) → Turn fs i n
turn fs i n fit short h e =
    let more : joined (take (i + 1) fs) ≡ n * 2 ^ (nth fs i).width + (nth fs i).value =
    ap joined (take_more fs i (record { width = 0; value = 0 }) h) ∙ joined_push 0 (take i fs) (nth fs i) ∙ ap (λ m. m * 2 ^ (nth fs i).width + (nth fs i).value) (sym e) in
    let small = joined_small (take (i + 1) fs) (fit_take (i + 1) fs fit) in
    let few : total (take (i + 1) fs) ≤ 32 = let t = total_take (i + 1) fs in omega arith in
    let wide = pow_mono few in
    record { joins = omega arith; fits = omega arith; narrow = let w = width_within i fs in omega arith }

pub joined_all : (fs : List Field) (i n : ℕ) → Fit fs → length fs ≤ i → n ≡ joined (take i fs) → n < 2 ^ total fs
joined_all fs i n fit h e = subst (λ m. m < 2 ^ total fs) (sym (e ∙ ap joined (take_all i fs h))) (joined_small fs fit)

-- out has the first i fields, and rest the bits of the others
pub record Splitting (ws : List ℕ) (n i left rest : ℕ) (out : List ℕ) : Type 0 where
  pub long : length out ≡ length ws
  pub narrow : Narrow (drop i ws)
  pub bits_left : left ≡ sum (drop i ws)
  pub few : sum (drop i ws) ≤ sum ws
  pub small : rest < 2 ^ left
  pub so_far : take i out ++ parts (drop i ws) rest ≡ parts ws n

pub splitting_first : (ws : List ℕ) (n left : ℕ) (out : List ℕ) → length out ≡ length ws → Narrow ws → left ≡ sum ws → n < 2 ^ sum ws → Splitting ws n 0 left n out
splitting_first ws n left out long narrow e small =
    record { long = long; narrow = narrow; bits_left = e; few = omega arith; small = subst (λ k. n < 2 ^ k) (sym e) small; so_far = refl }

-- the next field is narrow
pub narrow_part : (ws : List ℕ) (n i left rest : ℕ) (out : List ℕ) → i < length ws → Splitting ws n i left rest out → rest / 2 ^ (left - get_or ws i 0) < 2 ^ 16
narrow_part ws n i left rest out h s =
    let step = drop_more ws i 0 h in
    let bits = s.bits_left ∙ ap sum step in
    let all : left ≡ get_or ws i 0 + (left - get_or ws i 0) = omega arith in
    let p = shr_lt (get_or ws i 0) (left - get_or ws i 0) (subst (λ m. rest < 2 ^ m) all s.small) in
    let w : get_or ws i 0 ≤ 16 = (subst Narrow step s.narrow).0 in
    let q = pow_mono w in
    omega arith
