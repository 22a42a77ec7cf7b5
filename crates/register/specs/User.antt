-- Users by their numbers: which there are, when two are the same, and their order. Assumes nothing.
use Rattle.std.specs.Prelude.{◌≡◌, ℕ, Bool, true, ◌&&◌, ◌⊎◌, ◌==◌, ◌≢◌, nat_le, nat_lt}

-- an SSI is 1 to 16,777,215
abbrev pub is_user : ℕ → Bool
is_user n = nat_lt 0 n && nat_le n 16777215

abbrev pub same : ℕ → ℕ → Bool
same a b = a == b

abbrev pub before : ℕ → ℕ → Bool
before a b = nat_lt a b

-- the test tells users apart: it is true of equal ones and of no others
pub record Tells : Type 0 where
  pub only : (a b : ℕ) → same a b ≡ true → a ≡ b
  pub equal : (a : ℕ) → same a a ≡ true

-- the order is strict and total
pub record Order : Type 0 where
  pub strict : (a : ℕ) → before a a ≢ true
  pub chain : (a b c : ℕ) → before a b ≡ true → before b c ≡ true → before a c ≡ true
  pub total : (a b : ℕ) → (same a b ≡ true) ⊎ ((before a b ≡ true) ⊎ (before b a ≡ true))
