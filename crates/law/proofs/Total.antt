-- Sums over call identifiers. Assumes nothing.
use Rattle.std.proofs.Common.{◌≡◌, ℕ, zero, suc, ◌+◌, ◌<◌, true, false, eqb, ◌⊎◌, refl, ap, inl, inr, arith}
use Rattle.std.proofs.lemmas.Bool.Decides.{eqb_tells}
use Rattle.law.specs.History.{total}

pub total_same : (f g : ℕ → ℕ) (n : ℕ) → ((x : ℕ) → x < n → g x ≡ f x) → total g n ≡ total f n
unfolding total
total_same f g zero h = refl
total_same f g (suc n) h = let i = total_same f g n (λ x l. h x (omega arith)) in let j : g n ≡ f n = h n (omega arith) in omega arith

-- two functions that differ at c alone
pub total_at : (f g : ℕ → ℕ) (n c : ℕ) → c < n → ((x : ℕ) → (c ≡ x → ⊥) → g x ≡ f x) → total g n + f c ≡ total f n + g c
unfolding total
total_at f g zero c l h = omega arith
total_at f g (suc n) c l h = go (λ l. total_at f g n c l h) (eqb_tells c n)
  where
    go : (c < n → total g n + f c ≡ total f n + g c) → ((eqb c n ≡ true) × (c ≡ n)) ⊎ ((eqb c n ≡ false) × (c ≡ n → ⊥)) → total g (suc n) + f c ≡ total f (suc n) + g c
    go ih (inl e) = let i = total_same f g n (λ x l. h x (λ z. omega arith)) in let j = ap f e.1 in let k = ap g e.1 in omega arith
    go ih (inr e) = let i = ih (omega (arith, e.1)) in let j : g n ≡ f n = h n e.1 in omega arith

pub total_zero : (f : ℕ → ℕ) (n : ℕ) → ((x : ℕ) → x < n → f x ≡ 0) → total f n ≡ 0
unfolding total
total_zero f zero h = refl
total_zero f (suc n) h = let i = total_zero f n (λ x l. h x (omega arith)) in let j : f n ≡ 0 = h n (omega arith) in omega arith
