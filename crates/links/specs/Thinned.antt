-- Thinned: each frame of a list stands any number of times or not at all, next to itself, in the old order. Assumes nothing.
use Rattle.std.specs.Prelude.{◌≡◌, ℕ, List, [], ◌∷◌, ◌++◌}

-- the old list, then the new one: go on to the next frame of the old list, or let its first stand once more
pub data Thinned : List (List ℕ) → List (List ℕ) → Type 0 where
  none : Thinned [] []
  next : {f : List ℕ} {old new : List (List ℕ)} → Thinned old new → Thinned (f ∷ old) new
  stands : {f : List ℕ} {old new : List (List ℕ)} → Thinned (f ∷ old) new → Thinned (f ∷ old) (f ∷ new)

-- a list thinned that two lists make: what came of each
pub record Split (a b c : List (List ℕ)) : Type 0 where
  pub left : List (List ℕ)
  pub right : List (List ℕ)
  pub whole : c ≡ left ++ right
  pub of_left : Thinned a left
  pub of_right : Thinned b right

-- the laws of thinning
pub record Thinning : Type 0 where
  -- it holds of a list and itself
  pub same : (a : List (List ℕ)) → Thinned a a
  -- it composes
  pub composes : (a b c : List (List ℕ)) → Thinned a b → Thinned b c → Thinned a c
  -- it splits over ++, and joins over it
  pub splits : (a b c : List (List ℕ)) → Thinned (a ++ b) c → Split a b c
  pub joins : (a b c d : List (List ℕ)) → Thinned a c → Thinned b d → Thinned (a ++ b) (c ++ d)
  -- of nothing comes nothing
  pub empty : (a : List (List ℕ)) → Thinned [] a → a ≡ []
