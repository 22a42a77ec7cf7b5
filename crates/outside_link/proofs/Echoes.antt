-- What the queue does is what a link may do. Assumes nothing.
use Rattle.std.proofs.Common.{◌≡◌, ℕ, ◌<◌, ◌≤◌, List, [], ◌∷◌, ◌++◌, length, map, take, drop, Some, sym, ap, subst, ◌∙◌}
use Rattle.std.specs.List.{All, slice_get}
use Rattle.std.proofs.lemmas.List.{take_all, map-append}
use Rattle.std.proofs.lemmas.List.Elements.{All-head}
use Rattle.links.specs.Thinned.{Thinned}
use Rattle.links.specs.Thinned.Thinned.{stands}
use Rattle.links.specs.Thin.{same, equal}
use Rattle.text.specs.declared.buffer.Buffer.{Buffer}
use Rattle.text.specs.Octets.{held}

-- a frame is put after the others
pub joins : (ls new : List (Buffer 8)) (a l : Buffer 8) (f : List ℕ) → new ≡ ls ++ l ∷ [] → held a ≡ [] → held l ≡ take 8 (held a ++ f) → length f ≤ 8 → Thinned (map held ls ++ f ∷ []) (map held new)
joins ls new a l f e none is few =
    let whole : held l ≡ f = is ∙ ap (λ x. take 8 (x ++ f)) none ∙ take_all 8 f few in
    equal _ _ (sym (ap (map held) e ∙ map-append held ls (l ∷ []) ∙ ap (λ x. map held ls ++ x ∷ []) whole))

module _ (l : Buffer 8) where
  -- the first frame is not empty
  pub is_some : (ls : List (Buffer 8)) → Some l ≡ slice_get ls 0 → All (λ (x : Buffer 8). 0 < length (held x)) ls → 0 < length (held l)
  is_some [] e a = cc
  is_some (x ∷ ls) e a =
      let s : x ≡ l = cc in
      subst (λ (y : Buffer 8). 0 < length (held y)) s (All-head (λ (y : Buffer 8). 0 < length (held y)) x ls a)

  -- it is handed out and stays
  pub stays : (ls new : List (Buffer 8)) → Some l ≡ slice_get ls 0 → new ≡ ls → Thinned (map held ls) (held l ∷ map held new)
  stays [] new e n = cc
  stays (x ∷ ls) new e n =
      let s : x ≡ l = cc in
      subst (Thinned (map held (x ∷ ls))) (λ i. held (s i) ∷ map held (sym n i)) (stands (same (map held (x ∷ ls))))

  -- it is handed out and goes
  pub goes : (ls new : List (Buffer 8)) → Some l ≡ slice_get ls 0 → new ≡ drop 1 ls → Thinned (map held ls) (held l ∷ map held new)
  goes [] new e n = cc
  goes (x ∷ ls) new e n =
      let s : x ≡ l = cc in
      equal (map held (x ∷ ls)) (held l ∷ map held new) (λ i. held (s i) ∷ map held (sym n i))
