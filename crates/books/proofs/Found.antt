-- What is found in a table after something was put into it, and that no two of it are alike. Assumes nothing.
use Rattle.std.proofs.Common.{◌≡◌, Bool, true, false, cond, List, [], ◌∷◌, ◌++◌, map, is_some, Some, None, Option, refl, ap, ◌∙◌, arith}
use Rattle.std.proofs.lemmas.Bool.Decides.{nat_tests}
use Rattle.std.proofs.lemmas.List.Folds.{find-append}
use Rattle.std.specs.List.{find}
use Rattle.std.specs.Option.{option_map}
use Rattle.books.specs.Tables.{Apart, renewed, put}

-- a change that a test does not see
pub found_map : {X : Type 0} (s t : X → Bool) (f : X → X) (xs : List X) → ((x : X) → s (f x) ≡ t x) → find s (map f xs) ≡ option_map f (find t xs)
found_map s t f [] h = refl
found_map s t f (x ∷ xs) h = let ih = found_map s t f xs h in let here = h x in grind (arith, nat_tests)

pub none_split : {X : Type 0} (x : X) (o : Option X) (b : Bool) → cond b (Some x) o ≡ None → (b ≡ false) × (o ≡ None)
none_split x o b e = (grind (arith, nat_tests), grind (arith, nat_tests))

-- what a test sees of a new one, and of those that it takes the place of
pub record Sees {X : Type 0} (r : X → X → Bool) (n : X) (t : X → Bool) : Type 0 where
  pub alike : (x : X) → r n x ≡ true → t x ≡ t n
  pub only : t n ≡ true → (x : X) → t x ≡ r n x

module _ {X : Type 0} (r : X → X → Bool) (n : X) (t : X → Bool) (h : Sees r n t) where
  pub found_renewed : (xs : List X) → find t (map (renewed r n) xs) ≡ cond (t n) (option_map (λ _. n) (find (r n) xs)) (find t xs)
  found_renewed [] = grind (arith, nat_tests)
  found_renewed (x ∷ xs) = let ih = found_renewed xs in let alike = h.alike x in let only = λ (q : t n ≡ true). h.only q x in grind (arith, nat_tests)

  found_pushed : (xs : List X) → find (r n) xs ≡ None → find t (xs ++ n ∷ []) ≡ cond (t n) (Some n) (find t xs)
  found_pushed [] e = refl
  found_pushed (x ∷ xs) e =
      let k = none_split x (find (r n) xs) (r n x) e in let ih = found_pushed xs k.1 in let only = λ (q : t n ≡ true). h.only q x in grind (arith, nat_tests)

  put_by : (xs : List X) (o : Option X) → find (r n) xs ≡ o → find t (cond (is_some o) (map (renewed r n) xs) (xs ++ n ∷ [])) ≡ cond (t n) (Some n) (find t xs)
  put_by xs None e = found_pushed xs e
  put_by xs (Some y) e = found_renewed xs ∙ ap (λ o. cond (t n) (option_map (λ _. n) o) (find t xs)) e

  pub found_put : (xs : List X) → find t (put r n xs) ≡ cond (t n) (Some n) (find t xs)
  found_put xs = put_by xs (find (r n) xs) refl

pub apart_map : {X : Type 0} (r : X → X → Bool) (f : X → X) (xs : List X) → ((x y : X) → r (f x) (f y) ≡ r x y) → Apart r xs → Apart r (map f xs)
apart_map r f [] h a = tt
apart_map r f (x ∷ xs) h a = (found_map (r (f x)) (r x) f xs (h x) ∙ ap (option_map f) a.0, apart_map r f xs h a.1)

none_pushed : {X : Type 0} (t : X → Bool) (n : X) (xs : List X) → t n ≡ false → find t xs ≡ None → find t (xs ++ n ∷ []) ≡ None
none_pushed t n xs h e = rw (find-append, e, h) refl

apart_pushed : {X : Type 0} (r : X → X → Bool) (n : X) (xs : List X) → ((x : X) → r x n ≡ r n x) → find (r n) xs ≡ None → Apart r xs → Apart r (xs ++ n ∷ [])
apart_pushed r n [] h e a = (refl, tt)
apart_pushed r n (x ∷ xs) h e a = let k = none_split x (find (r n) xs) (r n x) e in (none_pushed (r x) n xs (h x ∙ k.0) a.0, apart_pushed r n xs h k.1 a.1)

pub apart_put : {X : Type 0} (r : X → X → Bool) (n : X) (xs : List X) → ((x : X) → r x n ≡ r n x) → ((x y : X) → r (renewed r n x) (renewed r n y) ≡ r x y) → Apart r xs → Apart r (put r n xs)
apart_put r n xs h k a = go (find (r n) xs) refl
  where
    go : (o : Option _) → find (r n) xs ≡ o → Apart r (cond (is_some o) (map (renewed r n) xs) (xs ++ n ∷ []))
    go None e = apart_pushed r n xs h e a
    go (Some y) e = apart_map r (renewed r n) xs k a
