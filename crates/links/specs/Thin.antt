-- Laws of thinning. Assumes nothing.
use Rattle.std.specs.Prelude.{◌≡◌, ℕ, List, [], ◌∷◌, ◌++◌, refl}
use Rattle.std.proofs.Common.{sym, ap, subst, ◌∙◌, append-nil, append_assoc, arith}
use Rattle.links.specs.Thinned.{Thinned, Split, Thinning}
use Rattle.links.specs.Thinned.Thinned.{none, next, stands}

abbrev Frames : Type 0
Frames = List (List ℕ)

pub same : (w : Frames) → Thinned w w
same [] = none
same (f ∷ w) = stands (next (same w))

-- equal lists
pub equal : (w v : Frames) → w ≡ v → Thinned w v
equal w v e = subst (Thinned w) e (same w)

pub empty : {a b : Frames} → Thinned a b → a ≡ [] → b ≡ []
empty none e = refl
empty (next t) e = let z : ◌≡◌ {A = ℕ} 0 1 = cc in absurd (omega arith)
empty (stands t) e = let z : ◌≡◌ {A = ℕ} 0 1 = cc in absurd (omega arith)

-- the copies of the first frame go by h, and so does what follows them
first : {f : List ℕ} {old new b c : Frames} → ((d : Frames) → Thinned new d → Thinned (f ∷ old) d) → Thinned b c → b ≡ f ∷ new → Thinned (f ∷ old) c
first h none e = let z : ◌≡◌ {A = ℕ} 0 1 = cc in absurd (omega arith)
first {f} {old} {new} h (next {f = x} {old = w} {new = v} t) e = let s : w ≡ new = cc in h v (subst (λ (l : Frames). Thinned l v) s t)
first {f} {old} {new} h (stands {f = x} {old = w} {new = v} t) e = let s : x ≡ f = cc in subst (λ (y : List ℕ). Thinned (f ∷ old) (y ∷ v)) (sym s) (stands (first h t e))

pub composes : {a b : Frames} → Thinned a b → (c : Frames) → Thinned b c → Thinned a c
composes none c u = u
composes (next t) c u = next (composes t c u)
composes (stands t) c u = first (composes t) u refl

-- a list that thins to nothing
pub nothing : (w : Frames) → Thinned w []
nothing [] = none
nothing (f ∷ w) = next (nothing w)

pub joins : {a c : Frames} → Thinned a c → (b d : Frames) → Thinned b d → Thinned (a ++ b) (c ++ d)
joins none b d u = u
joins (next t) b d u = next (joins t b d u)
joins (stands t) b d u = stands (joins t b d u)

-- all of it came of the second list
right : {u c : Frames} (b : Frames) → Thinned u c → u ≡ b → Split [] b c
right {u} {c} b t e = record { left = []; right = c; whole = refl; of_left = none; of_right = subst (λ (l : Frames). Thinned l c) e t }

split : {u c : Frames} → Thinned u c → (a b : Frames) → u ≡ a ++ b → Split a b c
split none [] b e = right b none e
split none (x ∷ a) b e = let z : ◌≡◌ {A = ℕ} 0 1 = cc in absurd (omega arith)
split (next t) [] b e = right b (next t) e
split (next {f = f} {old = o} {new = v} t) (x ∷ a) b e =
    let s : o ≡ a ++ b = cc in
    let p = split t a b s in
    record { left = p.left; right = p.right; whole = p.whole; of_left = next p.of_left; of_right = p.of_right }
split (stands t) [] b e = right b (stands t) e
split (stands {f = f} {old = o} {new = v} t) (x ∷ a) b e =
    let s : f ≡ x = cc in
    let p = split t (x ∷ a) b e in
    let whole : f ∷ v ≡ x ∷ (p.left ++ p.right) = cc p.whole in
    record { left = x ∷ p.left; right = p.right; whole = whole; of_left = stands p.of_left; of_right = p.of_right }

pub thinning : Thinning
thinning = record {
  same = same;
  composes = λ a b c t u. composes t c u;
  splits = λ a b c t. split t a b refl;
  joins = λ a b c d t u. joins t b d u;
  empty = λ a t. empty t refl;
}

-- a frame sent and lost
pub lost : (w : Frames) (f : List ℕ) → Thinned (w ++ f ∷ []) w
lost w f = subst (Thinned (w ++ f ∷ [])) (append-nil w) (joins (same w) (f ∷ []) [] (next none))

-- the frame once more at the end
once_more : {a v : Frames} → Thinned a v → (f : List ℕ) → a ≡ f ∷ [] → Thinned a (v ++ f ∷ [])
once_more none f e = let z : ◌≡◌ {A = ℕ} 0 1 = cc in absurd (omega arith)
once_more (next {f = y} {old = o} {new = v} t) f e =
    let n : v ≡ [] = empty t (cc) in
    let s : y ≡ f = cc in
    subst (λ (l : Frames). Thinned (y ∷ o) (l ++ f ∷ [])) (sym n) (subst (λ (z : List ℕ). Thinned (y ∷ o) (z ∷ [])) s (stands (next (subst (λ (l : Frames). Thinned o l) n t))))
once_more (stands t) f e = stands (once_more t f e)

pub again : (w : Frames) (f : List ℕ) (v : Frames) → Thinned (w ++ f ∷ []) v → Thinned (w ++ f ∷ []) (v ++ f ∷ [])
again w f v t =
    let p = split t w (f ∷ []) refl in
    subst (λ (l : Frames). Thinned (w ++ f ∷ []) l) (sym (ap (λ (l : Frames). l ++ f ∷ []) p.whole ∙ append_assoc p.left p.right (f ∷ [])))
    (joins p.of_left (f ∷ []) (p.right ++ f ∷ []) (once_more p.of_right f refl))
