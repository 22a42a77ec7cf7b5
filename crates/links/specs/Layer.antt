-- What the fault layer does is what a link may do. Assumes nothing.
use Rattle.std.specs.Prelude.{◌≡◌, ℕ, Bool, true, false, cond, List, [], ◌∷◌, ◌++◌, Ok, Err, refl}
use Rattle.std.proofs.Common.{sym, ap, subst}
use Rattle.links.specs.declared.faulty.Faulty.{Faulty}
use Rattle.text.specs.Fault.{in_link}
use Rattle.links.specs.Checks.{unfit}
use Rattle.links.specs.Faulty.{bit, Below, FitOrNot, Faulted}
use Rattle.links.specs.Meaning.{Sent, SendAnswer}
use Rattle.links.specs.Thinned.{Thinned}
use Rattle.links.specs.Thin.{same, lost, composes, again}

-- a second copy of a frame, whatever it is answered
second_copy : (n : ℕ) (f : List ℕ) (w v u : List (List ℕ)) (r : SendAnswer) → Thinned (w ++ f ∷ []) v → Sent n f v u r → Thinned (w ++ f ∷ []) u
second_copy n f w v u (Ok x) t s = composes (again w f v t) u s.waits
second_copy n f w v u (Err e) t s = composes t u s.waits

module _ {X : Type 0} (sends : X → List ℕ → X → SendAnswer → Type 0) (waits : X → List (List ℕ)) (longest : ℕ)
    (sent : (a : X) (f : List ℕ) (b : X) (r : SendAnswer) → sends a f b r → Sent longest f (waits a) (waits b) r) where
  below : (l d : Bool) (a : X) (f : List ℕ) (b : X) (r : SendAnswer) → unfit longest f ≡ false → Below sends l d a f b r → Sent longest f (waits a) (waits b) r
  below true d a f b r u k =
      subst (λ (s : SendAnswer). Sent longest f (waits a) (waits b) s) (sym k.1)
      (record { fit = u; waits = subst (λ (x : X). Thinned (waits a ++ f ∷ []) (waits x)) (sym k.0) (lost (waits a) f) })
  below false true a f b (Ok x) u k =
      record { fit = u; waits = second_copy longest f (waits a) (waits k.between) (waits b) k.answer (sent a f k.between (Ok tt) k.first).waits (sent k.between f b k.answer k.second) }
  below false true a f b (Err e) u k = sent a f b (Err e) k
  below false false a f b r u k = sent a f b r k

  fit_or_not : {g : _} (t : Bool) (a : Faulty X g) (f : List ℕ) (b : Faulty X g) (r : SendAnswer) → unfit longest f ≡ t → FitOrNot sends t a f b r → Sent longest f (waits a.lower) (waits b.lower) r
  fit_or_not {g} true a f b r u k =
      subst (λ (s : SendAnswer). Sent longest f (waits a.lower) (waits b.lower) s) (sym k.1)
      (record { fault = sym (ap (λ t. cond t (in_link 41) (in_link 43)) u); waits = subst (λ (x : Faulty X g). Thinned (waits a.lower) (waits x.lower)) (sym k.0) (same (waits a.lower)) })
  fit_or_not false a f b r u k = below (bit a.lost a.count) (bit a.doubled a.count) a.lower f b.lower r u k.below

  pub faulted : {g : _} (a : Faulty X g) (f : List ℕ) (b : Faulty X g) (r : SendAnswer) → Faulted sends longest a f b r → Sent longest f (waits a.lower) (waits b.lower) r
  faulted a f b r k = fit_or_not (unfit longest f) a f b r refl k
