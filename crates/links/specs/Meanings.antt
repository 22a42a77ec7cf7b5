-- How a link shows that it does what a link may do. Assumes nothing.
use Rattle.std.specs.Prelude.{◌≡◌, ℕ, ◌<◌, ◌≤◌, Bool, true, false, cond, List, ◌∷◌, ◌++◌, length, take, drop, Ok, Err, ◌==◌, nat_lt, refl}
use Rattle.std.proofs.Common.{sym, ap, subst, ◌∙◌, arith}
use Rattle.std.proofs.lemmas.List.{take_at, drop_at}
use Rattle.std.proofs.lemmas.Bool.{or_parts, eqb-false, ltb-false}
use Rattle.text.specs.declared.fault.Fault.{Fault}
use Rattle.text.specs.Fault.{in_link, unless}
use Rattle.links.specs.Checks.{unfit, short, frame_checked}
use Rattle.links.specs.Meaning.{Refused, Handed}
use Rattle.links.specs.Thinned.{Thinned}
use Rattle.links.specs.Thin.{same}

-- what a check tells that passed
pub passes : (refused : Bool) (e : Fault) (x : Unit {0}) → Ok x ≡ unless refused e (Ok tt) → refused ≡ false
passes true e x h = let z : ◌≡◌ {A = ℕ} 0 1 = cc in absurd (omega arith)
passes false e x h = refl

pub fit_length : (longest : ℕ) (f : List ℕ) → unfit longest f ≡ false → (0 < length f) × (length f ≤ longest)
fit_length longest f h =
    let both = or_parts (length f == 0) (nat_lt longest (length f)) h in
    let some = eqb-false (length f) 0 both.0 in
    (omega arith, ltb-false longest (length f) both.1)

module _ (longest : ℕ) (f : List ℕ) where
  -- a send that the check of the frame refused, and that changed nothing
  pub refused_unfit : (w : List (List ℕ)) (e : Fault) → Err e ≡ frame_checked longest f → Refused longest f w w e
  refused_unfit w e h = record { fault = go (unfit longest f) h; waits = same w }
    where
      go : (u : Bool) → Err e ≡ unless {X = Unit {0}} u (in_link 41) (Ok tt) → e ≡ cond u (in_link 41) (in_link 43)
      go true h = cc
      go false h = cc

  -- a send refused for another reason
  pub refused_fit : (old new : List (List ℕ)) (e : Fault) → unfit longest f ≡ false → e ≡ in_link 43 → Thinned old new → Refused longest f old new e
  refused_fit old new e fit is t = record { fault = is ∙ sym (ap (λ u. cond u (in_link 41) (in_link 43)) fit); waits = t }

-- a frame handed out
pub handed_out : (longest : ℕ) (m n f : List ℕ) (old new : List (List ℕ)) (k : ℕ) → short m ≡ false → 0 < length f → length f ≤ longest → k ≡ length f → n ≡ f ++ drop k m → Thinned old (f ∷ new) → Handed longest m n old new k
handed_out longest m n f old new k long lo hi count out t = record {
  long = long;
  some = omega arith;
  fit = omega arith;
  untouched = ap (drop k) out ∙ drop_at f (drop k m) k (sym count);
  waits = subst (λ x. Thinned old (x ∷ new)) (sym (ap (take k) out ∙ take_at f (drop k m) k (sym count))) t;
}
