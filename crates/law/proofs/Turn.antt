-- What one call does to the faces of the switch: the only thing that the books and the exchange know of it. Assumes nothing.
use Rattle.std.proofs.Common.{◌≡◌, ℕ, ◌+◌, ◌-◌, ◌<◌, ◌≤◌, Bool, true, false, not, ◌&&◌, eqb, leb, ◌⊎◌, List, [], ◌∷◌, ◌++◌, Some, None, Option, sym, refl, ap, ◌∙◌, subst, inl, inr, arith}
use Rattle.std.proofs.lemmas.Bool.Decides.{nat_tests, eqb_tells, leb_tells}
use Rattle.records.specs.declared.legs.HeldLegs.TheVariants.{Neither}
use Rattle.records.specs.declared.legs.Standing.{Standing as Spot}
use Rattle.records.specs.declared.legs.Standing.TheVariants.{Absent, Talking, OnHold}
use Rattle.law.specs.History.{Deed, all_calls}
use Rattle.law.specs.History.Deed.{connected, hold_granted, retrieval_granted, cleared_by_party, cleared_by_network}
use Rattle.law.proofs.Standings.{Standing, Drifts}
use Rattle.law.proofs.Standings.Standing.{on, off, gone}
use Rattle.law.proofs.Standings.Drifts.{stays, fades}
use Rattle.law.proofs.Faces.{Face, spot_in, is_some, busy, held_in}
use Rattle.law.proofs.Ledger.{Ledger, hold_count, new_face, leg_put, There, put_other, ledger_same, ledger_connected, ledger_aside, ledger_back, ledger_ended, ledger_ended_by, ledger_missed, in_range}

abbrev pub Faces : Type 0
Faces = ℕ → Option Face

-- all faces but that of c stay
abbrev pub But : ℕ → Faces → Faces → Type 0
But c φ φ' = (y : ℕ) → (c ≡ y → ⊥) → φ' y ≡ φ y

pub data Turn (limit : ℕ → ℕ) (size : ℕ) (φ : Faces) (last used : ℕ) (φ' : Faces) : ℕ → ℕ → List Deed → Type 0 where
  still : ((y : ℕ) → φ' y ≡ φ y) → Turn limit size φ last used φ' last used []
  connects : (c a b : ℕ) → But c φ φ' → φ c ≡ None → φ' c ≡ Some (new_face a b) → last < c → c < all_calls → (a ≡ b → ⊥) → used + 2 ≤ size
      → Turn limit size φ last used φ' c (used + 2) (connected c a b ∷ [])
  asides : (v c : ℕ) (f : Face) → But c φ φ' → φ c ≡ Some f → spot_in v (Some f) ≡ Talking → φ' c ≡ Some (leg_put v true f) → hold_count φ v < limit v
      → Turn limit size φ last used φ' last (used - 1) (hold_granted v c ∷ [])
  backs : (v c : ℕ) (f : Face) → But c φ φ' → φ c ≡ Some f → spot_in v (Some f) ≡ OnHold → φ' c ≡ Some (leg_put v false f) → used < size
      → Turn limit size φ last used φ' last (used + 1) (retrieval_granted v c ∷ [])
  overs : (c : ℕ) (f : Face) → But c φ φ' → φ c ≡ Some f → φ' c ≡ None → Turn limit size φ last used φ' last (used - busy (φ c)) (cleared_by_network c (held_in (φ c)) ∷ [])
  overs_by : (v c : ℕ) (f : Face) → But c φ φ' → φ c ≡ Some f → There (spot_in v (Some f)) → φ' c ≡ None
      → Turn limit size φ last used φ' last (used - busy (φ c)) (cleared_by_party v c (held_in (φ c)) ∷ [])
  misses : (v c : ℕ) → ((y : ℕ) → φ' y ≡ φ y) → spot_in v (φ c) ≡ Absent → Turn limit size φ last used φ' last used (cleared_by_party v c Neither ∷ [])

-- the books go on
pub turn_ledger : {limit : ℕ → ℕ} {size : ℕ} {ds : List Deed} {φ φ' : Faces} {last used last' used' : ℕ} {d : List Deed}
    → Turn limit size φ last used φ' last' used' d → Ledger limit size ds φ last used → Ledger limit size (d ++ ds) φ' last' used'
turn_ledger {φ' = φ'} (still e) L = ledger_same φ' e L
turn_ledger {limit} {size} {ds} {φ} {φ'} {last} {used} (connects c a b s e e' l m d f) L = ledger_connected limit size ds φ φ' last used c L s a b e e' l m d f
turn_ledger {limit} {size} {ds} {φ} {φ'} {last} {used} (asides v c f s e t e' r) L = ledger_aside limit size ds φ φ' last used c L s v f e t e' r
turn_ledger {limit} {size} {ds} {φ} {φ'} {last} {used} (backs v c f s e t e' r) L = ledger_back limit size ds φ φ' last used c L s v f e t e' r
turn_ledger {limit} {size} {ds} {φ} {φ'} {last} {used} (overs c f s e e') L =
    subst (λ o. Ledger limit size (cleared_by_network c (held_in o) ∷ ds) φ' last (used - busy (φ c))) (sym e) (ledger_ended limit size ds φ φ' last used c L s f e e')
turn_ledger {limit} {size} {ds} {φ} {φ'} {last} {used} (overs_by v c f s e t e') L =
    subst (λ o. Ledger limit size (cleared_by_party v c (held_in o) ∷ ds) φ' last (used - busy (φ c))) (sym e) (ledger_ended_by limit size ds φ φ' last used c L s v f e t e')
turn_ledger {φ' = φ'} (misses v c e a) L = ledger_same φ' e (ledger_missed v c a L)

-- how a call stands for u
abbrev pub stand_if : Spot → Bool → Standing
stand_if OnHold g = on
stand_if Talking g = off
stand_if Absent true = gone
stand_if Absent false = off

abbrev pub over : ℕ → ℕ → Option Face → Bool
over last c o = leb c last && not (is_some o)

pub stands : ℕ → ℕ → ℕ → Option Face → Standing
stands u last c o = stand_if (spot_in u o) (over last c o)

abbrev pub standing : ℕ → Faces → ℕ → ℕ → Standing
standing u φ last c = stands u last c (φ c)

-- whose deed it is, if a user's
abbrev NotOf : ℕ → Deed → Type 0
NotOf u (connected c a b) = Unit {0}
NotOf u (hold_granted v c) = v ≡ u → ⊥
NotOf u (retrieval_granted v c) = v ≡ u → ⊥
NotOf u (cleared_by_party v c n) = Unit {0}
NotOf u (cleared_by_network c n) = Unit {0}

abbrev pub NotBy : ℕ → List Deed → Type 0
NotBy u [] = Unit {0}
NotBy u (d ∷ ds) = NotOf u d × NotBy u ds

stays_by : {s s' : Standing} → s' ≡ s → Drifts s s'
stays_by {s} {s'} e = subst (Drifts s) (sym e) stays

fades_by : {s s' : Standing} → s' ≡ gone → Drifts s s'
fades_by {s} {s'} e = subst (Drifts s) (sym e) fades

-- a face as it was, with a last identifier that may have risen
grows : (u last last' c : ℕ) (o : Option Face) → last ≤ last' → Drifts (stands u last c o) (stands u last' c o)
unfolding stands
grows u last last' c (Some f) l = go (spot_in u (Some f)) (leb c last) (leb c last')
  where
    go : (z : Spot) (p q : Bool) → Drifts (stand_if z (p && false)) (stand_if z (q && false))
    go OnHold p q = stays
    go Talking p q = stays
    go Absent true true = stays
    go Absent true false = stays
    go Absent false true = stays
    go Absent false false = stays
grows u last last' c None l = go (leb_tells c last) (leb_tells c last')
  where
    go : ((leb c last ≡ true) × (c ≤ last)) ⊎ ((leb c last ≡ false) × (last < c)) → ((leb c last' ≡ true) × (c ≤ last')) ⊎ ((leb c last' ≡ false) × (last' < c))
        → Drifts (stand_if Absent (leb c last && true)) (stand_if Absent (leb c last' && true))
    go (inl i) (inl j) = rw (i.0, j.0) stays
    go (inl i) (inr j) = absurd (omega (arith, i.1, j.1))
    go (inr i) (inl j) = rw (i.0, j.0) fades
    go (inr i) (inr j) = rw (i.0, j.0) stays

pub elsewhere : (u : ℕ) (φ φ' : Faces) (last last' y : ℕ) → φ' y ≡ φ y → last ≤ last' → Drifts (standing u φ last y) (standing u φ' last' y)
elsewhere u φ φ' last last' y e l = subst (λ o. Drifts (standing u φ last y) (stands u last' y o)) (sym e) (grows u last last' y (φ y) l)

-- with a face the standing is the leg's
pub stands_on : (u last c : ℕ) (o : Option Face) → spot_in u o ≡ OnHold → stands u last c o ≡ on
unfolding stands
stands_on u last c o e = rw e

pub stands_off : (u last c : ℕ) (o : Option Face) → spot_in u o ≡ Talking → stands u last c o ≡ off
unfolding stands
stands_off u last c o e = rw e

pub stands_absent : (u last c : ℕ) (o : Option Face) → spot_in u o ≡ Absent → (stands u last c o ≡ off) ⊎ (stands u last c o ≡ gone)
unfolding stands
stands_absent u last c o e = rw e (go (over last c o))
  where
    go : (g : Bool) → (stand_if Absent g ≡ off) ⊎ (stand_if Absent g ≡ gone)
    go true = inr refl
    go false = inl refl

pub stands_off_absent : (u last c : ℕ) (f : Face) → spot_in u (Some f) ≡ Absent → stands u last c (Some f) ≡ off
unfolding stands
stands_off_absent u last c f e = rw e (go (leb c last))
  where
    go : (p : Bool) → stand_if Absent (p && false) ≡ off
    go true = refl
    go false = refl

pub stands_gone : (u last c : ℕ) → c ≤ last → stands u last c None ≡ gone
unfolding stands
stands_gone u last c l = let e : leb c last ≡ true = grind (arith, nat_tests) in rw e

stands_before : (u last c : ℕ) → last < c → stands u last c None ≡ off
unfolding stands
stands_before u last c l = let e : leb c last ≡ false = grind (arith, nat_tests) in rw e

new_off : (u last c a b : ℕ) → stands u last c (Some (new_face a b)) ≡ off
new_off u last c a b = go (eqb a u) (eqb b u) refl refl
  where
    go : (p q : Bool) → eqb a u ≡ p → eqb b u ≡ q → stands u last c (Some (new_face a b)) ≡ off
    go true q i j = stands_off u last c (Some (new_face a b)) (rw i)
    go false true i j = stands_off u last c (Some (new_face a b)) (rw (i, j))
    go false false i j = stands_off_absent u last c (new_face a b) (rw (i, j))

put_stands : (u v last c : ℕ) (m : Bool) (f : Face) → (v ≡ u → ⊥) → There (spot_in v (Some f)) → stands u last c (Some (leg_put v m f)) ≡ stands u last c (Some f)
unfolding stands
put_stands u v last c m f d t = rw (put_other f v u m d t)

pub here_or_else : (u : ℕ) (φ φ' : Faces) (last last' c : ℕ) → But c φ φ' → last ≤ last' → Drifts (standing u φ last c) (standing u φ' last' c) → (y : ℕ) → Drifts (standing u φ last y) (standing u φ' last' y)
here_or_else u φ φ' last last' c s l h y = go (eqb_tells c y)
  where
    go : ((eqb c y ≡ true) × (c ≡ y)) ⊎ ((eqb c y ≡ false) × (c ≡ y → ⊥)) → Drifts (standing u φ last y) (standing u φ' last' y)
    go (inl e) = subst (λ z. Drifts (standing u φ last z) (standing u φ' last' z)) e.1 h
    go (inr e) = elsewhere u φ φ' last last' y (s y e.1) l

put_drift : (u v last c : ℕ) (m : Bool) (φ φ' : Faces) (f : Face) → φ c ≡ Some f → φ' c ≡ Some (leg_put v m f) → There (spot_in v (Some f)) → (v ≡ u → ⊥)
    → Drifts (standing u φ last c) (standing u φ' last c)
put_drift u v last c m φ φ' f e e' t n = stays_by (ap (stands u last c) e' ∙ (put_stands u v last c m f n t ∙ sym (ap (stands u last c) e)))

pub end_drift : {limit : ℕ → ℕ} {size : ℕ} {ds : List Deed} {φ : Faces} {last used : ℕ} (u c : ℕ) (φ' : Faces) (f : Face) → Ledger limit size ds φ last used → φ c ≡ Some f → φ' c ≡ None
    → standing u φ' last c ≡ gone
end_drift {limit} {size} {ds} {φ} {last} {used} u c φ' f L e e' = ap (stands u last c) e' ∙ stands_gone u last c (in_range limit size ds φ φ last used c L (λ y d. refl) f e)

there_by : (z : Spot) (s : Spot) → z ≡ s → There s → There z
there_by z s e t = subst There (sym e) t

-- a turn that is not the user's own hold or retrieval lets his calls drift
pub turn_drift : {limit : ℕ → ℕ} {size : ℕ} {ds : List Deed} {φ φ' : Faces} {last used last' used' : ℕ} {d : List Deed} (u : ℕ) → Ledger limit size ds φ last used
    → Turn limit size φ last used φ' last' used' d → NotBy u d → (y : ℕ) → Drifts (standing u φ last y) (standing u φ' last' y)
turn_drift {φ = φ} {φ' = φ'} {last = last} u L (still e) n y = elsewhere u φ φ' last last y (e y) (omega arith)
turn_drift {φ = φ} {φ' = φ'} {last = last} u L (connects c a b s e e' l m d f) n y =
    here_or_else u φ φ' last c c s (omega arith) (stays_by (ap (stands u c c) e' ∙ (new_off u c c a b ∙ sym (ap (stands u last c) e ∙ stands_before u last c l)))) y
turn_drift {φ = φ} {φ' = φ'} {last = last} u L (asides v c f s e t e' r) n y =
    here_or_else u φ φ' last last c s (omega arith) (put_drift u v last c true φ φ' f e e' (there_by (spot_in v (Some f)) Talking t tt) n.0) y
turn_drift {φ = φ} {φ' = φ'} {last = last} u L (backs v c f s e t e' r) n y =
    here_or_else u φ φ' last last c s (omega arith) (put_drift u v last c false φ φ' f e e' (there_by (spot_in v (Some f)) OnHold t tt) n.0) y
turn_drift {φ = φ} {φ' = φ'} {last = last} u L (overs c f s e e') n y = here_or_else u φ φ' last last c s (omega arith) (fades_by (end_drift u c φ' f L e e')) y
turn_drift {φ = φ} {φ' = φ'} {last = last} u L (overs_by v c f s e t e') n y = here_or_else u φ φ' last last c s (omega arith) (fades_by (end_drift u c φ' f L e e')) y
turn_drift {φ = φ} {φ' = φ'} {last = last} u L (misses v c e a) n y = elsewhere u φ φ' last last y (e y) (omega arith)
