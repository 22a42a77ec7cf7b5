-- The books: what the outcomes say of the calls, and what the switch's faces show. Assumes nothing.
use Rattle.std.proofs.Common.{◌≡◌, ℕ, ◌+◌, ◌-◌, ◌<◌, ◌≤◌, Bool, true, false, cond, not, ◌&&◌, ◌||◌, eqb, leb, ◌⊎◌, List, ◌∷◌, Some, None, Option, sym, refl, ap, ◌∙◌, subst, inl, inr, arith}
use Rattle.std.proofs.lemmas.Bool.Decides.{nat_tests, eqb_tells, leb_tells}
use Rattle.records.specs.Legs.{one, is_on_hold, legs_of}
use Rattle.records.specs.declared.legs.HeldLegs.{HeldLegs}
use Rattle.records.specs.declared.legs.HeldLegs.TheVariants.{Neither}
use Rattle.records.specs.declared.legs.Standing.{Standing as Spot}
use Rattle.records.specs.declared.legs.Standing.TheVariants.{Absent, Talking, OnHold}
use Rattle.law.specs.History.{Deed, Parties, parties, party, party_of, live, on_hold, holds_granted, retrievals_granted, held_calls_cleared, leg_among, first_among, second_among, total, all_calls}
use Rattle.law.specs.History.Deed.{connected, hold_granted, retrieval_granted, cleared_by_party, cleared_by_network}
use Rattle.law.proofs.Faces.{Face, spot_in, spot_if, spot_of, busy, held_in, no_some}
use Rattle.law.proofs.Total.{total_at, total_same}

abbrev pub sides : Face → Parties
sides f = record { first = f.first; second = f.second }

-- what the outcomes tell of a call whose face is this
abbrev pub Tells : List Deed → ℕ → Option Face → Type 0
Tells ds c None = (live ds c ≡ false) × ((v : ℕ) → on_hold ds v c ≡ false)
Tells ds c (Some f) = (live ds c ≡ true) × ((v : ℕ) → on_hold ds v c ≡ is_on_hold (spot_in v (Some f))) × (parties ds c ≡ Some (sides f)) × (f.first ≡ f.second → ⊥)

abbrev pub hold_count : (ℕ → Option Face) → ℕ → ℕ
hold_count φ v = total (λ c. one (is_on_hold (spot_in v (φ c)))) all_calls

pub record Ledger (limit : ℕ → ℕ) (size : ℕ) (ds : List Deed) (φ : ℕ → Option Face) (last used : ℕ) : Type 0 where
  pub says : (c : ℕ) → Tells ds c (φ c)
  pub beyond : (c : ℕ) → last < c → φ c ≡ None
  pub below : last < all_calls
  pub sum : used ≡ total (λ c. busy (φ c)) all_calls
  pub fits : used ≤ size
  pub holds : (v : ℕ) → hold_count φ v + retrievals_granted ds v + held_calls_cleared ds v ≡ holds_granted ds v
  pub limited : (v : ℕ) → hold_count φ v ≤ limit v

-- an outcome that says nothing of the call y
pub record Silent (d : Deed) (ds : List Deed) (y : ℕ) : Type 0 where
  pub lives : live (d ∷ ds) y ≡ live ds y
  pub hangs : (v : ℕ) → on_hold (d ∷ ds) v y ≡ on_hold ds v y
  pub known : parties (d ∷ ds) y ≡ parties ds y

tells_silent : (d : Deed) (ds : List Deed) (y : ℕ) (o : Option Face) → Silent d ds y → Tells ds y o → Tells (d ∷ ds) y o
tells_silent d ds y None s t = (s.lives ∙ t.0, λ v. s.hangs v ∙ t.1 v)
tells_silent d ds y (Some f) s t = (s.lives ∙ t.0, λ v. s.hangs v ∙ t.1 v, s.known ∙ t.2, t.3)

module _ (ds : List Deed) (c y : ℕ) (n : c ≡ y → ⊥) where
  silent_connected : (a b : ℕ) → Silent (connected c a b) ds y
  unfolding live on_hold parties
  silent_connected a b = record { lives = grind (arith, nat_tests); hangs = λ v. refl; known = grind (arith, nat_tests) }

  silent_aside : (v : ℕ) → Silent (hold_granted v c) ds y
  unfolding live on_hold parties
  silent_aside v = record { lives = refl; hangs = λ w. grind (arith, nat_tests); known = refl }

  silent_back : (v : ℕ) → Silent (retrieval_granted v c) ds y
  unfolding live on_hold parties
  silent_back v = record { lives = refl; hangs = λ w. grind (arith, nat_tests); known = refl }

  silent_ended : (k : HeldLegs) → Silent (cleared_by_network c k) ds y
  unfolding live on_hold parties
  silent_ended k = record { lives = grind (arith, nat_tests); hangs = λ w. grind (arith, nat_tests); known = refl }

  silent_ended_by : (v : ℕ) (k : HeldLegs) → Silent (cleared_by_party v c k) ds y
  unfolding live on_hold parties
  silent_ended_by v k = record { lives = grind (arith, nat_tests); hangs = λ w. grind (arith, nat_tests); known = refl }

-- a face with the leg of v put on hold or back
abbrev pub leg_if : Bool → Bool → Face → Face
leg_if p m f = record { first = f.first; second = f.second; held_first = cond p m f.held_first; held_second = cond p f.held_second m }

abbrev pub leg_put : ℕ → Bool → Face → Face
leg_put v m f = leg_if (eqb f.first v) m f

abbrev pub new_face : ℕ → ℕ → Face
new_face a b = record { first = a; second = b; held_first = false; held_second = false }

-- tests of one number

pub eqb_same : (c : ℕ) → eqb c c ≡ true
eqb_same c = grind (arith, nat_tests)

pub eqb_apart : (c x : ℕ) → (c ≡ x → ⊥) → eqb c x ≡ false
eqb_apart c x d = grind (arith, nat_tests)

eqb_eq : (c x : ℕ) → eqb c x ≡ true → c ≡ x
eqb_eq c x d = grind (arith, nat_tests)

-- v stands in the call: he is one of the two
abbrev pub There : Spot → Type 0
There Absent = ⊥
There Talking = Unit {0}
There OnHold = Unit {0}

new_quiet : (a b v : ℕ) → is_on_hold (spot_in v (Some (new_face a b))) ≡ false
new_quiet a b v = go (eqb a v) (eqb b v)
  where
    go : (p q : Bool) → is_on_hold (spot_if p q (new_face a b)) ≡ false
    go true q = refl
    go false true = refl
    go false false = refl

pub put_mine : (f : Face) (v : ℕ) (m : Bool) → There (spot_in v (Some f)) → spot_in v (Some (leg_put v m f)) ≡ spot_of m
put_mine f v m t = go (eqb f.first v) (eqb f.second v) refl refl t
  where
    go : (p q : Bool) → eqb f.first v ≡ p → eqb f.second v ≡ q → There (spot_if p q f) → spot_in v (Some (leg_if p m f)) ≡ spot_of m
    go true q i j t = rw i
    go false true i j t = rw (i, j)
    go false false i j t = absurd t

pub put_other : (f : Face) (v w : ℕ) (m : Bool) → (v ≡ w → ⊥) → There (spot_in v (Some f)) → spot_in w (Some (leg_put v m f)) ≡ spot_in w (Some f)
put_other f v w m d t = go (eqb f.first v) (eqb f.second v) refl refl t
  where
    not_w : (x : ℕ) → eqb x v ≡ true → eqb x w ≡ false
    not_w x i = let e = eqb_eq x v i in eqb_apart x w (λ z. d (sym e ∙ z))

    go : (p q : Bool) → eqb f.first v ≡ p → eqb f.second v ≡ q → There (spot_if p q f) → spot_in w (Some (leg_if p m f)) ≡ spot_in w (Some f)
    go true q i j t = rw (not_w f.first i) (last (eqb f.second w))
      where
        last : (z : Bool) → spot_if false z (leg_if true m f) ≡ spot_if false z f
        last true = refl
        last false = refl
    go false true i j t = rw (not_w f.second j) (last (eqb f.first w))
      where
        last : (z : Bool) → spot_if z false (leg_if false m f) ≡ spot_if z false f
        last true = refl
        last false = refl
    go false false i j t = absurd t

-- the busy legs of a face
busy_put : (f : Face) (v : ℕ) (h m : Bool) → spot_in v (Some f) ≡ spot_of h → busy (Some (leg_put v m f)) + one (not h) ≡ busy (Some f) + one (not m)
busy_put f v h m e = go (eqb f.first v) (eqb f.second v) e
  where
    same : (x y : Bool) → spot_of x ≡ spot_of y → x ≡ y
    same true true z = refl
    same true false z = let z : ◌≡◌ {A = ℕ} 0 1 = cc in absurd (omega arith)
    same false true z = let z : ◌≡◌ {A = ℕ} 0 1 = cc in absurd (omega arith)
    same false false z = refl

    gone : Absent ≡ spot_of h → ⊥
    gone z = last h z
      where
        last : (x : Bool) → Absent ≡ spot_of x → ⊥
        last true z = let z : ◌≡◌ {A = ℕ} 0 1 = cc in omega arith
        last false z = let z : ◌≡◌ {A = ℕ} 0 1 = cc in omega arith

    go : (p q : Bool) → spot_if p q f ≡ spot_of h → busy (Some (leg_if p m f)) + one (not h) ≡ busy (Some f) + one (not m)
    go true q z = let i = same f.held_first h z in rw i (omega arith)
    go false true z = let i = same f.held_second h z in rw i (omega arith)
    go false false z = absurd (gone z)

-- the told legs have that of v exactly if it is on hold
leg_told : (f : Face) (v : ℕ) → (f.first ≡ f.second → ⊥) → leg_among (held_in (Some f)) v (Some (sides f)) ≡ is_on_hold (spot_in v (Some f))
leg_told f v d = go (eqb f.first v) (eqb f.second v) f.held_first f.held_second refl refl
  where
    go : (p q h k : Bool) → eqb f.first v ≡ p → eqb f.second v ≡ q
        → ((p && first_among (legs_of h k)) || (q && second_among (legs_of h k))) ≡ is_on_hold (spot_if p q (record { first = f.first; second = f.second; held_first = h; held_second = k }))
    go true true h k i j = absurd (d (eqb_eq f.first v i ∙ sym (eqb_eq f.second v j)))
    go true false true true i j = refl
    go true false true false i j = refl
    go true false false true i j = refl
    go true false false false i j = refl
    go false true true true i j = refl
    go false true true false i j = refl
    go false true false true i j = refl
    go false true false false i j = refl
    go false false h k i j = refl

no_leg : (v : ℕ) (o : Option Parties) → leg_among Neither v o ≡ false
no_leg v None = refl
no_leg v (Some q) = go (eqb q.first v) (eqb q.second v)
  where
    go : (a b : Bool) → ((a && false) || (b && false)) ≡ false
    go true true = refl
    go true false = refl
    go false true = refl
    go false false = refl

there_party : (f : Face) (v : ℕ) → There (spot_in v (Some f)) → party_of v (Some (sides f)) ≡ true
there_party f v t = go (eqb f.first v) (eqb f.second v) t
  where
    go : (p q : Bool) → There (spot_if p q f) → (p || q) ≡ true
    go true q t = refl
    go false true t = refl
    go false false t = absurd t

absent_party : (f : Face) (v : ℕ) → spot_in v (Some f) ≡ Absent → party_of v (Some (sides f)) ≡ false
absent_party f v e = go (eqb f.first v) (eqb f.second v) e
  where
    no : (h : Bool) → spot_of h ≡ Absent → ⊥
    no true z = let z : ◌≡◌ {A = ℕ} 0 1 = cc in omega arith
    no false z = let z : ◌≡◌ {A = ℕ} 0 1 = cc in omega arith

    go : (p q : Bool) → spot_if p q f ≡ Absent → (p || q) ≡ false
    go true q z = absurd (no f.held_first z)
    go false true z = absurd (no f.held_second z)
    go false false z = refl

-- the faces as they were
pub ledger_same : {limit : ℕ → ℕ} {size : ℕ} {ds : List Deed} {φ : ℕ → Option Face} {last used : ℕ} (φ' : ℕ → Option Face) → ((y : ℕ) → φ' y ≡ φ y)
    → Ledger limit size ds φ last used → Ledger limit size ds φ' last used
ledger_same {limit} {size} {ds} {φ} {last} {used} φ' e L =
    record {
      says = λ y. subst (Tells ds y) (sym (e y)) (L.says y);
      beyond = λ y l. e y ∙ L.beyond y l;
      below = L.below;
      sum = L.sum ∙ sym (total_same (λ c. busy (φ c)) (λ c. busy (φ' c)) all_calls (λ x l. ap busy (e x)));
      fits = L.fits;
      holds = λ v. let i = counts v in let j = L.holds v in omega arith;
      limited = λ v. let i = counts v in let j = L.limited v in omega arith;
    }
  where
    counts : (v : ℕ) → hold_count φ' v ≡ hold_count φ v
    counts v = total_same (λ c. one (is_on_hold (spot_in v (φ c)))) (λ c. one (is_on_hold (spot_in v (φ' c)))) all_calls (λ x l. ap (λ z. one (is_on_hold (spot_in v z))) (e x))

-- one face changes, that of c
module _ (limit : ℕ → ℕ) (size : ℕ) (ds : List Deed) (φ φ' : ℕ → Option Face) (last used c : ℕ) (L : Ledger limit size ds φ last used) (same : (y : ℕ) → (c ≡ y → ⊥) → φ' y ≡ φ y) where
  says_now : (d : Deed) → ((y : ℕ) → (c ≡ y → ⊥) → Silent d ds y) → Tells (d ∷ ds) c (φ' c) → (y : ℕ) → Tells (d ∷ ds) y (φ' y)
  says_now d s t y = go (eqb_tells c y)
    where
      go : ((eqb c y ≡ true) × (c ≡ y)) ⊎ ((eqb c y ≡ false) × (c ≡ y → ⊥)) → Tells (d ∷ ds) y (φ' y)
      go (inl e) = subst (λ z. Tells (d ∷ ds) z (φ' z)) e.1 t
      go (inr e) = subst (Tells (d ∷ ds) y) (sym (same y e.1)) (tells_silent d ds y (φ y) (s y e.1) (L.says y))

  sum_now : c < all_calls → total (λ y. busy (φ' y)) all_calls + busy (φ c) ≡ total (λ y. busy (φ y)) all_calls + busy (φ' c)
  sum_now l = total_at (λ y. busy (φ y)) (λ y. busy (φ' y)) all_calls c l (λ y d. ap busy (same y d))

  count_now : c < all_calls → (v : ℕ) → hold_count φ' v + one (is_on_hold (spot_in v (φ c))) ≡ hold_count φ v + one (is_on_hold (spot_in v (φ' c)))
  count_now l v = total_at (λ y. one (is_on_hold (spot_in v (φ y)))) (λ y. one (is_on_hold (spot_in v (φ' y)))) all_calls c l (λ y d. ap (λ z. one (is_on_hold (spot_in v z))) (same y d))

  -- a call with a face has an identifier up to the last
  pub in_range : (f : Face) → φ c ≡ Some f → c ≤ last
  in_range f e = go (leb_tells c last)
    where
      go : ((leb c last ≡ true) × (c ≤ last)) ⊎ ((leb c last ≡ false) × (last < c)) → c ≤ last
      go (inl i) = i.1
      go (inr i) = absurd (no_some (sym (L.beyond c i.1) ∙ e))

  beyond_now : (f : Face) → φ c ≡ Some f → (y : ℕ) → last < y → φ' y ≡ None
  beyond_now f e y l = let r = in_range f e in same y (λ z. omega arith) ∙ L.beyond y l

  pub ledger_connected : (a b : ℕ) → φ c ≡ None → φ' c ≡ Some (new_face a b) → last < c → c < all_calls → (a ≡ b → ⊥) → used + 2 ≤ size
      → Ledger limit size (connected c a b ∷ ds) φ' c (used + 2)
  unfolding live on_hold parties
  ledger_connected a b e e' l m d fit =
      record {
        says = says_now (connected c a b) (λ y n. silent_connected ds c y n a b) tell;
        beyond = λ y k. same y (λ z. omega arith) ∙ L.beyond y (omega arith);
        below = m;
        sum =
            let i = sum_now m in let j = L.sum in
            let p : busy (φ c) ≡ 0 = rw e in
            let q : busy (φ' c) ≡ 2 = rw e' in omega arith;
        fits = fit;
        holds = λ v. let i = flat v in let j = L.holds v in omega arith;
        limited = λ v. let i = flat v in let j = L.limited v in omega arith;
      }
    where
      before : Tells ds c None
      before = subst (Tells ds c) e (L.says c)

      tell : Tells (connected c a b ∷ ds) c (φ' c)
      tell = subst (Tells (connected c a b ∷ ds) c) (sym e') (rw (eqb_same c), λ v. before.1 v ∙ sym (new_quiet a b v), rw (eqb_same c), d)

      flat : (v : ℕ) → hold_count φ' v ≡ hold_count φ v
      flat v =
          let i = count_now m v in
          let p : one (is_on_hold (spot_in v (φ c))) ≡ 0 = rw e in
          let q : one (is_on_hold (spot_in v (φ' c))) ≡ 0 = rw (e', new_quiet a b v) in omega arith

  -- a leg put on hold
  pub ledger_aside : (v : ℕ) (f : Face) → φ c ≡ Some f → spot_in v (Some f) ≡ Talking → φ' c ≡ Some (leg_put v true f) → hold_count φ v < limit v
      → Ledger limit size (hold_granted v c ∷ ds) φ' last (used - 1)
  unfolding live on_hold parties
  ledger_aside v f e t e' room =
      record {
        says = says_now (hold_granted v c) (λ y n. silent_aside ds c y n v) tell;
        beyond = beyond_now f e;
        below = L.below;
        sum = let i = sums in omega arith;
        fits = let i = L.fits in omega arith;
        holds = λ w. let i = L.holds w in let k = counted w in omega arith;
        limited = λ w. limits w (eqb_tells v w);
      }
    where
      small : c < all_calls
      small = let i = in_range f e in let j = L.below in omega arith

      there : There (spot_in v (Some f))
      there = subst There (sym t) tt

      before : Tells ds c (Some f)
      before = subst (Tells ds c) e (L.says c)

      mine : (w : ℕ) → ((eqb v w ≡ true) × (v ≡ w)) ⊎ ((eqb v w ≡ false) × (v ≡ w → ⊥)) → is_on_hold (spot_in w (Some (leg_put v true f))) ≡ cond (eqb v w) true (is_on_hold (spot_in w (Some f)))
      mine w (inl i) = let j = put_mine f v true there in let k = i.1 in rw i.0 (rw (← k) (ap is_on_hold j))
      mine w (inr i) = rw i.0 (ap is_on_hold (put_other f v w true i.1 there))

      tell : Tells (hold_granted v c ∷ ds) c (φ' c)
      tell = subst (Tells (hold_granted v c ∷ ds) c) (sym e')
          (before.0, λ w. rw (eqb_same c, before.1 w) (sym (mine w (eqb_tells v w))), before.2, before.3)

      sums : (total (λ y. busy (φ' y)) all_calls + 1 ≡ used)
      sums =
          let i = sum_now small in let j = L.sum in
          let p : busy (φ c) ≡ busy (Some f) = ap busy e in
          let q : busy (φ' c) ≡ busy (Some (leg_put v true f)) = ap busy e' in
          let r = busy_put f v false true t in omega arith

      counted : (w : ℕ) → hold_count φ' w ≡ one (eqb v w) + hold_count φ w
      counted w = go (eqb_tells v w)
        where
          go : ((eqb v w ≡ true) × (v ≡ w)) ⊎ ((eqb v w ≡ false) × (v ≡ w → ⊥)) → hold_count φ' w ≡ one (eqb v w) + hold_count φ w
          go (inl i) =
              let n = count_now small w in
              let h : spot_in w (Some f) ≡ Talking = subst (λ z. spot_in z (Some f) ≡ Talking) i.1 t in
              let p : one (is_on_hold (spot_in w (φ c))) ≡ 0 = rw (e, h) in
              let q : one (is_on_hold (spot_in w (φ' c))) ≡ 1 = rw (e', mine w (inl i), i.0) in
              let z : one (eqb v w) ≡ 1 = rw i.0 in omega arith
          go (inr i) =
              let n = count_now small w in
              let p : one (is_on_hold (spot_in w (φ c))) ≡ one (is_on_hold (spot_in w (Some f))) = rw e in
              let q : one (is_on_hold (spot_in w (φ' c))) ≡ one (is_on_hold (spot_in w (Some f))) = rw (e', mine w (inr i), i.0) in
              let z : one (eqb v w) ≡ 0 = rw i.0 in omega arith

      limits : (w : ℕ) → ((eqb v w ≡ true) × (v ≡ w)) ⊎ ((eqb v w ≡ false) × (v ≡ w → ⊥)) → hold_count φ' w ≤ limit w
      limits w (inl i) =
          let k = counted w in let z : one (eqb v w) ≡ 1 = rw i.0 in
          let j : hold_count φ w < limit w = subst (λ z. hold_count φ z < limit z) i.1 room in omega arith
      limits w (inr i) = let k = counted w in let z : one (eqb v w) ≡ 0 = rw i.0 in let j = L.limited w in omega arith

  -- a leg taken back
  pub ledger_back : (v : ℕ) (f : Face) → φ c ≡ Some f → spot_in v (Some f) ≡ OnHold → φ' c ≡ Some (leg_put v false f) → used < size
      → Ledger limit size (retrieval_granted v c ∷ ds) φ' last (used + 1)
  unfolding live on_hold parties
  ledger_back v f e t e' room =
      record {
        says = says_now (retrieval_granted v c) (λ y n. silent_back ds c y n v) tell;
        beyond = beyond_now f e;
        below = L.below;
        sum = let i = sums in omega arith;
        fits = omega arith;
        holds = λ w. let i = L.holds w in let k = counted w in omega arith;
        limited = λ w. let i = L.limited w in let k = counted w in omega arith;
      }
    where
      small : c < all_calls
      small = let i = in_range f e in let j = L.below in omega arith

      there : There (spot_in v (Some f))
      there = subst There (sym t) tt

      before : Tells ds c (Some f)
      before = subst (Tells ds c) e (L.says c)

      mine : (w : ℕ) → ((eqb v w ≡ true) × (v ≡ w)) ⊎ ((eqb v w ≡ false) × (v ≡ w → ⊥)) → is_on_hold (spot_in w (Some (leg_put v false f))) ≡ cond (eqb v w) false (is_on_hold (spot_in w (Some f)))
      mine w (inl i) = let j = put_mine f v false there in let k = i.1 in rw i.0 (rw (← k) (ap is_on_hold j))
      mine w (inr i) = rw i.0 (ap is_on_hold (put_other f v w false i.1 there))

      tell : Tells (retrieval_granted v c ∷ ds) c (φ' c)
      tell = subst (Tells (retrieval_granted v c ∷ ds) c) (sym e')
          (before.0, λ w. rw (eqb_same c, before.1 w) (sym (mine w (eqb_tells v w))), before.2, before.3)

      sums : (total (λ y. busy (φ' y)) all_calls ≡ used + 1)
      sums =
          let i = sum_now small in let j = L.sum in
          let p : busy (φ c) ≡ busy (Some f) = ap busy e in
          let q : busy (φ' c) ≡ busy (Some (leg_put v false f)) = ap busy e' in
          let r = busy_put f v true false t in omega arith

      counted : (w : ℕ) → hold_count φ' w + one (eqb v w) ≡ hold_count φ w
      counted w = go (eqb_tells v w)
        where
          go : ((eqb v w ≡ true) × (v ≡ w)) ⊎ ((eqb v w ≡ false) × (v ≡ w → ⊥)) → hold_count φ' w + one (eqb v w) ≡ hold_count φ w
          go (inl i) =
              let n = count_now small w in
              let h : spot_in w (Some f) ≡ OnHold = subst (λ z. spot_in z (Some f) ≡ OnHold) i.1 t in
              let p : one (is_on_hold (spot_in w (φ c))) ≡ 1 = rw (e, h) in
              let q : one (is_on_hold (spot_in w (φ' c))) ≡ 0 = rw (e', mine w (inl i), i.0) in
              let z : one (eqb v w) ≡ 1 = rw i.0 in omega arith
          go (inr i) =
              let n = count_now small w in
              let p : one (is_on_hold (spot_in w (φ c))) ≡ one (is_on_hold (spot_in w (Some f))) = rw e in
              let q : one (is_on_hold (spot_in w (φ' c))) ≡ one (is_on_hold (spot_in w (Some f))) = rw (e', mine w (inr i), i.0) in
              let z : one (eqb v w) ≡ 0 = rw i.0 in omega arith

  -- a call cleared: the deed is of the network or of one of its parties
  ledger_over : (d : Deed) (f : Face) → φ c ≡ Some f → φ' c ≡ None → ((y : ℕ) → (c ≡ y → ⊥) → Silent d ds y) → (live (d ∷ ds) c ≡ false) → ((v : ℕ) → on_hold (d ∷ ds) v c ≡ false)
      → ((v : ℕ) → holds_granted (d ∷ ds) v ≡ holds_granted ds v) → ((v : ℕ) → retrievals_granted (d ∷ ds) v ≡ retrievals_granted ds v)
      → ((v : ℕ) → held_calls_cleared (d ∷ ds) v ≡ one (leg_among (held_in (Some f)) v (parties ds c)) + held_calls_cleared ds v)
      → Ledger limit size (d ∷ ds) φ' last (used - busy (φ c))
  ledger_over d f e e' s lv oh hg rg hc =
      record {
        says = says_now d s (subst (Tells (d ∷ ds) c) (sym e') (lv, oh));
        beyond = beyond_now f e;
        below = L.below;
        sum = let i = sum_now small in let j = L.sum in let q : busy (φ' c) ≡ 0 = rw e' in omega arith;
        fits = let i = L.fits in omega arith;
        holds = λ v. let i = L.holds v in let k = counted v in let p = hg v in let q = rg v in let r = hc v in let t = told v in omega arith;
        limited = λ v. let i = L.limited v in let k = counted v in omega arith;
      }
    where
      small : c < all_calls
      small = let i = in_range f e in let j = L.below in omega arith

      before : Tells ds c (Some f)
      before = subst (Tells ds c) e (L.says c)

      told : (v : ℕ) → one (leg_among (held_in (Some f)) v (parties ds c)) ≡ one (is_on_hold (spot_in v (Some f)))
      told v = rw before.2 (ap one (leg_told f v before.3))

      counted : (v : ℕ) → hold_count φ' v + one (is_on_hold (spot_in v (Some f))) ≡ hold_count φ v
      counted v =
          let n = count_now small v in
          let p : one (is_on_hold (spot_in v (φ c))) ≡ one (is_on_hold (spot_in v (Some f))) = rw e in
          let q : one (is_on_hold (spot_in v (φ' c))) ≡ 0 = rw e' in omega arith

  pub ledger_ended : (f : Face) → φ c ≡ Some f → φ' c ≡ None → Ledger limit size (cleared_by_network c (held_in (Some f)) ∷ ds) φ' last (used - busy (φ c))
  unfolding live on_hold
  ledger_ended f e e' =
      ledger_over (cleared_by_network c (held_in (Some f))) f e e' (λ y n. silent_ended ds c y n (held_in (Some f))) (rw (eqb_same c)) (λ v. rw (eqb_same c)) (λ v. refl) (λ v. refl) (λ v. refl)

  pub ledger_ended_by : (v : ℕ) (f : Face) → φ c ≡ Some f → There (spot_in v (Some f)) → φ' c ≡ None → Ledger limit size (cleared_by_party v c (held_in (Some f)) ∷ ds) φ' last (used - busy (φ c))
  unfolding live on_hold
  ledger_ended_by v f e t e' =
      ledger_over (cleared_by_party v c (held_in (Some f))) f e e' (λ y n. silent_ended_by ds c y n v (held_in (Some f))) (rw (eqb_same c, is_party)) (λ w. rw (eqb_same c, is_party)) (λ w. refl) (λ w. refl) (λ w. refl)
    where
      is_party : party ds v c ≡ true
      is_party = let before : Tells ds c (Some f) = subst (Tells ds c) e (L.says c) in rw before.2 (there_party f v t)

-- a clear of a call that is not there
pub ledger_missed : {limit : ℕ → ℕ} {size : ℕ} {ds : List Deed} {φ : ℕ → Option Face} {last used : ℕ} (v c : ℕ) → spot_in v (φ c) ≡ Absent
    → Ledger limit size ds φ last used → Ledger limit size (cleared_by_party v c Neither ∷ ds) φ last used
unfolding live on_hold parties
ledger_missed {limit} {size} {ds} {φ} {last} {used} v c e L =
    record {
      says = says_now limit size ds φ φ last used c L (λ y d. refl) (cleared_by_party v c Neither) (λ y n. silent_ended_by ds c y n v Neither) (tell (φ c) e (L.says c));
      beyond = L.beyond;
      below = L.below;
      sum = L.sum;
      fits = L.fits;
      holds = λ w. let i = L.holds w in let z : one (leg_among Neither w (parties ds c)) ≡ 0 = rw (no_leg w (parties ds c)) in omega arith;
      limited = L.limited;
    }
  where
    either : (b m : Bool) → m ≡ false → cond b false m ≡ false
    either true m h = refl
    either false m h = h

    tell : (o : Option Face) → spot_in v o ≡ Absent → Tells ds c o → Tells (cleared_by_party v c Neither ∷ ds) c o
    tell None a t = (either _ (live ds c) t.0, λ w. either _ (on_hold ds w c) (t.1 w))
    tell (Some f) a t =
        let p : party ds v c ≡ false = rw t.2 (absent_party f v a) in
        (rw (eqb_same c, p) t.0, λ w. rw (eqb_same c, p) (t.1 w), t.2, t.3)
