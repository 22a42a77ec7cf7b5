-- What a record shows of a live call: its parties, and which of them have their leg on hold. Assumes nothing.
use Rattle.std.proofs.Common.{◌≡◌, ℕ, ◌+◌, Bool, true, false, not, Some, None, Option, sym, refl, ◌∙◌, arith}
use Rattle.records.specs.Legs.{one, legs_of, held_legs, is_live, standing, standing_in}
use Rattle.records.specs.declared.legs.HeldLegs.{HeldLegs}
use Rattle.records.specs.declared.legs.HeldLegs.TheVariants.{Neither}
use Rattle.records.specs.declared.legs.Record.{Record}
use Rattle.records.specs.declared.legs.Standing.{Standing as Spot}
use Rattle.records.specs.declared.legs.Standing.TheVariants.{Absent, Talking, OnHold}
use Rattle.register.specs.User.{same}
use Rattle.switch.specs.Clearing.{channels_in, legs_in}

pub record Face : Type 0 where
  pub first : ℕ
  pub second : ℕ
  pub held_first : Bool
  pub held_second : Bool

abbrev pub face_if : Bool → Record → Option Face
face_if true r = Some (record { first = r.first.user.0; second = r.second.user.0; held_first = not r.first.bearer.channel; held_second = not r.second.bearer.channel })
face_if false r = None

abbrev pub face : Option Record → Option Face
face None = None
face (Some r) = face_if r.live r

abbrev pub is_some : Option Face → Bool
is_some None = false
is_some (Some f) = true

-- where a user stands in a call with this face
abbrev pub spot_of : Bool → Spot
spot_of true = OnHold
spot_of false = Talking

abbrev pub spot_if : Bool → Bool → Face → Spot
spot_if true q f = spot_of f.held_first
spot_if false true f = spot_of f.held_second
spot_if false false f = Absent

abbrev pub spot_in : ℕ → Option Face → Spot
spot_in u None = Absent
spot_in u (Some f) = spot_if (same f.first u) (same f.second u) f

-- the legs that have a channel, and those on hold
abbrev pub busy : Option Face → ℕ
busy None = 0
busy (Some f) = one (not f.held_first) + one (not f.held_second)

abbrev pub held_in : Option Face → HeldLegs
held_in None = Neither
held_in (Some f) = legs_of f.held_first f.held_second

-- the same by the record

pub spot_is : (u : ℕ) (o : Option Record) → standing_in u o ≡ spot_in u (face o)
spot_is u None = refl
spot_is u (Some r) = go r.live (same r.first.user.0 u) (same r.second.user.0 u) r.first.bearer.channel r.second.bearer.channel refl refl refl refl refl
  where
    go : (l p q a b : Bool) → r.live ≡ l → same r.first.user.0 u ≡ p → same r.second.user.0 u ≡ q → r.first.bearer.channel ≡ a → r.second.bearer.channel ≡ b → standing u r ≡ spot_in u (face_if r.live r)
    go false p q a b i j k m n = rw i
    go true true q true b i j k m n = rw (i, j, m)
    go true true q false b i j k m n = rw (i, j, m)
    go true false true a true i j k m n = rw (i, j, k, n)
    go true false true a false i j k m n = rw (i, j, k, n)
    go true false false a b i j k m n = rw (i, j, k)

pub live_is : (o : Option Record) → is_live o ≡ is_some (face o)
live_is None = refl
live_is (Some r) = go r.live
  where
    go : (l : Bool) → l ≡ is_some (face_if l r)
    go true = refl
    go false = refl

not_not : (b : Bool) → not (not b) ≡ b
not_not true = refl
not_not false = refl

pub no_some : {f : Face} → ◌≡◌ {A = Option Face} None (Some f) → ⊥
no_some {f} e = let z : ◌≡◌ {A = ℕ} 0 1 = cc in omega arith

-- the channels of a live call's record
pub busy_is : (o : Option Record) (f : Face) → face o ≡ Some f → channels_in o ≡ busy (face o)
busy_is None f e = refl
busy_is (Some r) f e = go r.live refl
  where
    go : (l : Bool) → r.live ≡ l → channels_in (Some r) ≡ busy (face_if r.live r)
    go true i = rw (i, not_not r.first.bearer.channel, not_not r.second.bearer.channel)
    go false i = let z : face_if r.live r ≡ None = rw i in absurd (no_some (sym z ∙ e))

pub legs_is : (o : Option Record) → legs_in o ≡ held_in (face o)
legs_is None = refl
legs_is (Some r) = go r.live refl
  where
    go : (l : Bool) → r.live ≡ l → held_legs r ≡ held_in (face_if r.live r)
    go true i = rw i
    go false i = rw i
