-- What each change of a record leaves of its law, its channels, and who has it on hold. Assumes nothing.
use Rattle.std.proofs.Common.{◌≡◌, ℕ, ◌+◌, ◌≤◌, Bool, true, false, List, Some, None, Option, refl, ap, subst, arith}
use Rattle.std.proofs.lemmas.Bool.{eqb-true}
use Rattle.std.proofs.lemmas.Bool.Decides.{nat_tests}
use Rattle.frames.specs.declared.content.CallId.{CallId}
use Rattle.register.specs.User.{same}
use Rattle.register.specs.declared.user.User.{User}
use Rattle.records.specs.Changes.{at_side, cleared_by, connected_call, for_user, hushed, put_on_hold, retrieved}
use Rattle.records.specs.Legs.{channels, is_on_hold, leg_on, one, side_if, side_of, standing, standing_of, stands}
use Rattle.records.specs.declared.legs.Record.{Record}
use Rattle.records.specs.declared.legs.Side.{Side}
use Rattle.records.specs.declared.legs.Side.TheVariants.{First, Second}
use Rattle.records.specs.declared.legs.Standing.TheVariants.{Talking, OnHold}
use Rattle.switch.specs.Clearing.{takes_part}
use Rattle.switch.specs.declared.session.Session.{Session}
use Rattle.switch.proofs.SoundRecords.{Lawful}
use Rattle.switch.proofs.SoundSessions.{seated}

-- his leg has a channel as he stands in the call
pub carries : (u : ℕ) (r : Record) (s : Side) (b : Bool) → side_of u r ≡ Some s → standing u r ≡ standing_of b → (leg_on s r).bearer.channel ≡ b
carries u r s b e t = grind arith

-- a user is a party of a live call, and his leg has a channel or none
pub record Party (u : ℕ) (r : Record) (channel : Bool) : Type 0 where
  pub side : Side
  pub is : side_of u r ≡ Some side
  pub live : r.live ≡ true
  pub carries : (leg_on side r).bearer.channel ≡ channel

pub talks : (u : ℕ) (r : Record) → standing u r ≡ Talking → Party u r true
talks u r e = go r.live (side_of u r) refl refl e
  where
    has : (b : Bool) → standing_of b ≡ Talking → b ≡ true
    has true e = refl
    has false e = let z : ◌≡◌ {A = ℕ} 0 1 = cc in absurd (omega arith)

    go : (l : Bool) (o : Option Side) → r.live ≡ l → side_of u r ≡ o → stands l o r ≡ Talking → Party u r true
    go false o p q e = let z : ◌≡◌ {A = ℕ} 0 1 = cc in absurd (omega arith)
    go true None p q e = let z : ◌≡◌ {A = ℕ} 0 1 = cc in absurd (omega arith)
    go true (Some s) p q e = record { side = s; is = q; live = p; carries = has (leg_on s r).bearer.channel e }

pub waits : (u : ℕ) (r : Record) → standing u r ≡ OnHold → Party u r false
waits u r e = go r.live (side_of u r) refl refl e
  where
    has : (b : Bool) → standing_of b ≡ OnHold → b ≡ false
    has false e = refl
    has true e = let z : ◌≡◌ {A = ℕ} 0 1 = cc in absurd (omega arith)

    go : (l : Bool) (o : Option Side) → r.live ≡ l → side_of u r ≡ o → stands l o r ≡ OnHold → Party u r false
    go false o p q e = let z : ◌≡◌ {A = ℕ} 0 1 = cc in absurd (omega arith)
    go true None p q e = let z : ◌≡◌ {A = ℕ} 0 1 = cc in absurd (omega arith)
    go true (Some s) p q e = record { side = s; is = q; live = p; carries = has (leg_on s r).bearer.channel e }

-- the leg on his side is his
pub owner : (u : ℕ) (r : Record) (s : Side) → side_of u r ≡ Some s → (leg_on s r).user.0 ≡ u
owner u r s e = go (same r.first.user.0 u) (same r.second.user.0 u) refl refl e
  where
    go : (p q : Bool) → same r.first.user.0 u ≡ p → same r.second.user.0 u ≡ q → side_if p q ≡ Some s → (leg_on s r).user.0 ≡ u
    go true q f g e = let t : First ≡ s = cc in subst (λ y. (leg_on y r).user.0 ≡ u) t (eqb-true _ _ f)
    go false true f g e = let t : Second ≡ s = cc in subst (λ y. (leg_on y r).user.0 ≡ u) t (eqb-true _ _ g)
    go false false f g e = let z : ◌≡◌ {A = ℕ} 0 1 = cc in absurd (omega arith)

pub for_party : (f : Side → Record → Record) (u : ℕ) (r : Record) (s : Side) → side_of u r ≡ Some s → for_user f u r ≡ f s r
for_party f u r s e = ap (λ o. at_side f o r) e

-- identifiers stay
pub id_for : (f : Side → Record → Record) → ((s : Side) (r : Record) → (f s r).id ≡ r.id) → (u : ℕ) (r : Record) → (for_user f u r).id ≡ r.id
id_for f same u r = grind (arith, same)

pub id_held : (s : Side) (r : Record) → (put_on_hold s r).id ≡ r.id
id_held s r = grind arith

pub id_retrieved : (s : Side) (r : Record) → (retrieved s r).id ≡ r.id
id_retrieved s r = grind arith

pub id_cleared : (s : Side) (r : Record) → (cleared_by s r).id ≡ r.id
id_cleared s r = grind arith

pub id_hushed : (s : Side) (r : Record) → (hushed s r).id ≡ r.id
id_hushed s r = grind arith

-- put on hold
pub hold_lawful : (ss : List Session) (u : ℕ) (r : Record) → seated u ss ≡ true → Lawful ss r → Lawful ss (for_user put_on_hold u r)
hold_lawful ss u r seat h = grind (arith, nat_tests)

pub hold_channels : (u : ℕ) (r : Record) → standing u r ≡ Talking → channels (for_user put_on_hold u r) + 1 ≡ channels r
hold_channels u r t = grind arith

-- the same of a leg, whoever's it is
pub hold_lawful_by : (ss : List Session) (r : Record) (s : Side) → seated (leg_on s r).user.0 ss ≡ true → Lawful ss r → Lawful ss (put_on_hold s r)
hold_lawful_by ss r s seat h = grind arith

pub hold_channels_by : (r : Record) (s : Side) → (leg_on s r).bearer.channel ≡ true → channels (put_on_hold s r) + 1 ≡ channels r
hold_channels_by r s t = grind arith

-- how many calls a user has on hold in a record
abbrev pub held_in : ℕ → Record → ℕ
held_in v r = one (is_on_hold (standing v r))

pub at_most_one : (v : ℕ) (r : Record) → held_in v r ≤ 1
at_most_one v r = grind arith

pub hold_others : (u v : ℕ) (r : Record) → same u v ≡ false → held_in v (for_user put_on_hold u r) ≡ held_in v r
hold_others u v r ne = grind (arith, nat_tests)

pub hold_others_by : (v : ℕ) (r : Record) (s : Side) → same (leg_on s r).user.0 v ≡ false → held_in v (put_on_hold s r) ≡ held_in v r
hold_others_by v r s ne = grind (arith, nat_tests)

-- retrieved
pub retrieve_lawful : (ss : List Session) (u : ℕ) (r : Record) → standing u r ≡ OnHold → Lawful ss r → Lawful ss (for_user retrieved u r)
retrieve_lawful ss u r t h = grind arith

pub retrieve_channels : (u : ℕ) (r : Record) → standing u r ≡ OnHold → channels (for_user retrieved u r) ≡ channels r + 1
retrieve_channels u r t = grind arith

pub retrieve_held : (u v : ℕ) (r : Record) → held_in v (for_user retrieved u r) ≤ held_in v r
retrieve_held u v r = grind arith

pub retrieve_lawful_by : (ss : List Session) (r : Record) (s : Side) → r.live ≡ true → Lawful ss r → Lawful ss (retrieved s r)
retrieve_lawful_by ss r s live h = grind arith

pub retrieve_channels_by : (r : Record) (s : Side) → (leg_on s r).bearer.channel ≡ false → channels (retrieved s r) ≡ channels r + 1
retrieve_channels_by r s t = grind arith

pub retrieve_held_by : (v : ℕ) (r : Record) (s : Side) → held_in v (retrieved s r) ≤ held_in v r
retrieve_held_by v r s = grind arith

-- cleared by a party
pub clear_lawful : (ss : List Session) (u : ℕ) (r : Record) → takes_part (standing u r) ≡ true → Lawful ss (for_user cleared_by u r)
clear_lawful ss u r t = grind arith

pub clear_channels : (u : ℕ) (r : Record) → takes_part (standing u r) ≡ true → channels (for_user cleared_by u r) ≡ 0
clear_channels u r t = grind arith

pub clear_held : (u v : ℕ) (r : Record) → held_in v (for_user cleared_by u r) ≤ held_in v r
clear_held u v r = grind arith

pub clear_lawful_by : (ss : List Session) (r : Record) (s : Side) → Lawful ss (cleared_by s r)
clear_lawful_by ss r s = grind arith

pub clear_channels_by : (r : Record) (s : Side) → channels (cleared_by s r) ≡ 0
clear_channels_by r s = grind arith

pub clear_held_by : (v : ℕ) (r : Record) (s : Side) → held_in v (cleared_by s r) ≡ 0
clear_held_by v r s = grind arith

-- told, whether he is a party or not
pub hush_lawful : (ss : List Session) (u : ℕ) (r : Record) → Lawful ss r → Lawful ss (for_user hushed u r)
hush_lawful ss u r h = grind arith

pub hush_channels : (u : ℕ) (r : Record) → channels (for_user hushed u r) ≡ channels r
hush_channels u r = grind arith

pub hush_held : (u v : ℕ) (r : Record) → held_in v (for_user hushed u r) ≡ held_in v r
hush_held u v r = grind arith

-- just connected
pub connect_held : (v : ℕ) (c : CallId) (a b : User) → held_in v (connected_call c a b) ≡ 0
connect_held v c a b = grind arith
