-- What a change, an added and a removed record leave of the laws of records. Assumes nothing.
use Rattle.std.proofs.Common.{◌≡◌, ℕ, suc, ◌≤◌, Bool, true, false, cond, eqb, List, [], ◌∷◌, ◌++◌, length, Some, None, refl, ap, ◌∙◌, subst, arith}
use Rattle.std.proofs.lemmas.Bool.Decides.{nat_tests}
use Rattle.std.proofs.lemmas.Bool.{and_parts, and_from, eqb-true}
use Rattle.records.proofs.Tables.{rise_rest, change_above}
use Rattle.records.specs.Changes.{find, change, without}
use Rattle.records.specs.Legs.{channels}
use Rattle.records.specs.Questions.{rising_from, channels_of}
use Rattle.records.specs.declared.legs.Leg.{Leg}
use Rattle.records.specs.declared.legs.Record.{Record}
use Rattle.switch.specs.Tables.{leg_seated, lawful_if, lawful, legs_not_on_hold}
use Rattle.switch.specs.declared.session.Session.{Session}
use Rattle.switch.proofs.SoundSessions.{seated}

abbrev pub Lawful : List Session → Record → Type 0
Lawful ss r = lawful_if r.live ss r ≡ true

-- more sessions
leg_kept : (ss ts : List Session) → ((v : ℕ) → seated v ss ≡ true → seated v ts ≡ true) → (l : Leg) → leg_seated ss l ≡ true → leg_seated ts l ≡ true
leg_kept ss ts more l h = let k = more l.user.0 in grind (arith, k)

one_kept : (ss ts : List Session) → ((v : ℕ) → seated v ss ≡ true → seated v ts ≡ true) → (r : Record) → Lawful ss r → Lawful ts r
one_kept ss ts more r h = let p = leg_kept ss ts more r.first in let q = leg_kept ss ts more r.second in grind (arith, p, q)

pub lawful_seats : (ss ts : List Session) → ((v : ℕ) → seated v ss ≡ true → seated v ts ≡ true) → (rs : List Record) → lawful ss rs ≡ true → lawful ts rs ≡ true
unfolding lawful
lawful_seats ss ts more [] h = refl
lawful_seats ss ts more (r ∷ rs) h = let k = one_kept ss ts more r in let ih = lawful_seats ss ts more rs in grind (arith, k, ih)

-- a record found, changed, removed and added
pub lawful_found : (ss : List Session) (c : ℕ) (rs : List Record) (r : Record) → find c rs ≡ Some r → lawful ss rs ≡ true → Lawful ss r
unfolding lawful find
lawful_found ss c [] r e h = grind arith
lawful_found ss c (x ∷ rs) r e h = let ih = lawful_found ss c rs r in grind (arith, nat_tests, ih)

pub lawful_change : (ss : List Session) (c : ℕ) (f : Record → Record) (n last : ℕ) (rs : List Record) (r : Record) → rising_from n last rs ≡ true → find c rs ≡ Some r → Lawful ss (f r) → lawful ss rs ≡ true → lawful ss (change c f rs) ≡ true
unfolding lawful find change
lawful_change ss c f n last [] r up e w h = refl
lawful_change ss c f n last (x ∷ rs) r up e w h = let p = and_parts (lawful_if x.live ss x) (lawful ss rs) h in go (eqb x.id.0 c) refl e p.0 p.1 (λ k. lawful_change ss c f x.id.0 last rs r (rise_rest n last x rs up) k w p.1)
  where
    go : (b : Bool) → eqb x.id.0 c ≡ b → cond b (Some x) (find c rs) ≡ Some r → Lawful ss x → lawful ss rs ≡ true → (find c rs ≡ Some r → lawful ss (change c f rs) ≡ true) → lawful ss (cond b (f x) x ∷ change c f rs) ≡ true
    go true t e k all ih =
        let s : r ≡ x = cc in
        and_from _ _ (subst (λ y. Lawful ss (f y)) s w) (ap (lawful ss) (change_above c f x.id.0 last rs (omega (arith, eqb-true _ _ t)) (rise_rest n last x rs up)) ∙ all)
    go false t e k all ih = and_from _ _ k (ih e)

pub lawful_without : (ss : List Session) (c : ℕ) (rs : List Record) → lawful ss rs ≡ true → lawful ss (without c rs) ≡ true
unfolding lawful without
lawful_without ss c [] h = refl
lawful_without ss c (r ∷ rs) h = let ih = lawful_without ss c rs in grind (arith, nat_tests, ih)

pub lawful_added : (ss : List Session) (rs : List Record) (r : Record) → Lawful ss r → lawful ss rs ≡ true → lawful ss (rs ++ r ∷ []) ≡ true
unfolding lawful
lawful_added ss [] r w h = grind arith
lawful_added ss (x ∷ rs) r w h = let ih = lawful_added ss rs r w in grind (arith, ih)

-- a call that is not there
pub change_missing : (c : ℕ) (f : Record → Record) (rs : List Record) → find c rs ≡ None → change c f rs ≡ rs
unfolding find change
change_missing c f [] e = refl
change_missing c f (r ∷ rs) e = let ih = change_missing c f rs in grind (arith, nat_tests, ih)

pub length_without : (c : ℕ) (rs : List Record) → length (without c rs) ≤ length rs
unfolding without
length_without c [] = omega arith
length_without c (r ∷ rs) = go (eqb r.id.0 c) (length_without c rs)
  where
    go : (b : Bool) → length (without c rs) ≤ length rs → length (cond b (without c rs) (r ∷ without c rs)) ≤ suc (length rs)
    go true ih = omega arith
    go false ih = omega arith

-- a cleared call has no channels, so the channels are those of the legs not on hold in live calls
pub bare_channels : (ss : List Session) (r : Record) → r.live ≡ false → Lawful ss r → channels r ≡ 0
bare_channels ss r dead h = grind arith

pub channels_live : (ss : List Session) (rs : List Record) → lawful ss rs ≡ true → channels_of rs ≡ legs_not_on_hold rs
unfolding lawful channels_of legs_not_on_hold
channels_live ss [] h = refl
channels_live ss (r ∷ rs) h = let none = bare_channels ss r in let ih = channels_live ss rs in grind (arith, none, ih)
