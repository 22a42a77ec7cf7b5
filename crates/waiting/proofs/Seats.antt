-- Whoever is next in line has a session, and different users with sessions are no more than the sessions. Assumes nothing.
use Rattle.std.proofs.Common.{◌≡◌, ℕ, suc, ◌<◌, ◌≤◌, Bool, true, false, cond, ◌||◌, List, [], ◌∷◌, length, get_or, is_some, Some, None, Option, sym, refl, ap, ◌∙◌, subst, arith}
use Rattle.std.proofs.lemmas.Bool.{and_parts, eqb-true, ne_eqb, both_ways}
use Rattle.records.specs.Legs.{side_of}
use Rattle.records.specs.Questions.{behind, behind_if, behind_on, first_of, next_in_line}
use Rattle.records.specs.declared.legs.Record.{Record}
use Rattle.records.specs.declared.legs.Side.{Side}
use Rattle.records.specs.declared.legs.Side.TheVariants.{First, Second}
use Rattle.register.specs.User.{same}
use Rattle.register.specs.declared.user.User.{User}
use Rattle.switch.specs.Tables.{lawful, lawful_if, leg_seated, session}
use Rattle.switch.specs.declared.session.Session.{Session}

-- the next by one call has a session
by_leg : (ss : List Session) (live own other : Bool) (w v : User) → (live ≡ true → (other || is_some (session w.0 ss)) ≡ true) → behind_if live own other w ≡ Some v → is_some (session v.0 ss) ≡ true
by_leg ss false own other w v h e = let z : ◌≡◌ {A = ℕ} 0 1 = cc in absurd (omega arith)
by_leg ss true false other w v h e = let z : ◌≡◌ {A = ℕ} 0 1 = cc in absurd (omega arith)
by_leg ss true true true w v h e = let z : ◌≡◌ {A = ℕ} 0 1 = cc in absurd (omega arith)
by_leg ss true true false w v h e = let s : w ≡ v = cc in subst (λ (x : User). is_some (session x.0 ss) ≡ true) s (h refl)

legs : (ss : List Session) (r : Record) (b : Bool) → b ≡ true → lawful_if b ss r ≡ true → (leg_seated ss r.first ≡ true) × (leg_seated ss r.second ≡ true)
legs ss r true t h = and_parts (leg_seated ss r.first) (leg_seated ss r.second) h
legs ss r false t h = absurd (both_ways false refl t)

by_call : (ss : List Session) (r : Record) (s : Option Side) (v : User) → lawful_if r.live ss r ≡ true → behind_on s r ≡ Some v → is_some (session v.0 ss) ≡ true
by_call ss r None v h e = let z : ◌≡◌ {A = ℕ} 0 1 = cc in absurd (omega arith)
by_call ss r (Some First) v h e = by_leg ss r.live r.first.bearer.channel r.second.bearer.channel r.second.user v (λ t. (legs ss r r.live t h).1) e
by_call ss r (Some Second) v h e = by_leg ss r.live r.second.bearer.channel r.first.bearer.channel r.first.user v (λ t. (legs ss r r.live t h).0) e

-- the next in line has a session
pub next_seated : (ss : List Session) (rs : List Record) (u : ℕ) (v : User) → lawful ss rs ≡ true → next_in_line u rs ≡ Some v → is_some (session v.0 ss) ≡ true
unfolding lawful next_in_line
next_seated ss [] u v h e = let z : ◌≡◌ {A = ℕ} 0 1 = cc in absurd (omega arith)
next_seated ss (r ∷ rs) u v h e = go (behind u r) refl e (next_seated ss rs u v parts.1)
  where
    parts : (lawful_if r.live ss r ≡ true) × (lawful ss rs ≡ true)
    parts = and_parts (lawful_if r.live ss r) (lawful ss rs) h

    go : (o : Option User) → behind u r ≡ o → first_of o (next_in_line u rs) ≡ Some v → (next_in_line u rs ≡ Some v → is_some (session v.0 ss) ≡ true) → is_some (session v.0 ss) ≡ true
    go None b e ih = ih e
    go (Some w) b e ih = by_call ss r (side_of u r) v parts.0 (b ∙ e)

-- the sessions of other users
others : ℕ → List Session → List Session
others u [] = []
others u (s ∷ ss) = cond (same s.user.0 u) (others u ss) (s ∷ others u ss)

others_no_more : (u : ℕ) (ss : List Session) → length (others u ss) ≤ length ss
unfolding others
others_no_more u [] = omega arith
others_no_more u (s ∷ ss) = go (same s.user.0 u) (others_no_more u ss)
  where
    go : (b : Bool) → length (others u ss) ≤ length ss → length (cond b (others u ss) (s ∷ others u ss)) ≤ suc (length ss)
    go true h = omega arith
    go false h = omega arith

others_fewer : (u : ℕ) (ss : List Session) → is_some (session u ss) ≡ true → length (others u ss) < length ss
unfolding others session
others_fewer u [] e = absurd (both_ways false refl e)
others_fewer u (s ∷ ss) e = go (same s.user.0 u) e (others_fewer u ss)
  where
    go : (b : Bool) → is_some (cond b (Some s) (session u ss)) ≡ true → (is_some (session u ss) ≡ true → length (others u ss) < length ss) → length (cond b (others u ss) (s ∷ others u ss)) < suc (length ss)
    go true e ih = omega (arith, others_no_more u ss)
    go false e ih = omega (arith, ih e)

others_keep : (u v : ℕ) (ss : List Session) → (u ≡ v → ⊥) → session v (others u ss) ≡ session v ss
unfolding others session
others_keep u v [] ne = refl
others_keep u v (s ∷ ss) ne = go (same s.user.0 u) refl (others_keep u v ss ne)
  where
    go : (b : Bool) → same s.user.0 u ≡ b → session v (others u ss) ≡ session v ss → session v (cond b (others u ss) (s ∷ others u ss)) ≡ cond (same s.user.0 v) (Some s) (session v ss)
    go true t ih =
        let other : same s.user.0 v ≡ false = ne_eqb s.user.0 v (λ q. ne (sym (eqb-true s.user.0 u t) ∙ q)) in
        ih ∙ sym (ap (λ (b : Bool). cond b (Some s) (session v ss)) other)
    go false t ih = ap (λ (o : Option Session). cond (same s.user.0 v) (Some s) o) ih

-- different users, each with a session, are at most as many as the sessions
abbrev pub Apart : List User → Type 0
Apart vs = (i j : ℕ) (d : User) → i < j → j < length vs → (get_or vs i d).0 ≡ (get_or vs j d).0 → ⊥

abbrev pub Seated : List Session → List User → Type 0
Seated ss vs = (i : ℕ) (d : User) → i < length vs → is_some (session (get_or vs i d).0 ss) ≡ true

pub no_more : (ss : List Session) (vs : List User) → Apart vs → Seated ss vs → length vs ≤ length ss
no_more ss [] apart seated = omega arith
no_more ss (v ∷ vs) apart seated =
    omega (
      arith,
      others_fewer v.0 ss (seated 0 v (omega arith)),
      no_more (others v.0 ss) vs
          (λ i j d lt below e. apart (suc i) (suc j) d (omega arith) (omega arith) e)
          (λ i d below.
          ap (λ (o : Option Session). is_some o) (others_keep v.0 (get_or vs i d).0 ss (λ e. apart 0 (suc i) d (omega arith) (omega arith) e))
          ∙ seated (suc i) d (omega arith)),
    )
