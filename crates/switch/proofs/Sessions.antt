-- Laws of the list of sessions: the session at a user's place, and what a written one leaves. Assumes nothing.
use Rattle.std.proofs.Common.{◌≡◌, ℕ, suc, ◌+◌, ◌<◌, ◌≤◌, Bool, true, false, cond, List, [], ◌∷◌, length, get_or, set, Some, None, Ok, sym, refl, ap, ◌∙◌, subst, add-one, arith}
use Rattle.std.proofs.lemmas.Bool.Decides.{nat_tests}
use Rattle.std.proofs.lemmas.Grind.{common_steps}
use Rattle.std.specs.List.{position_or_len}
use Rattle.std.proofs.lemmas.List.Recursion.{is_position_or_len}
use Rattle.register.specs.User.{same}
use Rattle.register.specs.declared.user.User.{User}
use Rattle.switch.specs.Serving.{noted, serve_checked}
use Rattle.switch.specs.State.{Model}
use Rattle.switch.specs.Tables.{all_answerable, answerable, apart, session, session_place, session_placed}
use Rattle.switch.specs.declared.session.Session.{Session}

-- the place as the library's search gives it
pub place_is : (u : ℕ) (ss : List Session) → session_place u ss ≡ position_or_len (λ (s : Session). same s.user.0 u) ss
place_is u ss = is_position_or_len (session_place u) (λ (s : Session). same s.user.0 u) refl (λ s ss. ap (λ (k : ℕ). cond (same s.user.0 u) 0 k) (omega arith)) ss

pub placed_some : (u i : ℕ) (ss : List Session) → Some i ≡ session_placed u ss → (i ≡ session_place u ss) × (i < length ss)
placed_some u i ss e = grind (arith, nat_tests)

pub placed_none : (u : ℕ) (ss : List Session) → session_placed u ss ≡ None → length ss ≤ session_place u ss
placed_none u ss e = grind (arith, nat_tests)

pub session_none : (u : ℕ) (ss : List Session) → length ss ≤ session_place u ss → session u ss ≡ None
unfolding session
session_none u [] h = refl
session_none u (s ∷ ss) h = let ih = session_none u ss in grind (arith, nat_tests, ih)

-- the session at the place is the one found
session_at : (u : ℕ) (ss : List Session) (d : Session) → session_place u ss < length ss → session u ss ≡ Some (get_or ss (session_place u ss) d)
unfolding session
session_at u [] d h = absurd (omega arith)
session_at u (s ∷ ss) d h = go (same s.user.0 u) h (session_at u ss d)
  where
    go : (b : Bool) → cond b 0 (session_place u ss + 1) < suc (length ss) → (session_place u ss < length ss → session u ss ≡ Some (get_or ss (session_place u ss) d)) → cond b (Some s) (session u ss) ≡ Some (get_or (s ∷ ss) (cond b 0 (session_place u ss + 1)) d)
    go true h ih = refl
    go false h ih = rw add-one (ih (omega arith))

pub session_found : (u i : ℕ) (ss : List Session) (s : Session) → i ≡ session_place u ss → i < length ss → s ≡ get_or ss i s → session u ss ≡ Some s
session_found u i ss s at lt e = session_at u ss s (subst (λ k. k < length ss) at lt) ∙ ap (λ k. Some (get_or ss k s)) (sym at) ∙ ap (λ x. Some x) (sym e)

-- noting what came of a request: where the user has no session, and where he has one
noted_absent : (n : Session) (ss : List Session) → session n.user.0 ss ≡ None → noted n ss ≡ ss
unfolding session noted
noted_absent n [] e = refl
noted_absent n (s ∷ ss) e = let ih = noted_absent n ss in grind (arith, nat_tests, ih)

noted_at : (n : Session) (ss : List Session) → apart ss ≡ true → session_place n.user.0 ss < length ss → noted n ss ≡ set ss (session_place n.user.0 ss) n
unfolding noted
noted_at n [] h lt = refl
noted_at n (s ∷ ss) h lt =
    let ih = noted_at n ss in
    let none = noted_absent n ss in
    grind (arith, nat_tests, common_steps, ih, none)

pub noted_there : (n : Session) (i : ℕ) (ss : List Session) → apart ss ≡ true → i ≡ session_place n.user.0 ss → i < length ss → set ss i n ≡ noted n ss
noted_there n i ss h at lt = sym (noted_at n ss h (subst (λ k. k < length ss) at lt) ∙ ap (λ k. set ss k n) (sym at))

pub noted_nowhere : (n : Session) (ss : List Session) → length ss ≤ session_place n.user.0 ss → noted n ss ≡ ss
noted_nowhere n ss h = noted_absent n ss (session_none n.user.0 ss h)

-- what the session of a user was answered last can be answered again
pub kept : (u : ℕ) (ss : List Session) (s : Session) → all_answerable ss ≡ true → session u ss ≡ Some s → answerable s.handled ≡ true
unfolding session all_answerable
kept u [] s h e = grind arith
kept u (x ∷ ss) s h e = let ih = kept u ss s in grind (arith, nat_tests, ih)

-- who is served has that session
pub served : (m : Model) (u : User) (s : Session) → Ok s ≡ serve_checked m u → session u.0 m.sessions ≡ Some s
served m u s e = grind (arith, nat_tests)

pub served_kept : (m : Model) (u : User) (s : Session) → all_answerable m.sessions ≡ true → Ok s ≡ serve_checked m u → answerable s.handled ≡ true
served_kept m u s h e = kept u.0 m.sessions s h (served m u s e)
