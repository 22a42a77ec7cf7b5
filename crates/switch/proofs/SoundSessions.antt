-- What opening and noting leave of the sessions: who has one, that no two are one user's, and that each answer kept can be sent again. Assumes nothing.
use Rattle.std.proofs.Common.{◌≡◌, ℕ, suc, Bool, true, false, ◌||◌, List, [], ◌∷◌, ◌++◌, length, is_some, refl, ap, ◌∙◌, arith}
use Rattle.std.proofs.lemmas.Bool.Decides.{nat_tests}
use Rattle.register.specs.User.{same}
use Rattle.switch.specs.Serving.{noted}
use Rattle.switch.specs.Tables.{session, apart, answerable, all_answerable}
use Rattle.switch.specs.declared.session.Session.{Session}

-- a user has a session
abbrev pub seated : ℕ → List Session → Bool
seated u ss = is_some (session u ss)

-- a session more
seated_added : (v : ℕ) (n : Session) (ss : List Session) → seated v (ss ++ n ∷ []) ≡ (seated v ss || same n.user.0 v)
unfolding session
seated_added v n [] = grind (arith, nat_tests)
seated_added v n (s ∷ ss) = let ih = seated_added v n ss in grind (arith, nat_tests, ih)

pub seated_more : (v : ℕ) (n : Session) (ss : List Session) → seated v ss ≡ true → seated v (ss ++ n ∷ []) ≡ true
seated_more v n ss h = seated_added v n ss ∙ ap (λ b. b || same n.user.0 v) h

pub apart_added : (n : Session) (ss : List Session) → seated n.user.0 ss ≡ false → apart ss ≡ true → apart (ss ++ n ∷ []) ≡ true
unfolding session
apart_added n [] h a = grind arith
apart_added n (s ∷ ss) h a =
    let ih = apart_added n ss in
    let more = seated_added s.user.0 n ss in
    grind (arith, nat_tests, ih, more)

pub answers_added : (n : Session) (ss : List Session) → answerable n.handled ≡ true → all_answerable ss ≡ true → all_answerable (ss ++ n ∷ []) ≡ true
unfolding all_answerable
answers_added n [] h a = grind arith
answers_added n (s ∷ ss) h a = let ih = answers_added n ss h in grind (arith, ih)

-- a session noted
pub seated_noted : (v : ℕ) (n : Session) (ss : List Session) → seated v (noted n ss) ≡ seated v ss
unfolding session noted
seated_noted v n [] = refl
seated_noted v n (s ∷ ss) = let ih = seated_noted v n ss in grind (arith, nat_tests, ih)

pub apart_noted : (n : Session) (ss : List Session) → apart (noted n ss) ≡ apart ss
unfolding session noted
apart_noted n [] = refl
apart_noted n (s ∷ ss) =
    let ih = apart_noted n ss in
    let own = seated_noted s.user.0 n ss in
    grind (arith, nat_tests, ih, own)

pub length_noted : (n : Session) (ss : List Session) → length (noted n ss) ≡ length ss
unfolding noted
length_noted n [] = refl
length_noted n (s ∷ ss) = ap suc (length_noted n ss)

pub answers_noted : (n : Session) (ss : List Session) → answerable n.handled ≡ true → all_answerable ss ≡ true → all_answerable (noted n ss) ≡ true
unfolding noted all_answerable
answers_noted n [] h a = refl
answers_noted n (s ∷ ss) h a = let ih = answers_noted n ss h in grind (arith, nat_tests, ih)
