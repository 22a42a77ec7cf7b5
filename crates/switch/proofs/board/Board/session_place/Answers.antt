-- The place of the first session of the user, by the clauses of both.
use Rattle.std.proofs.Common.{eqb, ltb, cond, vec_items, length, ℕ, Some, None, Option, sym, ap, ◌∙◌, rules, tests}
use Rattle.std.proofs.lemmas.Iterator.{YieldsList-from_slice}
use Rattle.std.proofs.lemmas.Iterator.Search.{position_from_yields_List}
use Rattle.switch.specs.declared.session.Session.{Session}
use Rattle.switch.proofs.Sessions.{place_is}
use Rattle.switch.proofs.board.Board.session_place.Goals as goal

pub returns : goal.returns
returns c =
    let user = c.args.user.0 in
    let ss = vec_items c.args.self.now.sessions in
    position_from_yields_List (λ (s : Session). eqb s.user.0 user) _ _ c.position.result c.position.ensures.ran (YieldsList-from_slice ss cc) (λ x b q k. search (rules, tests))
    ∙ ap (λ (n : ℕ). let o : Option ℕ = cond (ltb n (length ss)) (Some n) None in o) (sym (place_is user ss))
