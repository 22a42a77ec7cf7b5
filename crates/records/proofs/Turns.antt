-- One turn of the choice of a notice. Assumes nothing.
use Rattle.std.proofs.Common.{◌≡◌, ℕ, ◌-◌, ◌<◌, ◌≤◌, List, [], ◌∷◌, length, get_or, take, drop, None, sym, refl, ap, arith}
use Rattle.std.proofs.lemmas.List.{take_all}
use Rattle.records.specs.Notices.{better, news_for, next_notice, notice_of}
use Rattle.records.specs.declared.legs.Record.{Record}

pub notice_none : (u : ℕ) (rs : List Record) → length rs < 1 → next_notice u rs ≡ None
unfolding next_notice
notice_none u [] h = refl
notice_none u (r ∷ rs) h = absurd (omega arith)

pub notice_more : (u : ℕ) (rs : List Record) (d : Record) → 1 ≤ length rs → next_notice u rs ≡ better (notice_of (get_or rs 0 d).id (news_for u (get_or rs 0 d))) (next_notice u (take (length rs - 1) (drop 1 rs)))
unfolding next_notice
notice_more u [] d h = absurd (omega arith)
notice_more u (r ∷ rs) d h = ap (λ l. better (notice_of r.id (news_for u r)) (next_notice u l)) (sym (take_all (length (r ∷ rs) - 1) rs (omega arith)))
