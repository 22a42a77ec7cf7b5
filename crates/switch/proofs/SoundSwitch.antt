-- A switch's facts and what holds of its state. Assumes nothing.
use Rattle.std.proofs.Common.{◌≡◌, ℕ, true, List, [], ◌∷◌, length, vec_items, sym, refl, ap, ◌∙◌, subst, arith}
use Rattle.records.specs.Questions.{channels_of, held_by}
use Rattle.switch.specs.State.{fresh, model, state}
use Rattle.switch.specs.Laws.{Within}
use Rattle.switch.specs.Tables.{lawful, legs_not_on_hold, WithinLimits}
use Rattle.switch.specs.declared.board.Board.{Board}
use Rattle.switch.specs.declared.switch.Parts.{Parts}
use Rattle.switch.specs.declared.switch.Switch.{Switch}
use Rattle.switch.proofs.Sound.{Kept, Sound}
use Rattle.switch.proofs.SoundRecords.{channels_live}

pub sound_switch : {R : Type 0} {g : _} (s : Switch R g) → Sound (state s)
sound_switch s = record { ids = s.board.ids; legs = s.legs; counted = s.used ∙ sym (channels_live (vec_items s.board.sessions) (vec_items s.board.records) s.legs) }

-- the facts of a switch with a board, by their names
abbrev pub Facts : (ℕ → ℕ) → Board → Type 0
Facts limit b = record {
  legs : lawful (vec_items b.sessions) (vec_items b.records) ≡ true;
  used : b.pool.used ≡ legs_not_on_hold (vec_items b.records);
  limits : WithinLimits limit (vec_items b.records);
}

sound_facts : (limit : ℕ → ℕ) (b : Board) → Sound (model b) → WithinLimits limit (vec_items b.records) → Facts limit b
sound_facts limit b h w = record { legs = h.legs; used = h.counted ∙ channels_live (vec_items b.sessions) (vec_items b.records) h.legs; limits = w }

-- after a call that keeps what holds of a switch
pub facts : {R : Type 0} {g : _} (limit : ℕ → ℕ) (s : Switch R g) (b : Board) → Kept limit (state s) (model b) → Within limit (state s) → Facts limit b
facts limit s b k w = sound_facts limit b k.sound (k.limits w)

-- a new switch
none : {A : Type 0} (xs : List A) → length xs ≡ 0 → xs ≡ []
none [] e = refl
none (x ∷ xs) e = absurd (omega (arith, e))

pub parts_model : (p : Parts) → model p.board ≡ fresh p.board.pool.size
parts_model p =
    let b = p.board in
    let ss = none (vec_items b.sessions) (omega (arith, p.sessions, b.sessions.ok.0)) in
    let rs = none (vec_items b.records) (omega (arith, p.records, b.records.ok.0)) in
    ap (λ xs. record { sessions = xs; records = vec_items b.records; last = b.last; used = b.pool.used; size = b.pool.size }) ss
    ∙ ap (λ xs. record { sessions = []; records = xs; last = b.last; used = b.pool.used; size = b.pool.size }) rs
    ∙ ap (λ n. record { sessions = []; records = []; last = n; used = b.pool.used; size = b.pool.size }) p.last
    ∙ ap (λ n. record { sessions = []; records = []; last = 0; used = n; size = b.pool.size }) p.used

sound_fresh : (n : ℕ) → Sound (fresh n)
unfolding lawful channels_of
sound_fresh n = record { ids = refl; legs = refl; counted = refl }

within_fresh : (limit : ℕ → ℕ) (n : ℕ) → Within limit (fresh n)
unfolding held_by
within_fresh limit n u = omega arith

pub parts_facts : (limit : ℕ → ℕ) (p : Parts) → Facts limit p.board
parts_facts limit p =
    let m = parts_model p in
    sound_facts limit p.board (subst Sound (sym m) (sound_fresh p.board.pool.size)) (subst (Within limit) (sym m) (within_fresh limit p.board.pool.size))
