-- What holds between the tables of a switch, and what a change of a record, an added, a removed and a noted one leave of it. Assumes nothing.
use Rattle.std.proofs.Common.{◌≡◌, ℕ, ◌+◌, ◌≤◌, true, Some, sym, ◌∙◌, subst, arith}
use Rattle.records.proofs.Tables.{rising_change, rising_without, channels_change, channels_without, held_change, held_without}
use Rattle.records.specs.Changes.{find, change, without}
use Rattle.records.specs.Legs.{channels}
use Rattle.records.specs.Questions.{rising, channels_of, held_by}
use Rattle.records.specs.declared.legs.Record.{Record}
use Rattle.switch.specs.Laws.{KeepsLimits}
use Rattle.switch.specs.Serving.{noted}
use Rattle.switch.specs.State.{Model, with_records, with_sessions}
use Rattle.switch.specs.Tables.{lawful}
use Rattle.switch.specs.declared.session.Session.{Session}
use Rattle.switch.proofs.SoundMoves.{held_in}
use Rattle.switch.proofs.SoundRecords.{Lawful, lawful_change, lawful_without, lawful_seats}
use Rattle.switch.proofs.SoundSessions.{seated_noted}

pub record Sound (m : Model) : Type 0 where
  pub ids : rising m.last m.records ≡ true
  pub legs : lawful m.sessions m.records ≡ true
  pub counted : m.used ≡ channels_of m.records

-- a call from one state to the next keeps what holds, and the limits
pub record Kept (limit : ℕ → ℕ) (m n : Model) : Type 0 where
  pub sound : Sound n
  pub limits : KeepsLimits limit m n

pub kept_same : (limit : ℕ → ℕ) (m : Model) → Sound m → Kept limit m m
kept_same limit m h = record { sound = h; limits = λ w. w }

pub kept_at : (limit : ℕ → ℕ) (m k n : Model) → n ≡ k → Kept limit m k → Kept limit m n
kept_at limit m k n e h = subst (Kept limit m) (sym e) h

pub kept_then : (limit : ℕ → ℕ) (m k n : Model) → Kept limit m k → Kept limit k n → Kept limit m n
kept_then limit m k n h g = record { sound = g.sound; limits = λ w. g.limits (h.limits w) }

-- a record changed: the channels in use change as its own, and nobody has more on hold than before or than he may
pub kept_change : (limit : ℕ → ℕ) (m : Model) (c : ℕ) (f : Record → Record) (r : Record) (k : ℕ) → Sound m → find c m.records ≡ Some r → ((x : Record) → (f x).id ≡ x.id) → Lawful m.sessions (f r) → k + channels r ≡ m.used + channels (f r) → ((v : ℕ) → held_by v m.records ≤ limit v → held_by v m.records + held_in v (f r) ≤ limit v + held_in v r) → Kept limit m (with_records (change c f m.records) k m)
kept_change limit m c f r k h e id w u held =
    record {
      sound = record {
        ids = rising_change c f 0 m.last m.records id ∙ h.ids;
        legs = lawful_change m.sessions c f 0 m.last m.records r h.ids e w h.legs;
        counted = omega (arith, u, h.counted, channels_change c f 0 m.last m.records r h.ids e);
      };
      limits = λ l v. omega (arith, held v (l v), held_change v c f 0 m.last m.records r h.ids e);
    }

-- a record removed that has no channels
pub kept_without : (limit : ℕ → ℕ) (m : Model) (c : ℕ) (r : Record) → Sound m → find c m.records ≡ Some r → channels r ≡ 0 → Kept limit m (with_records (without c m.records) m.used m)
kept_without limit m c r h e none =
    record {
      sound = record {
        ids = rising_without c 0 m.last m.records h.ids;
        legs = lawful_without m.sessions c m.records h.legs;
        counted = omega (arith, none, h.counted, channels_without c 0 m.last m.records r h.ids e);
      };
      limits = λ l v. omega (arith, l v, held_without v c 0 m.last m.records r h.ids e);
    }

-- a session noted
pub kept_noted : (limit : ℕ → ℕ) (m : Model) (n : Session) → Sound m → Kept limit m (with_sessions (noted n m.sessions) m)
kept_noted limit m n h =
    record {
      sound = record {
        ids = h.ids;
        legs = lawful_seats m.sessions (noted n m.sessions) (λ v k. seated_noted v n m.sessions ∙ k) m.records h.legs;
        counted = h.counted;
      };
      limits = λ w. w;
    }
