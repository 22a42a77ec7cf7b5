-- Opening, connecting, clearing and notifying keep what holds of a switch's state, and the limits. Assumes nothing.
use Rattle.std.proofs.Common.{◌≡◌, ℕ, ◌+◌, ◌-◌, Bool, true, false, cond, not, ◌&&◌, leb, List, [], ◌∷◌, ◌++◌, is_some, Some, None, Ok, Err, Option, Result, sym, refl, ap, ◌∙◌, arith}
use Rattle.std.proofs.lemmas.Bool.{and_parts, not-true}
use Rattle.frames.specs.declared.content.CallId.{CallId}
use Rattle.links.specs.Meaning.{SendAnswer}
use Rattle.register.specs.User.{is_user}
use Rattle.register.specs.declared.user.User.{User}
use Rattle.records.proofs.Tables.{channels_added, channels_within, find_changed, held_added, rising_added}
use Rattle.records.specs.Changes.{change, cleared, connected_call, find, for_user, hushed, is_spent, without}
use Rattle.records.specs.Legs.{is_live}
use Rattle.records.specs.Notices.{next_notice}
use Rattle.records.specs.declared.legs.Record.{Record}
use Rattle.records.specs.declared.notices.Notice.{Notice}
use Rattle.text.specs.Fault.{in_switch, unless}
use Rattle.text.specs.declared.fault.Fault.{Fault}
use Rattle.switch.specs.Clearing.{channels_in, clears, network_clears}
use Rattle.switch.specs.Connecting.{connect_checked, connected, connects}
use Rattle.switch.specs.Notifying.{Notifies, Notifying, spent, tells, tidied}
use Rattle.switch.specs.Opening.{new_session, open_checked, opened, opens}
use Rattle.switch.specs.State.{Model, with_records}
use Rattle.switch.specs.declared.told.Notified.{Notified}
use Rattle.switch.proofs.Boards.{place_ok}
use Rattle.switch.proofs.Sound.{Sound, Kept, kept_at, kept_change, kept_same, kept_then, kept_without}
use Rattle.switch.proofs.SoundMoves.{connect_held, hush_channels, hush_held, hush_lawful, id_for, id_hushed}
use Rattle.switch.proofs.SoundRecords.{bare_channels, change_missing, lawful_added, lawful_found, lawful_seats}
use Rattle.switch.proofs.SoundSessions.{seated_more}

-- opening
pub kept_opened : (limit : ℕ → ℕ) (m : Model) (u : User) → Sound m → Kept limit m (opened m u)
kept_opened limit m u h = go (open_checked m u)
  where
    go : (r : Result Unit Fault) → Kept limit m (opens r m u)
    go (Err f) = kept_same limit m h
    go (Ok t) =
        record {
          sound = record {
            ids = h.ids;
            legs = lawful_seats m.sessions (m.sessions ++ new_session u ∷ []) (λ v k. seated_more v (new_session u) m.sessions k) m.records h.legs;
            counted = h.counted;
          };
          limits = λ w. w;
        }

-- connecting
pub kept_connected : (limit : ℕ → ℕ) (m : Model) (c : CallId) (a b : User) → Sound m → Kept limit m (connected m c a b)
kept_connected limit m c a b h = go (connect_checked m c a b) refl
  where
    go : (r : Result Unit Fault) → connect_checked m c a b ≡ r → Kept limit m (connects r m c a b)
    go (Err f) e = kept_same limit m h
    go (Ok t) e =
        let ok = place_ok m c a b (unless (not (leb (m.used + 2) m.size)) (in_switch 37) (Ok tt)) t e in
        let call = connected_call c a b in
        record {
          sound = record {
            ids = rising_added 0 m.last m.records call ok.above h.ids;
            legs = lawful_added m.sessions m.records call refl h.legs;
            counted = omega (arith, h.counted, channels_added m.records call);
          };
          limits = λ w v. omega (arith, w v, held_added v m.records call, connect_held v c a b);
        }

-- clearing for the network
pub kept_clears : (limit : ℕ → ℕ) (m : Model) (c : CallId) → Sound m → Kept limit m (clears m c)
kept_clears limit m c h = go (find c.0 m.records) refl
  where
    by : (r : Record) → find c.0 m.records ≡ Some r → (b : Bool) → Kept limit m (network_clears b c.0 m)
    by r e false = kept_same limit m h
    by r e true = kept_change limit m c.0 cleared r (m.used - channels_in (find c.0 m.records)) h e (λ _. refl) refl (omega (arith, ap channels_in e, h.counted, channels_within c.0 m.records r e)) (λ v w. omega (arith, w))

    go : (o : Option Record) → find c.0 m.records ≡ o → Kept limit m (network_clears (is_live o) c.0 m)
    go None e = kept_same limit m h
    go (Some r) e = by r e r.live

-- notifying
dead : (r : Record) → is_spent r ≡ true → r.live ≡ false
dead r e = not-true _ (and_parts (not r.live) (not (is_some r.first.news) && not (is_some r.second.news)) e).0

pub kept_tells : (limit : ℕ → ℕ) (m : Model) (u c : ℕ) → Sound m → Kept limit m (tells u c m)
kept_tells limit m u c h = go (find c m.records) refl
  where
    all : List Record
    all = change c (for_user hushed u) m.records

    told : Model
    told = with_records all m.used m

    tidy : (r : Record) → find c all ≡ Some r → Kept limit m told → (b : Bool) → spent (find c all) ≡ b → Kept limit m (with_records (cond b (without c all) all) m.used m)
    tidy r e k false s = k
    tidy r e k true s = kept_then limit m told _ k (kept_without limit told c r k.sound e (bare_channels m.sessions r (dead r (ap spent (sym e) ∙ s)) (lawful_found m.sessions c all r e k.sound.legs)))

    go : (o : Option Record) → find c m.records ≡ o → Kept limit m (tells u c m)
    go None e =
        let s : all ≡ m.records = change_missing c (for_user hushed u) m.records e in
        kept_at limit m m (tells u c m) (ap (λ rs. with_records (tidied c rs) m.used m) s ∙ ap (λ o. with_records (cond (spent o) (without c m.records) m.records) m.used m) e) (kept_same limit m h)
    go (Some r) e =
        tidy (for_user hushed u r) (find_changed c (for_user hushed u) m.records r (id_for hushed id_hushed u) e)
        (kept_change limit m c (for_user hushed u) r m.used h e (id_for hushed id_hushed u) (hush_lawful m.sessions u r (lawful_found m.sessions c m.records r e h.legs)) (omega (arith, hush_channels u r)) (λ v w. omega (arith, w, hush_held u v r)))
        (spent (find c all)) refl

module _ {Y : Type 0} (sends : Y → List ℕ → Y → SendAnswer → Type 0) where
  pub kept_notifying : (limit : ℕ → ℕ) (u : User) (m n : Model) (c d : Y) (r : Result Notified Fault) → Sound m → Notifying sends u m n c d r → Kept limit m n
  kept_notifying limit u m n c d r h t = go (is_user u.0) (next_notice u.0 m.records) t
    where
      go : (b : Bool) (o : Option Notice) → Notifies sends b o u.0 m n c d r → Kept limit m n
      go false o t = kept_at limit m m n t.1 (kept_same limit m h)
      go true None t = kept_at limit m m n t.1 (kept_same limit m h)
      go true (Some q) t = kept_at limit m (tells u.0 q.call.0 m) n t.1 (kept_tells limit m u.0 q.call.0 h)
