-- What a write at the place of a call's record makes of the state, and which frames can be sent. Assumes nothing.
use Rattle.std.proofs.Common.{◌≡◌, ℕ, ◌+◌, ◌-◌, ◌<◌, ◌≤◌, Bool, true, false, cond, not, ◌&&◌, ◌||◌, eqb, leb, ltb, List, [], ◌∷◌, length, get_or, set, vec_capacity, vec_items, vec_len, is_some, Some, None, Ok, Option, Result, sym, refl, ap, ◌∙◌, subst, arith}
use borrow.Author.Tests.{clash}
use Rattle.std.proofs.lemmas.Bool.Decides.{nat_tests}
use Rattle.std.proofs.lemmas.Bool.{leb-false, ltb-false, or_parts}
use Rattle.std.proofs.lemmas.List.{get_or-set_same, set-get_or}
use Rattle.std.specs.List.{remove}
use Rattle.std.specs.Result.{result_err}
use Rattle.frames.specs.Layout.{no_call}
use Rattle.frames.specs.declared.content.CallId.{CallId}
use Rattle.frames.specs.declared.content.Frame.{Frame}
use Rattle.register.specs.User.{is_user, same}
use Rattle.register.specs.declared.user.User.{User}
use Rattle.links.specs.Meaning.{SendAnswer}
use Rattle.records.proofs.Tables.{change_none, cut, find_changed, find_none, find_range, found, length_change, placed_none, placed_some, rising_change, rising_without, wrote}
use Rattle.records.specs.Changes.{change, connected_call, connected_if, find, for_user, hushed, is_spent, put_on_hold, retrieved, retrieved_if, without}
use Rattle.records.specs.Legs.{channels, leg_on, side_of, standing, standing_in, stands}
use Rattle.records.specs.Notices.{Best, news_in}
use Rattle.records.specs.Questions.{place, placed, rising}
use Rattle.records.specs.declared.legs.Record.{Record}
use Rattle.records.specs.declared.legs.Side.{Side}
use Rattle.records.specs.declared.legs.Standing.TheVariants.{Talking, OnHold}
use Rattle.records.specs.declared.notices.Notice.{Notice}
use Rattle.signalling.proofs.Posted.{in_range, posted_told, written, written_notice}
use Rattle.signalling.specs.Carrying.{Posting, Telling}
use Rattle.signalling.specs.Writable.{writable}
use Rattle.text.proofs.Checks.{passed}
use Rattle.text.specs.Fault.{in_switch, unless}
use Rattle.text.specs.declared.fault.Fault.{Fault}
use Rattle.switch.specs.Opening.{open_checked}
use Rattle.switch.specs.Answer.{answer}
use Rattle.switch.specs.Clearing.{channels_in, freeing, takes_part}
use Rattle.switch.specs.Notifying.{can_be_sent, notice_frame, spent, tidied}
use Rattle.switch.specs.Serving.{retrieve_verdict, retrieves, standing_at}
use Rattle.switch.specs.State.{Model, model, with_records}
use Rattle.switch.specs.Tables.{all_answerable, answerable, apart, leg_in, leg_place, session, side_in}
use Rattle.switch.specs.declared.board.Board.{Board}
use Rattle.switch.specs.declared.told.Handled.{Handled}
use Rattle.switch.proofs.SoundMoves.{for_party, id_for, id_hushed, carries}

-- a record that stands at the place of its call
pub record At (m : Model) (c i : ℕ) (r : Record) : Type 0 where
  pub ids : rising m.last m.records ≡ true
  pub place_is : i ≡ place c m.records
  pub within : i < length m.records
  pub value : r ≡ get_or m.records i r

pub at_found : (m : Model) (c i : ℕ) (r : Record) → At m c i r → find c m.records ≡ Some r
at_found m c i r a = found c i m.records r a.place_is a.within a.value

at_wrote : (m : Model) (c i : ℕ) (r x : Record) (f : Record → Record) → At m c i r → x ≡ f r → set m.records i x ≡ change c f m.records
at_wrote m c i r x f a is = ap (set m.records i) is ∙ wrote c f 0 m.last i m.records r a.ids a.place_is a.within a.value

-- a place that was found
pub there : (b : Board) (c i : ℕ) (r : Record) → Some i ≡ placed c (vec_items b.records) → r ≡ get_or (vec_items b.records) i r → At (model b) c i r
there b c i r e v = let p = placed_some c i (vec_items b.records) (sym e) in record { ids = b.ids; place_is = p.0; within = p.1; value = v }

find_within : (c : ℕ) (rs : List Record) (r : Record) → find c rs ≡ Some r → place c rs < length rs
find_within c rs r e = let none = find_none c rs in grind (arith, nat_tests, none)

pub leg_is : (u c i : ℕ) (rs : List Record) (r : Record) (o : Option Side) → placed c rs ≡ Some i → r ≡ get_or rs i r → side_of u r ≡ o → leg_place u c rs ≡ leg_in i o
leg_is u c i rs r o e v s =
    let p = placed_some c i rs e in
    ap (λ q. leg_in (place c rs) (side_in u q)) (found c i rs r p.0 p.1 v) ∙ ap (leg_in (place c rs)) s ∙ ap (λ k. leg_in k o) (sym p.0)

pub leg_none : (u c : ℕ) (rs : List Record) → placed c rs ≡ None → leg_place u c rs ≡ None
leg_none u c rs e = ap (λ q. leg_in (place c rs) (side_in u q)) (find_none c rs (placed_none c rs e))

-- a leg that was found: its record, the side, and the place
pub record LegAt (u c i : ℕ) (s : Side) (rs : List Record) : Type 0 where
  pub call : Record
  pub is : find c rs ≡ Some call
  pub side : side_of u call ≡ Some s
  pub place_is : i ≡ place c rs
  pub within : i < length rs

pub leg_at : (u c i : ℕ) (s : Side) (rs : List Record) → Some (i, s) ≡ leg_place u c rs → LegAt u c i s rs
leg_at u c i s rs e = go (find c rs) refl e
  where
    by : (r : Record) → find c rs ≡ Some r → (o : Option Side) → side_of u r ≡ o → Some (i, s) ≡ leg_in (place c rs) o → LegAt u c i s rs
    by r f None t e = let z : ◌≡◌ {A = ℕ} 0 1 = cc in absurd (omega arith)
    by r f (Some d) t e =
        let q : (i, s) ≡ (place c rs, d) = cc in
        record { call = r; is = f; side = t ∙ sym (ap (λ (x : ℕ × Side). Some x.1) q); place_is = ap (λ (x : ℕ × Side). x.0) q; within = omega (arith, ap (λ (x : ℕ × Side). x.0) q, find_within c rs r f) }

    go : (o : Option Record) → find c rs ≡ o → Some (i, s) ≡ leg_in (place c rs) (side_in u o) → LegAt u c i s rs
    go None f e = let z : ◌≡◌ {A = ℕ} 0 1 = cc in absurd (omega arith)
    go (Some r) f e = by r f (side_of u r) refl e

pub leg_there : (b : Board) (u c i : ℕ) (s : Side) (r : Record) → Some (i, s) ≡ leg_place u c (vec_items b.records) → r ≡ get_or (vec_items b.records) i r → At (model b) c i r × (side_of u r ≡ Some s)
leg_there b u c i s r e v =
    let rs = vec_items b.records in
    let l = leg_at u c i s rs e in
    let o : Some l.call ≡ Some r = sym l.is ∙ found c i rs r l.place_is l.within v in
    let q : l.call ≡ r = cc in
    (record { ids = b.ids; place_is = l.place_is; within = l.within; value = v }, subst (λ x. side_of u x ≡ Some s) q l.side)

-- what holds of a board with other records, as many as before
abbrev pub Facts : Board → List Record → Type 0
Facts b rs = record {
  few_sessions : vec_len b.sessions ≤ 32;
  seats : vec_capacity b.sessions ≡ 32;
  users : apart (vec_items b.sessions) ≡ true;
  answers : all_answerable (vec_items b.sessions) ≡ true;
  few_records : vec_len b.records ≤ 64;
  room : vec_capacity b.records ≡ 64;
  ids : rising b.last rs ≡ true;
  top : b.last ≤ 16383;
}

pub changed : (b : Board) (c i : ℕ) (f : Record → Record) (r x : Record) → At (model b) c i r → ((y : Record) → (f y).id ≡ y.id) → x ≡ f r → Facts b (set (vec_items b.records) i x)
changed b c i f r x a id is =
    record { few_sessions = b.few_sessions; seats = b.seats; users = b.users; answers = b.answers; few_records = b.few_records; room = b.room; ids = ap (rising b.last) (at_wrote (model b) c i r x f a is) ∙ rising_change c f 0 b.last (vec_items b.records) id ∙ b.ids; top = b.top }

-- the state with other records, channels in use and an equal size
abbrev pub board_with : Model → List Record → ℕ → ℕ → Model
board_with m rs k s = record { sessions = m.sessions; records = rs; last = m.last; used = k; size = s }

same_state : (m : Model) (rs qs : List Record) (k n s : ℕ) → rs ≡ qs → k ≡ n → s ≡ m.size → board_with m rs k s ≡ with_records qs n m
same_state m rs qs k n s p q r = λ i. board_with m (p i) (q i) (r i)

-- a call that ends
pub ended_at : (m : Model) (c i k s : ℕ) (f : Record → Record) (r x : Record) → At m c i r → x ≡ f r → k ≡ m.used - channels r → s ≡ m.size → board_with m (set m.records i x) k s ≡ freeing f c m
ended_at m c i k s f r x a is less same =
    same_state m _ _ k _ s (at_wrote m c i r x f a is) (less ∙ sym (ap (λ o. m.used - channels_in o) (at_found m c i r a))) same

pub ended_nowhere : (m : Model) (c : ℕ) (f : Record → Record) → length m.records ≤ place c m.records → m ≡ freeing f c m
ended_nowhere m c f h =
    let e = ap channels_in (find_none c m.records h) in
    same_state m _ _ m.used _ m.size (sym (change_none c f m.records h)) (omega (arith, e)) refl

pub ended_for : (m : Model) (u c i k s : ℕ) (f : Side → Record → Record) (d : Side) (r x : Record) → At m c i r → side_of u r ≡ Some d → x ≡ f d r → k ≡ m.used - channels r → s ≡ m.size → board_with m (set m.records i x) k s ≡ freeing (for_user f u) c m
ended_for m u c i k s f d r x a side is less same = ended_at m c i k s (for_user f u) r x a (is ∙ sym (for_party f u r d side)) less same

-- a user who stands in a call has a side in it
no_side : (u : ℕ) (r : Record) → side_of u r ≡ None → takes_part (standing u r) ≡ true → ⊥
no_side u r e h = go r.live (side_of u r) e h
  where
    go : (l : Bool) (o : Option Side) → o ≡ None → takes_part (stands l o r) ≡ true → ⊥
    go false o e h = clash h
    go true None e h = clash h
    go true (Some s) e h = let z : ◌≡◌ {A = ℕ} 0 1 = cc in omega arith

pub party_side : (m : Model) (u c i : ℕ) (r : Record) → At m c i r → takes_part (standing_at m u c) ≡ true → side_of u r ≡ None → ⊥
party_side m u c i r a h e = no_side u r e (sym (ap (λ o. takes_part (standing_in u o)) (at_found m c i r a)) ∙ h)

pub held_no_side : (m : Model) (u c i : ℕ) (r : Record) → At m c i r → standing_at m u c ≡ Talking → side_of u r ≡ None → ⊥
held_no_side m u c i r a talking e = party_side m u c i r a (ap takes_part talking) e

pub nowhere : (m : Model) (u c : ℕ) → length m.records ≤ place c m.records → takes_part (standing_at m u c) ≡ true → ⊥
nowhere m u c h t = clash (sym (ap (λ o. takes_part (standing_in u o)) (find_none c m.records h)) ∙ t)

stands_so : (m : Model) (u c i : ℕ) (r : Record) → At m c i r → standing_at m u c ≡ standing u r
stands_so m u c i r a = ap (standing_in u) (at_found m c i r a)

-- a call that a user holds
pub held_at : (m : Model) (u c i k s : ℕ) (d : Side) (r x : Record) → At m c i r → standing_at m u c ≡ Talking → side_of u r ≡ Some d → x ≡ put_on_hold d r → k ≡ cond (leg_on d r).bearer.channel (m.used - 1) m.used → s ≡ m.size → board_with m (set m.records i x) k s ≡ with_records (change c (for_user put_on_hold u) m.records) (m.used - 1) m
held_at m u c i k s d r x a talking side is less same =
    let on = carries u r d true side (sym (stands_so m u c i r a) ∙ talking) in
    same_state m _ _ k _ s (at_wrote m c i r x (for_user put_on_hold u) a (is ∙ sym (for_party put_on_hold u r d side))) (less ∙ ap (λ (b : Bool). cond b (m.used - 1) m.used) on) same

-- a call that a user retrieves, or not
pub retrieved_at : (m : Model) (u c i k s : ℕ) (d : Side) (r x : Record) (g : Bool) → At m c i r → standing_at m u c ≡ OnHold → side_of u r ≡ Some d → g ≡ ((leg_on d r).bearer.channel || not (eqb m.used m.size)) → x ≡ retrieved_if ((leg_on d r).bearer.channel || not (eqb m.used m.size)) d r → k ≡ cond (leg_on d r).bearer.channel m.used (cond (eqb m.used m.size) m.used (m.used + 1)) → s ≡ m.size → (g ≡ not (eqb m.used m.size)) × (board_with m (set m.records i x) k s ≡ retrieves (retrieve_verdict OnHold (eqb m.used m.size)) u c m)
retrieved_at m u c i k s d r x g a held side granted is more same =
    let off = carries u r d false side (sym (stands_so m u c i r a) ∙ held) in
    go (leg_on d r).bearer.channel (eqb m.used m.size) off granted is more
  where
    go : (b full : Bool) → b ≡ false → g ≡ (b || not full) → x ≡ retrieved_if (b || not full) d r → k ≡ cond b m.used (cond full m.used (m.used + 1)) → (g ≡ not full) × (board_with m (set m.records i x) k s ≡ retrieves (retrieve_verdict OnHold full) u c m)
    go true full off g is more = absurd (clash (sym off))
    go false true off g is more = (g, same_state m _ _ k _ s (ap (set m.records i) (is ∙ a.value) ∙ set-get_or m.records i r) more same)
    go false false off g is more = (g, same_state m _ _ k _ s (at_wrote m c i r x (for_user retrieved u) a (is ∙ sym (for_party retrieved u r d side))) more same)

pub id_if : (b : Bool) (s : Side) (r : Record) → (retrieved_if b s r).id ≡ r.id
id_if b s r = grind arith

-- news that is dropped: the record stays, or its place is freed
place_change : (c : ℕ) (f : Record → Record) (rs : List Record) → ((x : Record) → (f x).id ≡ x.id) → place c (change c f rs) ≡ place c rs
unfolding change
place_change c f [] same = refl
place_change c f (r ∷ rs) same = let ih = place_change c f rs same in grind (arith, nat_tests, ih, same)

hush_id : (u : ℕ) (r : Record) → (for_user hushed u r).id ≡ r.id
hush_id u r = id_for hushed id_hushed u r

module _ (b : Board) (u c i : ℕ) (r x y : Record) (a : At (model b) c i r) (is : x ≡ for_user hushed u r) (reads : y ≡ get_or (set (vec_items b.records) i x) i y) where
  abbrev pub hushes : List Record
  hushes = change c (for_user hushed u) (vec_items b.records)

  wrote_news : set (vec_items b.records) i x ≡ hushes
  wrote_news = at_wrote (model b) c i r x (for_user hushed u) a is

  spends : (s : Bool) → is_spent y ≡ s → spent (find c hushes) ≡ s
  spends s t =
      ap spent (find_changed c (for_user hushed u) (vec_items b.records) r (hush_id u) (at_found (model b) c i r a))
      ∙ ap is_spent (sym is ∙ sym (reads ∙ get_or-set_same (vec_items b.records) i x y a.within))
      ∙ t

  pub told_left : is_spent y ≡ false → set (vec_items b.records) i x ≡ tidied c hushes
  told_left t = wrote_news ∙ sym (ap (λ (b : Bool). cond b (without c hushes) hushes) (spends false t))

  pub told_facts : Facts b (set (vec_items b.records) i x)
  told_facts = changed b c i (for_user hushed u) r x a (hush_id u) is

  pub left_out : (rs : List Record) → rs ≡ remove (set (vec_items b.records) i x) i → rs ≡ without c hushes
  left_out rs e =
      let p = a.place_is ∙ sym (place_change c (for_user hushed u) (vec_items b.records) (hush_id u)) in
      let w : i < length hushes = omega (arith, a.within, length_change c (for_user hushed u) (vec_items b.records)) in
      e ∙ ap (λ l. remove l i) wrote_news ∙ cut c 0 b.last i hushes (rising_change c (for_user hushed u) 0 b.last (vec_items b.records) (hush_id u) ∙ b.ids) p w

  pub told_spent : (rs : List Record) → is_spent y ≡ true → rs ≡ remove (set (vec_items b.records) i x) i → rs ≡ tidied c hushes
  told_spent rs t e = left_out rs e ∙ sym (ap (λ (b : Bool). cond b (without c hushes) hushes) (spends true t))

  pub rising_left : (rs : List Record) → rs ≡ remove (set (vec_items b.records) i x) i → rising b.last rs ≡ true
  rising_left rs e = ap (rising b.last) (left_out rs e) ∙ rising_without c 0 b.last hushes (rising_change c (for_user hushed u) 0 b.last (vec_items b.records) (hush_id u) ∙ b.ids)

pub told_nowhere : (c : ℕ) (f : Record → Record) (rs : List Record) → length rs ≤ place c rs → rs ≡ tidied c (change c f rs)
told_nowhere c f rs h =
    sym (ap (tidied c) (change_none c f rs h) ∙ ap (λ (o : Option Record). cond (spent o) (without c rs) rs) (find_none c rs h))

-- checks that passed: of a session to open, and of a call to connect before what comes of its channels
pub open_ok : (m : Model) (u : User) (t : Unit) → open_checked m u ≡ Ok t → (is_some (session u.0 m.sessions) ≡ false) × (length m.sessions < 32)
open_ok m u t e =
    let seats : Result Unit Fault = unless (leb 32 (length m.sessions)) (in_switch 33) (Ok tt) in
    let p = passed (not (is_user u.0)) (in_switch 30) (unless (is_some (session u.0 m.sessions)) (in_switch 32) seats) t e in
    let q = passed (is_some (session u.0 m.sessions)) (in_switch 32) seats t p.1 in
    (q.0, leb-false _ _ (passed (leb 32 (length m.sessions)) (in_switch 33) (Ok tt) t q.1).0)

pub record PlaceOk (m : Model) (c : CallId) : Type 0 where
  pub above : m.last < c.0
  pub top : c.0 ≤ 16383
  pub few : length m.records < 64

pub place_ok : (m : Model) (c : CallId) (a b : User) (rest : Result Unit Fault) (t : Unit) → unless (not (is_user a.0 && is_user b.0)) (in_switch 30) (unless (same a.0 b.0) (in_switch 34) (unless (no_call c.0 || leb c.0 m.last) (in_switch 35) (unless (leb 64 (length m.records)) (in_switch 36) rest))) ≡ Ok t → PlaceOk m c
place_ok m c a b rest t e =
    let place = unless (leb 64 (length m.records)) (in_switch 36) rest in
    let above = unless (no_call c.0 || leb c.0 m.last) (in_switch 35) place in
    let p = passed (not (is_user a.0 && is_user b.0)) (in_switch 30) (unless (same a.0 b.0) (in_switch 34) above) t e in
    let q = passed (same a.0 b.0) (in_switch 34) above t p.1 in
    let s = passed (no_call c.0 || leb c.0 m.last) (in_switch 35) place t q.1 in
    let range = or_parts (no_call c.0) (leb c.0 m.last) s.0 in
    record {
      above = leb-false _ _ range.1;
      top = ltb-false _ _ (or_parts (ltb c.0 1) (ltb 16383 c.0) range.0).1;
      few = leb-false _ _ (passed (leb 64 (length m.records)) (in_switch 36) rest t s.1).0;
    }

pub connected_is : (b : Bool) (c : CallId) (u v : User) (r : Record) → Some r ≡ connected_if b c u v → r ≡ connected_call c u v
connected_is b c u v r e = grind arith

-- the notice that is chosen can be sent
in_found : (u c last : ℕ) (rs : List Record) (o : Option Record) (q : Notice) → rising last rs ≡ true → last ≤ 16383 → find c rs ≡ o → news_in u o ≡ Some q.news → not (no_call c) ≡ true
in_found u c last rs None q h top e n = let z : ◌≡◌ {A = ℕ} 0 1 = cc in absurd (omega arith)
in_found u c last rs (Some r) q h top e n =
    let p = find_range c 0 last rs r h e in
    ap not (in_range c p.0 (omega (arith, p.1, top)))

pub sendable : (u last : ℕ) (rs : List Record) (o : Option Notice) → rising last rs ≡ true → last ≤ 16383 → Best u rs o → can_be_sent o ≡ true
sendable u last rs None h top b = refl
sendable u last rs (Some q) h top b = in_found u q.call.0 last rs (find q.call.0 rs) q h top refl b.0

-- a frame's bit plays no part in an answer
writable_bit : (h : Handled) (x : Bool) → writable (answer false h) ≡ true → writable (answer x h) ≡ true
writable_bit h x e = grind arith

not_true : (b : Bool) → not b ≡ true → b ≡ false
not_true b e = grind arith

module _ {Y : Type 0} (sends : Y → List ℕ → Y → SendAnswer → Type 0) where
  pub answer_told : (h : Handled) (x : Bool) (f : Frame) (a b : Y) (r : SendAnswer) (t : Option Fault) → answerable (Some h) ≡ true → f ≡ answer x h → Posting sends f a b r → t ≡ result_err r → Telling sends (answer x h) a b t
  answer_told h x f a b r t ok is p e = posted_told sends (answer x h) a b r t (written (answer x h) (writable_bit h x ok)) (subst (λ g. Posting sends g a b r) is p) e

  pub notice_told : (q : Notice) (a b : Y) (r : SendAnswer) (t : Option Fault) → can_be_sent (Some q) ≡ true → Posting sends (notice_frame q) a b r → t ≡ result_err r → Telling sends (notice_frame q) a b t
  notice_told q a b r t ok p e = posted_told sends (notice_frame q) a b r t (written_notice q.call q.news (not_true _ ok)) p e
