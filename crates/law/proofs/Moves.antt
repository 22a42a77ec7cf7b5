-- The switch's calls as turns of its faces. Assumes nothing.
use Rattle.std.proofs.Common.{◌≡◌, ℕ, ◌+◌, ◌-◌, ◌<◌, ◌≤◌, Bool, true, false, cond, not, ◌&&◌, ◌||◌, eqb, ltb, leb, ◌⊎◌, List, [], ◌∷◌, ◌++◌, length, is_some as option_is_some, Some, None, Ok, Err, Option, Result, sym, refl, ap, ◌∙◌, subst, subst₂, inl, inr, true≢false, arith}
use mathlib.Core.Bool.{false≢true}
use Rattle.std.proofs.lemmas.Bool.{eqb-false, leb-true, leb-false, ltb-false}
use Rattle.std.proofs.lemmas.Bool.Decides.{eqb_tells, leb_tells}
use Rattle.frames.specs.Layout.{no_call}
use Rattle.frames.specs.declared.content.Body.{Body}
use Rattle.frames.specs.declared.content.Body.TheVariants.{Request, Answer, ClearRequest, ClearAnswer, Notice as notice_body}
use Rattle.frames.specs.declared.content.CallId.{CallId}
use Rattle.frames.specs.declared.content.Cause.TheVariants.{NotSubscribed, LimitReached, CallNotThere, AlreadyOnHold, NotOnHold, NoChannel}
use Rattle.frames.specs.declared.content.News.{News}
use Rattle.frames.specs.declared.content.News.TheVariants.{PutOnHold, Retrieved, Released}
use Rattle.frames.specs.declared.content.Operation.TheVariants.{Hold, Retrieve}
use Rattle.frames.specs.declared.content.Verdict.TheVariants.{Granted, Declined}
use Rattle.pool.specs.Pool.{bare, carried as with_channel}
use Rattle.pool.specs.declared.claim.Bearer.{Bearer}
use Rattle.records.specs.Changes.{find, change, without, moved, put_on_hold, retrieved, cleared_by, cleared, hushed, at_side, for_user, connected_call}
use Rattle.records.specs.Legs.{is_live, side_if}
use Rattle.records.specs.Notices.{next_notice, news_on}
use Rattle.records.specs.Questions.{held_by}
use Rattle.records.specs.declared.legs.Record.{Record}
use Rattle.records.specs.declared.legs.Standing.{Standing as Spot}
use Rattle.records.specs.declared.legs.Standing.TheVariants.{Absent, Talking, OnHold}
use Rattle.records.specs.declared.notices.Notice.{Notice}
use Rattle.register.specs.User.{is_user, same}
use Rattle.register.specs.declared.user.User.{User}
use Rattle.switch.specs.Clearing.{channels_in, legs_in, freeing, party_legs, party_clears, network_legs, network_clears, clear_told, clears}
use Rattle.switch.specs.Connecting as connecting
use Rattle.switch.specs.Notifying.{spent, tells as tells_model}
use Rattle.switch.specs.Opening.{opens}
use Rattle.switch.specs.Serving.{hold_verdict, retrieve_verdict, holds, retrieves, standing_at, Carried, carry_out}
use Rattle.switch.specs.Answer.{answer}
use Rattle.switch.specs.Serving.Carried.{no_request, carried}
use Rattle.switch.specs.State.{Model, fresh, with_records, with_sessions}
use Rattle.switch.specs.declared.session.Session.{Session}
use Rattle.switch.specs.declared.told.Handled.{Handled}
use Rattle.switch.specs.declared.told.Handled.TheVariants.{Answered, Cleared}
use Rattle.text.specs.Fault.{in_switch, unless}
use Rattle.text.specs.declared.fault.Fault.{Fault}
use Rattle.law.specs.History.{Deed, all_calls, handled_deeds, connected_deeds, cleared_deeds, total, live, on_hold}
use Rattle.law.specs.History.Deed.{cleared_by_party, cleared_by_network}
use Rattle.law.proofs.Standings.{Standing, Did, NewsTrue}
use Rattle.law.proofs.Standings.Standing.{on, off, gone}
use Rattle.law.proofs.Standings.Did.{held as did_hold, not_held_off, not_held_gone, not_held_on, back as did_back, not_back_off, not_back_gone, not_back_on, over as did_clear, not_over}
use Rattle.law.proofs.Faces.{Face, face, face_if, spot_in, is_some, spot_is, live_is, busy_is, legs_is}
use Rattle.law.proofs.Total.{total_zero}
use Rattle.law.proofs.Records.{changed, find_change, find_changed, find_erase, find_erased, find_add, find_added, Proper, Rising, rising_above, rising_add, rising_change, rising_erase, found_proper, held_total, KeepsId, KeepsProper, notice_found, OfRecord}
use Rattle.law.proofs.Records.Rising.{at_end}
use Rattle.law.proofs.Ledger.{Ledger, hold_count, leg_put, There, put_mine}
use Rattle.law.proofs.Turn.{Turn, Faces, But, turn_ledger, standing, stands, stands_on, stands_off, stands_absent, stands_gone, end_drift}
use Rattle.law.proofs.Turn.Turn.{still, connects, asides, backs, overs, overs_by, misses}

abbrev pub faces : Model → Faces
faces s y = face (find y s.records)

-- the books of a switch
pub record Books (limit : ℕ → ℕ) (size : ℕ) (ds : List Deed) (s : Model) : Type 0 where
  pub sized : s.size ≡ size
  pub rising : Rising s.last 0 s.records
  pub ledger : Ledger limit size ds (faces s) s.last s.used

-- a turn from s to s'
abbrev pub Turns : (ℕ → ℕ) → ℕ → Model → Model → List Deed → Type 0
Turns limit size s s' d = Turn limit size (faces s) s.last s.used (faces s') s'.last s'.used d

-- what a change of a record does to its face

put_id : (v : ℕ) (b : Bearer) (n : News) → KeepsId (for_user (moved b n) v)
put_id v b n r = go (same r.first.user.0 v) (same r.second.user.0 v)
  where
    go : (p q : Bool) → (at_side (moved b n) (side_if p q) r).id.0 ≡ r.id.0
    go true q = refl
    go false true = refl
    go false false = refl

end_id : (v : ℕ) → KeepsId (for_user cleared_by v)
end_id v r = go (same r.first.user.0 v) (same r.second.user.0 v)
  where
    go : (p q : Bool) → (at_side cleared_by (side_if p q) r).id.0 ≡ r.id.0
    go true q = refl
    go false true = refl
    go false false = refl

both_id : KeepsId cleared
both_id r = refl

quiet_id : (v : ℕ) → KeepsId (for_user hushed v)
quiet_id v r = go (same r.first.user.0 v) (same r.second.user.0 v)
  where
    go : (p q : Bool) → (at_side hushed (side_if p q) r).id.0 ≡ r.id.0
    go true q = refl
    go false true = refl
    go false false = refl

abbrev put_face : ℕ → Bool → Option Face → Option Face
put_face v m None = None
put_face v m (Some f) = Some (leg_put v m f)

face_put : (v : ℕ) (b : Bearer) (n : News) (r : Record) → There (spot_in v (face (Some r))) → face (Some (for_user (moved b n) v r)) ≡ put_face v (not b.channel) (face (Some r))
face_put v b n r t = go r.live (same r.first.user.0 v) (same r.second.user.0 v) refl refl refl
  where
    go : (l p q : Bool) → r.live ≡ l → same r.first.user.0 v ≡ p → same r.second.user.0 v ≡ q → face (Some (for_user (moved b n) v r)) ≡ put_face v (not b.channel) (face (Some r))
    go true true q i j k = rw (i, j)
    go true false true i j k = rw (i, j, k)
    go true false false i j k = let z : spot_in v (face (Some r)) ≡ Absent = rw (i, j, k) in absurd (subst There z t)
    go false p q i j k = let z : spot_in v (face (Some r)) ≡ Absent = rw i in absurd (subst There z t)

face_end : (v : ℕ) (r : Record) → There (spot_in v (face (Some r))) → face (Some (for_user cleared_by v r)) ≡ None
face_end v r t = go r.live (same r.first.user.0 v) (same r.second.user.0 v) refl refl refl
  where
    go : (l p q : Bool) → r.live ≡ l → same r.first.user.0 v ≡ p → same r.second.user.0 v ≡ q → face (Some (for_user cleared_by v r)) ≡ None
    go true true q i j k = rw j
    go true false true i j k = rw (j, k)
    go true false false i j k = let z : spot_in v (face (Some r)) ≡ Absent = rw (i, j, k) in absurd (subst There z t)
    go false p q i j k = let z : spot_in v (face (Some r)) ≡ Absent = rw i in absurd (subst There z t)

face_quiet : (v : ℕ) (r : Record) → face (Some (for_user hushed v r)) ≡ face (Some r)
face_quiet v r = go (same r.first.user.0 v) (same r.second.user.0 v) r.live refl
  where
    go : (p q l : Bool) → r.live ≡ l → face_if (at_side hushed (side_if p q) r).live (at_side hushed (side_if p q) r) ≡ face_if r.live r
    go true q true j = rw j
    go true q false j = rw j
    go false true true j = rw j
    go false true false j = rw j
    go false false l j = refl

none_some : {n : News} → ◌≡◌ {A = Option News} None (Some n) → ⊥
none_some {n} e = let z : ◌≡◌ {A = ℕ} 0 1 = cc in omega arith

put_proper : (v : ℕ) (b : Bearer) (n : News) → (n ≡ Released → ⊥) → KeepsProper (for_user (moved b n) v)
put_proper v b n d r p = go (same r.first.user.0 v) (same r.second.user.0 v)
  where
    inside : ◌≡◌ {A = Option News} (Some n) (Some Released) → n ≡ Released
    inside e = cc

    go : (x y : Bool) → Proper (at_side (moved b n) (side_if x y) r)
    go true y = record { told_first = p.told_first; told_second = λ e. absurd (d (inside e)); apart = p.apart }
    go false true = record { told_first = λ e. absurd (d (inside e)); told_second = p.told_second; apart = p.apart }
    go false false = p

end_proper : (v : ℕ) → KeepsProper (for_user cleared_by v)
end_proper v r p = go (same r.first.user.0 v) (same r.second.user.0 v)
  where
    go : (x y : Bool) → Proper (at_side cleared_by (side_if x y) r)
    go true y = record { told_first = λ e. refl; told_second = λ e. refl; apart = p.apart }
    go false true = record { told_first = λ e. refl; told_second = λ e. refl; apart = p.apart }
    go false false = p

both_proper : KeepsProper cleared
both_proper r p = record { told_first = λ e. refl; told_second = λ e. refl; apart = p.apart }

quiet_proper : (v : ℕ) → KeepsProper (for_user hushed v)
quiet_proper v r p = go (same r.first.user.0 v) (same r.second.user.0 v)
  where
    go : (x y : Bool) → Proper (at_side hushed (side_if x y) r)
    go true y = record { told_first = λ e. absurd (none_some e); told_second = p.told_second; apart = p.apart }
    go false true = record { told_first = p.told_first; told_second = λ e. absurd (none_some e); apart = p.apart }
    go false false = p

-- the face of a changed record
changed_put : (v : ℕ) (b : Bearer) (n : News) (o : Option Record) → There (spot_in v (face o)) → face (changed (for_user (moved b n) v) o) ≡ put_face v (not b.channel) (face o)
changed_put v b n None t = refl
changed_put v b n (Some r) t = face_put v b n r t

changed_end : (v : ℕ) (o : Option Record) → There (spot_in v (face o)) → face (changed (for_user cleared_by v) o) ≡ None
changed_end v None t = refl
changed_end v (Some r) t = face_end v r t

changed_both : (o : Option Record) → face (changed cleared o) ≡ None
changed_both None = refl
changed_both (Some r) = refl

changed_quiet : (v : ℕ) (o : Option Record) → face (changed (for_user hushed v) o) ≡ face o
changed_quiet v None = refl
changed_quiet v (Some r) = face_quiet v r

-- who stands in a call has a face there
has_face : (v : ℕ) (o : Option Face) → There (spot_in v o) → (f : Face) × (o ≡ Some f)
has_face v None t = absurd t
has_face v (Some f) t = (f, refl)

-- the body of the answer to a request that was carried out
abbrev pub answered_body : Handled → Body
answered_body (Answered o c v) = Answer o v
answered_body (Cleared c l) = ClearAnswer

-- what carrying out a request does
pub record Acts (limit : ℕ → ℕ) (size : ℕ) (s : Model) (v : ℕ) (c : CallId) (k : Body) (h : Handled) (s' : Model) : Type 0 where
  pub turn : Turns limit size s s' (handled_deeds v h)
  pub rising : Rising s'.last 0 s'.records
  pub sized : s'.size ≡ size
  pub says : (x : Bool) → answer x h ≡ record { exchange = x; call = c; body = answered_body h }
  pub did : Did k (answered_body h) (standing v (faces s) s.last c.0) (standing v (faces s') s'.last c.0)
  pub but : But c.0 (faces s) (faces s')
  pub lasts : s'.last ≡ s.last
  pub seats : s'.sessions ≡ s.sessions

abbrev pub ActsOf : (ℕ → ℕ) → ℕ → Model → ℕ → CallId → Body → Carried → Type 0
ActsOf limit size s v c k no_request = Unit {0}
ActsOf limit size s v c k (carried h s') = Acts limit size s v c k h s'

module _ (limit : ℕ → ℕ) (size : ℕ) (ds : List Deed) (s : Model) (B : Books limit size ds s) (v : ℕ) (i : CallId) where
  abbrev c : ℕ
  c = i.0

  stillness : (k : Body) (h : Handled) → handled_deeds v h ≡ [] → ((x : Bool) → answer x h ≡ record { exchange = x; call = i; body = answered_body h })
      → Did k (answered_body h) (standing v (faces s) s.last c) (standing v (faces s) s.last c) → Acts limit size s v i k h s
  stillness k h e a d = record { turn = subst (Turns limit size s s) (sym e) (still (λ y. refl)); rising = B.rising; sized = B.sized; says = a; did = d; but = λ y n. refl; lasts = refl; seats = refl }

  but_change : (f : Record → Record) (n : ℕ) → KeepsId f → But c (faces s) (faces (with_records (change c f s.records) n s))
  but_change f n k y d = ap face (find_change c y f s.records k d)

  count_is : hold_count (faces s) v ≡ held_by v s.records
  count_is = sym (held_total v all_calls B.ledger.below B.rising)

  -- the standing before, by the spot
  abbrev here : Standing
  here = standing v (faces s) s.last c

  did_still : (k a : Body) (z : Standing) → here ≡ z → Did k a z z → Did k a here here
  did_still k a z e d = subst (λ x. Did k a x x) (sym e) d

  did_absent : (k a : Body) → spot_in v (faces s c) ≡ Absent → Did k a off off → Did k a gone gone → Did k a here here
  did_absent k a e p q = go (stands_absent v s.last c (faces s c) e)
    where
      go : (here ≡ off) ⊎ (here ≡ gone) → Did k a here here
      go (inl i) = did_still k a off i p
      go (inr i) = did_still k a gone i q

  face_now : (f : Record → Record) (n : ℕ) → KeepsId f → faces (with_records (change c f s.records) n s) c ≡ face (changed f (find c s.records))
  face_now f n k = ap face (find_changed c f s.records k)

  rising_now : (f : Record → Record) → KeepsId f → KeepsProper f → Rising s.last 0 (change c f s.records)
  rising_now f k p = rising_change c f k p B.rising

  -- the spot, by the record
  spot_by : (z : Spot) → standing_at s v c ≡ z → spot_in v (faces s c) ≡ z
  spot_by z e = sym (spot_is v (find c s.records)) ∙ e

  hold_grants : leb (limit v) (held_by v s.records) ≡ false → spot_in v (faces s c) ≡ Talking → Acts limit size s v i (Request Hold) (Answered Hold i Granted) (holds Granted v c s)
  hold_grants j e = go (has_face v (faces s c) (subst There (sym e) tt))
    where
      k : KeepsId (for_user put_on_hold v)
      k = put_id v bare PutOnHold

      news : PutOnHold ≡ Released → ⊥
      news z = let z : ◌≡◌ {A = ℕ} 0 1 = cc in omega arith

      go : (f : Face) × (faces s c ≡ Some f) → Acts limit size s v i (Request Hold) (Answered Hold i Granted) (holds Granted v c s)
      go h =
          let f = h.0 in
          let t : spot_in v (Some f) ≡ Talking = subst (λ o. spot_in v o ≡ Talking) h.1 e in
          let now : faces (holds Granted v c s) c ≡ Some (leg_put v true f) =
          face_now (for_user put_on_hold v) (s.used - 1) k ∙ (changed_put v bare PutOnHold (find c s.records) (subst There (sym e) tt) ∙ ap (put_face v true) h.1) in
          let there : spot_in v (faces (holds Granted v c s) c) ≡ OnHold = ap (spot_in v) now ∙ put_mine f v true (subst There (sym t) tt) in
          record {
            turn = asides v c f (but_change (for_user put_on_hold v) (s.used - 1) k) h.1 t now (let m = count_is in let l = leb-false (limit v) (held_by v s.records) j in omega arith);
            rising = rising_now (for_user put_on_hold v) k (put_proper v bare PutOnHold news);
            sized = B.sized;
            says = λ x. refl;
            did = subst₂ (Did (Request Hold) (Answer Hold Granted)) (sym (stands_off v s.last c (faces s c) e)) (sym (stands_on v s.last c (faces (holds Granted v c s) c) there)) did_hold;
            but = but_change (for_user put_on_hold v) (s.used - 1) k;
            lasts = refl;
            seats = refl;
          }

  hold_acts : (z : Spot) (p q : Bool) → spot_in v (faces s c) ≡ z → leb (limit v) (held_by v s.records) ≡ q
      → Acts limit size s v i (Request Hold) (Answered Hold i (hold_verdict z p q)) (holds (hold_verdict z p q) v c s)
  hold_acts Absent p q e j = stillness (Request Hold) (Answered Hold i (Declined CallNotThere)) refl (λ x. refl) (did_absent (Request Hold) (Answer Hold (Declined CallNotThere)) e not_held_off not_held_gone)
  hold_acts OnHold p q e j =
      stillness (Request Hold) (Answered Hold i (Declined AlreadyOnHold)) refl (λ x. refl) (did_still (Request Hold) (Answer Hold (Declined AlreadyOnHold)) on (stands_on v s.last c (faces s c) e) not_held_on)
  hold_acts Talking true q e j =
      stillness (Request Hold) (Answered Hold i (Declined NotSubscribed)) refl (λ x. refl) (did_still (Request Hold) (Answer Hold (Declined NotSubscribed)) off (stands_off v s.last c (faces s c) e) not_held_off)
  hold_acts Talking false true e j =
      stillness (Request Hold) (Answered Hold i (Declined LimitReached)) refl (λ x. refl) (did_still (Request Hold) (Answer Hold (Declined LimitReached)) off (stands_off v s.last c (faces s c) e) not_held_off)
  hold_acts Talking false false e j = hold_grants j e

  retrieve_grants : eqb s.used s.size ≡ false → spot_in v (faces s c) ≡ OnHold → Acts limit size s v i (Request Retrieve) (Answered Retrieve i Granted) (retrieves Granted v c s)
  retrieve_grants j e = go (has_face v (faces s c) (subst There (sym e) tt))
    where
      k : KeepsId (for_user retrieved v)
      k = put_id v with_channel Retrieved

      news : Retrieved ≡ Released → ⊥
      news z = let z : ◌≡◌ {A = ℕ} 0 1 = cc in omega arith

      go : (f : Face) × (faces s c ≡ Some f) → Acts limit size s v i (Request Retrieve) (Answered Retrieve i Granted) (retrieves Granted v c s)
      go h =
          let f = h.0 in
          let t : spot_in v (Some f) ≡ OnHold = subst (λ o. spot_in v o ≡ OnHold) h.1 e in
          let now : faces (retrieves Granted v c s) c ≡ Some (leg_put v false f) =
          face_now (for_user retrieved v) (s.used + 1) k ∙ (changed_put v with_channel Retrieved (find c s.records) (subst There (sym e) tt) ∙ ap (put_face v false) h.1) in
          let there : spot_in v (faces (retrieves Granted v c s) c) ≡ Talking = ap (spot_in v) now ∙ put_mine f v false (subst There (sym t) tt) in
          let ne = eqb-false s.used s.size j in
          record {
            turn = backs v c f (but_change (for_user retrieved v) (s.used + 1) k) h.1 t now (let l = B.ledger.fits in let m = B.sized in omega (arith, ne));
            rising = rising_now (for_user retrieved v) k (put_proper v with_channel Retrieved news);
            sized = B.sized;
            says = λ x. refl;
            did = subst₂ (Did (Request Retrieve) (Answer Retrieve Granted)) (sym (stands_on v s.last c (faces s c) e)) (sym (stands_off v s.last c (faces (retrieves Granted v c s) c) there)) did_back;
            but = but_change (for_user retrieved v) (s.used + 1) k;
            lasts = refl;
            seats = refl;
          }

  retrieve_acts : (z : Spot) (q : Bool) → spot_in v (faces s c) ≡ z → eqb s.used s.size ≡ q
      → Acts limit size s v i (Request Retrieve) (Answered Retrieve i (retrieve_verdict z q)) (retrieves (retrieve_verdict z q) v c s)
  retrieve_acts Absent q e j = stillness (Request Retrieve) (Answered Retrieve i (Declined CallNotThere)) refl (λ x. refl) (did_absent (Request Retrieve) (Answer Retrieve (Declined CallNotThere)) e not_back_off not_back_gone)
  retrieve_acts Talking q e j =
      stillness (Request Retrieve) (Answered Retrieve i (Declined NotOnHold)) refl (λ x. refl) (did_still (Request Retrieve) (Answer Retrieve (Declined NotOnHold)) off (stands_off v s.last c (faces s c) e) not_back_off)
  retrieve_acts OnHold true e j =
      stillness (Request Retrieve) (Answered Retrieve i (Declined NoChannel)) refl (λ x. refl) (did_still (Request Retrieve) (Answer Retrieve (Declined NoChannel)) on (stands_on v s.last c (faces s c) e) not_back_on)
  retrieve_acts OnHold false e j = retrieve_grants j e

  clear_does : There (spot_in v (faces s c)) → Acts limit size s v i ClearRequest (Cleared i (legs_in (find c s.records))) (freeing (for_user cleared_by v) c s)
  clear_does t = go (has_face v (faces s c) t)
    where
      go : (f : Face) × (faces s c ≡ Some f) → Acts limit size s v i ClearRequest (Cleared i (legs_in (find c s.records))) (freeing (for_user cleared_by v) c s)
      go h =
          let f = h.0 in
          let now : faces (freeing (for_user cleared_by v) c s) c ≡ None = face_now (for_user cleared_by v) (s.used - channels_in (find c s.records)) (end_id v) ∙ changed_end v (find c s.records) t in
          let but = but_change (for_user cleared_by v) (s.used - channels_in (find c s.records)) (end_id v) in
          record {
            turn =
                subst₂ (λ n l. Turn limit size (faces s) s.last s.used (faces (freeing (for_user cleared_by v) c s)) s.last (s.used - n) (cleared_by_party v c l ∷ []))
                (sym (busy_is (find c s.records) f h.1)) (sym (legs_is (find c s.records)))
                (overs_by v c f but h.1 (subst (λ o. There (spot_in v o)) h.1 t) now);
            rising = rising_now (for_user cleared_by v) (end_id v) (end_proper v);
            sized = B.sized;
            says = λ x. refl;
            did = subst (Did ClearRequest ClearAnswer here) (sym (end_drift v c (faces (freeing (for_user cleared_by v) c s)) f B.ledger h.1 now)) did_clear;
            but = but;
            lasts = refl;
            seats = refl;
          }

  clear_acts : (z : Spot) → spot_in v (faces s c) ≡ z → Acts limit size s v i ClearRequest (Cleared i (party_legs z (find c s.records))) (party_clears z v c s)
  clear_acts Talking e = clear_does (subst There (sym e) tt)
  clear_acts OnHold e = clear_does (subst There (sym e) tt)
  clear_acts Absent e =
      record {
        turn = misses v c (λ y. refl) e;
        rising = B.rising;
        sized = B.sized;
        says = λ x. refl;
        did = did_absent ClearRequest ClearAnswer e not_over did_clear;
        but = λ y n. refl;
        lasts = refl;
        seats = refl;
      }

  pub acts : (k : Body) → ActsOf limit size s v i k (carry_out (limit v) s v i k)
  acts (Request Hold) = hold_acts (standing_at s v c) (eqb (limit v) 0) (leb (limit v) (held_by v s.records)) (spot_by (standing_at s v c) refl) refl
  acts (Request Retrieve) = retrieve_acts (standing_at s v c) (eqb s.used s.size) (spot_by (standing_at s v c) refl) refl
  acts ClearRequest = clear_acts (standing_at s v c) (spot_by (standing_at s v c) refl)
  acts (Answer o w) = tt
  acts ClearAnswer = tt
  acts (notice_body w) = tt

-- any other move: its turn, and the list after it
pub record Moved (limit : ℕ → ℕ) (size : ℕ) (s s' : Model) (d : List Deed) : Type 0 where
  pub turn : Turns limit size s s' d
  pub rising : Rising s'.last 0 s'.records
  pub sized : s'.size ≡ size
  pub seats : s'.sessions ≡ s.sessions

pub moved_books : {limit : ℕ → ℕ} {size : ℕ} {ds : List Deed} {s s' : Model} {d : List Deed} → Moved limit size s s' d → Books limit size ds s → Books limit size (d ++ ds) s'
moved_books m B = record { sized = m.sized; rising = m.rising; ledger = turn_ledger m.turn B.ledger }

pub acted : {limit : ℕ → ℕ} {size : ℕ} {s : Model} {v : ℕ} {c : CallId} {k : Body} {h : Handled} {s' : Model} → Acts limit size s v c k h s' → Moved limit size s s' (handled_deeds v h)
acted a = record { turn = a.turn; rising = a.rising; sized = a.sized; seats = a.seats }

-- the books do not look at the sessions
pub reseat : {limit : ℕ → ℕ} {size : ℕ} {ds : List Deed} {s : Model} (ss : List Session) → Books limit size ds s → Books limit size ds (with_sessions ss s)
reseat ss B = record { sized = B.sized; rising = B.rising; ledger = B.ledger }

pub opens_books : {limit : ℕ → ℕ} {size : ℕ} {ds : List Deed} (r : Result Unit Fault) (s : Model) (u : User) → Books limit size ds s → Books limit size ds (opens r s u)
opens_books (Ok t) s u B = reseat _ B
opens_books (Err e) s u B = B

pub fresh_books : (limit : ℕ → ℕ) (size : ℕ) → Books limit size [] (fresh size)
unfolding find live on_hold
fresh_books limit size =
    record {
      sized = refl;
      rising = at_end (omega arith);
      ledger =
          record {
            says = λ c. (refl, λ v. refl);
            beyond = λ c l. refl;
            below = omega arith;
            sum = sym zeros;
            fits = omega arith;
            holds = λ v. let z = zeros in omega arith;
            limited = λ v. let z = zeros in omega arith;
          };
    }
  where
    zeros : total (λ c. 0) all_calls ≡ 0
    zeros = total_zero (λ c. 0) all_calls (λ x l. refl)

module _ (limit : ℕ → ℕ) (size : ℕ) (ds : List Deed) (s : Model) (B : Books limit size ds s) where
  pub rests : Moved limit size s s []
  rests = record { turn = still (λ y. refl); rising = B.rising; sized = B.sized; seats = refl }

  neither : (p q : Bool) → (p || q) ≡ false → (p ≡ false) × (q ≡ false)
  neither true q e = absurd (true≢false e)
  neither false q e = (refl, e)

  joined_proper : (c : CallId) (a b : User) → (a.0 ≡ b.0 → ⊥) → Proper (connected_call c a b)
  joined_proper c a b d = record { told_first = λ e. absurd (none_some e); told_second = λ e. absurd (none_some e); apart = d }

  abbrev checks : Bool → Bool → Bool → Bool → Bool → Result Unit Fault
  checks p q i r f = unless (not p) (in_switch 30) (unless q (in_switch 34) (unless i (in_switch 35) (unless r (in_switch 36) (unless (not f) (in_switch 37) (Ok tt)))))

  join_moves : (p q i r f : Bool) (c : CallId) (a b : User) → same a.0 b.0 ≡ q → (no_call c.0 || leb c.0 s.last) ≡ i → leb (s.used + 2) s.size ≡ f
      → Moved limit size s (connecting.connects (checks p q i r f) s c a b) (connected_deeds c.0 a.0 b.0 (checks p q i r f))
  join_moves false q i r f c a b e g h = rests
  join_moves true true i r f c a b e g h = rests
  join_moves true false true r f c a b e g h = rests
  join_moves true false false true f c a b e g h = rests
  join_moves true false false false false c a b e g h = rests
  join_moves true false false false true c a b e g h =
      let l = neither (no_call c.0) (leb c.0 s.last) g in
      let m = neither (ltb c.0 1) (ltb 16383 c.0) l.0 in
      let up = leb-false c.0 s.last l.1 in
      let top = ltb-false 16383 c.0 m.1 in
      let ne = eqb-false a.0 b.0 e in
      let no = rising_above c.0 B.rising up in
      record {
        turn = connects c.0 a.0 b.0 (λ y d. ap face (find_add y (connected_call c a b) s.records d)) (ap face no) (ap face (find_added (connected_call c a b) s.records no)) up (omega arith) ne
            (let w = leb-true (s.used + 2) s.size h in let z = B.sized in omega arith);
        rising = rising_add (connected_call c a b) B.rising up (joined_proper c a b ne);
        sized = B.sized;
        seats = refl;
      }

  pub joins_move : (c : CallId) (a b : User) → Moved limit size s (connecting.connected s c a b) (connected_deeds c.0 a.0 b.0 (connecting.connect_checked s c a b))
  joins_move c a b =
      join_moves (is_user a.0 && is_user b.0) (same a.0 b.0) (no_call c.0 || leb c.0 s.last) (leb 64 (length s.records)) (leb (s.used + 2) s.size) c a b refl refl refl

  alive_face : (o : Option Face) → is_some o ≡ true → (f : Face) × (o ≡ Some f)
  alive_face None e = absurd (false≢true e)
  alive_face (Some f) e = (f, refl)

  cut_moves : (p : Bool) (c : ℕ) → is_live (find c s.records) ≡ p → Moved limit size s (network_clears p c s) (cleared_deeds c (network_legs p (find c s.records)))
  cut_moves false c e = rests
  cut_moves true c e = go (alive_face (faces s c) (sym (live_is (find c s.records)) ∙ e))
    where
      go : (f : Face) × (faces s c ≡ Some f) → Moved limit size s (network_clears true c s) (cleared_deeds c (network_legs true (find c s.records)))
      go h =
          record {
            turn =
                subst₂ (λ n l. Turn limit size (faces s) s.last s.used (faces (freeing cleared c s)) s.last (s.used - n) (cleared_by_network c l ∷ []))
                (sym (busy_is (find c s.records) h.0 h.1)) (sym (legs_is (find c s.records)))
                (overs c h.0 (λ y d. ap face (find_change c y cleared s.records both_id d)) h.1 (ap face (find_changed c cleared s.records both_id) ∙ changed_both (find c s.records)));
            rising = rising_change c cleared both_id both_proper B.rising;
            sized = B.sized;
            seats = refl;
          }

  pub cuts_move : (c : CallId) → Moved limit size s (clears s c) (cleared_deeds c.0 (clear_told s c))
  cuts_move c = cut_moves (is_live (find c.0 s.records)) c.0 refl

  -- notifying
  spent_face : (o : Option Record) → spent o ≡ true → face o ≡ None
  spent_face None e = refl
  spent_face (Some r) e = go r.live refl e
    where
      go : (l : Bool) → r.live ≡ l → (not l && (not (option_is_some r.first.news) && not (option_is_some r.second.news))) ≡ true → face_if r.live r ≡ None
      go true i e = absurd (false≢true e)
      go false i e = rw i

  tidy_faces : (c y : ℕ) (rs : List Record) (b : Bool) → spent (find c rs) ≡ b → face (find y (cond b (without c rs) rs)) ≡ face (find y rs)
  tidy_faces c y rs false e = refl
  tidy_faces c y rs true e = go (eqb_tells c y)
    where
      go : ((eqb c y ≡ true) × (c ≡ y)) ⊎ ((eqb c y ≡ false) × (c ≡ y → ⊥)) → face (find y (without c rs)) ≡ face (find y rs)
      go (inl i) = subst (λ z. face (find z (without c rs)) ≡ face (find z rs)) i.1 (ap face (find_erased c rs) ∙ sym (spent_face (find c rs) e))
      go (inr i) = ap face (find_erase c y rs i.1)

  quiet_faces : (v c y : ℕ) → face (find y (change c (for_user hushed v) s.records)) ≡ face (find y s.records)
  quiet_faces v c y = go (eqb_tells c y)
    where
      go : ((eqb c y ≡ true) × (c ≡ y)) ⊎ ((eqb c y ≡ false) × (c ≡ y → ⊥)) → face (find y (change c (for_user hushed v) s.records)) ≡ face (find y s.records)
      go (inl i) =
          subst (λ z. face (find z (change c (for_user hushed v) s.records)) ≡ face (find z s.records)) i.1
          (ap face (find_changed c (for_user hushed v) s.records (quiet_id v)) ∙ changed_quiet v (find c s.records))
      go (inr i) = ap face (find_change c y (for_user hushed v) s.records (quiet_id v) i.1)

  tidy_rising : (c : ℕ) (rs : List Record) (b : Bool) → Rising s.last 0 rs → Rising s.last 0 (cond b (without c rs) rs)
  tidy_rising c rs true h = rising_erase c h
  tidy_rising c rs false h = h

  pub tells_move : (v c : ℕ) → Moved limit size s (tells_model v c s) []
  tells_move v c =
      let rs = change c (for_user hushed v) s.records in
      record {
        turn = still (λ y. tidy_faces c y rs (spent (find c rs)) refl ∙ quiet_faces v c y);
        rising = tidy_rising c rs (spent (find c rs)) (rising_change c (for_user hushed v) (quiet_id v) (quiet_proper v) B.rising);
        sized = B.sized;
        seats = refl;
      }

  -- a notice of a release is of a call that is gone
  pub notice_true : (u v : ℕ) (q : Notice) → next_notice v s.records ≡ Some q → NewsTrue (standing u (faces s) s.last) q.call.0 q.news
  notice_true u v q e = go q.news refl
    where
      o : OfRecord v s.records q
      o = notice_found v q B.rising e

      dead : q.news ≡ Released → o.from.live ≡ false
      dead i = side (same o.from.first.user.0 v) (same o.from.second.user.0 v) (o.news ∙ ap (λ n. Some n) i)
        where
          pr : Proper o.from
          pr = found_proper q.call.0 B.rising o.there

          side : (a b : Bool) → news_on (side_if a b) o.from ≡ Some Released → o.from.live ≡ false
          side true b z = pr.told_first z
          side false true z = pr.told_second z
          side false false z = absurd (none_some z)

      reach : q.call.0 ≤ s.last
      reach = within (leb_tells q.call.0 s.last)
        where
          within : ((leb q.call.0 s.last ≡ true) × (q.call.0 ≤ s.last)) ⊎ ((leb q.call.0 s.last ≡ false) × (s.last < q.call.0)) → q.call.0 ≤ s.last
          within (inl i) = i.1
          within (inr i) = let a = rising_above q.call.0 B.rising i.1 in let b = o.there in let z : ◌≡◌ {A = ℕ} 0 1 = cc in absurd (omega arith)

      blank : q.news ≡ Released → faces s q.call.0 ≡ None
      blank i = ap face o.there ∙ ap (λ l. face_if l o.from) (dead i)

      go : (n : News) → q.news ≡ n → NewsTrue (standing u (faces s) s.last) q.call.0 n
      go PutOnHold i = tt
      go Retrieved i = tt
      go Released i = ap (stands u s.last q.call.0) (blank i) ∙ stands_gone u s.last q.call.0 reach
