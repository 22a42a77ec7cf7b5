-- The next notice is the best where identifiers rise. Assumes nothing.
use Rattle.std.proofs.Common.{◌≡◌, ℕ, ◌<◌, ◌≤◌, Bool, true, false, cond, eqb, ltb, ◌⊎◌, List, [], ◌∷◌, Some, None, Option, sym, refl, ap, ◌∙◌, subst, inl, inr, arith, ltb-false, ltb-true, eq-eqb, ne_eqb, eqb-true}
use Rattle.frames.specs.declared.content.News.{News}
use Rattle.records.specs.Changes.{find}
use Rattle.records.specs.Notices.{Best, GoesBefore, Has, better, news_for, news_in, next_notice, notice_of, rank}
use Rattle.records.specs.Questions.{rising, rising_from}
use Rattle.records.specs.declared.legs.Record.{Record}
use Rattle.records.specs.declared.notices.Notice.{Notice}
use Rattle.records.proofs.Tables.{rise_first, rise_rest}

-- news of a call is the first record's, or it is of the rest and the call is above the first
here : (u : ℕ) (r : Record) (rs : List Record) (n : News) → news_for u r ≡ Some n → Has u (r ∷ rs) r.id.0 n
unfolding find
here u r rs n e = ap (λ (b : Bool). news_in u (cond b (Some r) (find r.id.0 rs))) (eq-eqb _ _ refl) ∙ e

above : (u k last : ℕ) (rs : List Record) (c : ℕ) (n : News) → rising_from k last rs ≡ true → Has u rs c n → k < c
unfolding find
above u k last [] c n h e = let z : ◌≡◌ {A = ℕ} 0 1 = cc in absurd (omega arith)
above u k last (r ∷ rs) c n h e = go (eqb r.id.0 c) refl e (above u r.id.0 last rs c n (rise_rest k last r rs h))
  where
    go : (b : Bool) → eqb r.id.0 c ≡ b → news_in u (cond b (Some r) (find c rs)) ≡ Some n → (Has u rs c n → r.id.0 < c) → k < c
    go true t e ih = omega (arith, rise_first k last r rs h, eqb-true _ _ t)
    go false t e ih = omega (arith, rise_first k last r rs h, ih e)

there : (u k last : ℕ) (r : Record) (rs : List Record) (c : ℕ) (n : News) → rising_from k last (r ∷ rs) ≡ true → Has u rs c n → Has u (r ∷ rs) c n
unfolding find
there u k last r rs c n h e =
    ap (λ (b : Bool). news_in u (cond b (Some r) (find c rs))) (ne_eqb _ _ (λ s. omega (arith, s, above u r.id.0 last rs c n (rise_rest k last r rs h) e)))
    ∙ e

split : (u k last : ℕ) (r : Record) (rs : List Record) (c : ℕ) (n : News) → rising_from k last (r ∷ rs) ≡ true → Has u (r ∷ rs) c n → ((r.id.0 ≡ c) × (news_for u r ≡ Some n)) ⊎ ((r.id.0 < c) × Has u rs c n)
unfolding find
split u k last r rs c n h e = go (eqb r.id.0 c) refl e
  where
    go : (b : Bool) → eqb r.id.0 c ≡ b → news_in u (cond b (Some r) (find c rs)) ≡ Some n → ((r.id.0 ≡ c) × (news_for u r ≡ Some n)) ⊎ ((r.id.0 < c) × Has u rs c n)
    go true t e = inl (eqb-true _ _ t, e)
    go false t e = inr (above u r.id.0 last rs c n (rise_rest k last r rs h) e, e)

best_more : (u k last : ℕ) (r : Record) (rs : List Record) (o : Option News) (p : Option Notice) → rising_from k last (r ∷ rs) ≡ true → news_for u r ≡ o → Best u rs p → Best u (r ∷ rs) (better (notice_of r.id o) p)
best_more u k last r rs None None h own ih = λ c n e. elim (split u k last r rs c n h e) [ inl s ↦ (let z : ◌≡◌ {A = ℕ} 0 1 = cc (own, s.1) in absurd (omega arith)) | inr s ↦ ih c n s.1 ]
best_more u k last r rs None (Some q) h own ih =
    (there u k last r rs q.call.0 q.news h ih.0, λ c n e. elim (split u k last r rs c n h e) [ inl s ↦ (let z : ◌≡◌ {A = ℕ} 0 1 = cc (own, s.1) in absurd (omega arith)) | inr s ↦ ih.1 c n s.1 ])
best_more u k last r rs (Some m) None h own ih =
    (here u r rs m own, λ c n e. elim (split u k last r rs c n h e) [ inl s ↦ (let z : n ≡ m = cc (own, s.1) in inr (ap rank z, omega (arith, s.0))) | inr s ↦ absurd (ih c n s.1) ])
best_more u k last r rs (Some m) (Some q) h own ih = go (ltb (rank m) (rank q.news)) refl
  where
    go : (b : Bool) → ltb (rank m) (rank q.news) ≡ b → Best u (r ∷ rs) (Some (cond b q (record { call = r.id; news = m })))
    go true t =
        (there u k last r rs q.call.0 q.news h ih.0, λ c n e. elim (split u k last r rs c n h e) [ inl s ↦ (let z : n ≡ m = cc (own, s.1) in inl (omega (arith, ap rank z, ltb-true _ _ t))) | inr s ↦ ih.1 c n s.1 ])
    go false t = (here u r rs m own, λ c n e. elim (split u k last r rs c n h e) [ inl s ↦ (let z : n ≡ m = cc (own, s.1) in inr (ap rank z, omega (arith, s.0))) | inr s ↦ weigh c n s.0 (ih.1 c n s.1) (ltb (rank n) (rank m)) refl ])
      where
        weigh : (c : ℕ) (n : News) → r.id.0 < c → GoesBefore q c n → (b : Bool) → ltb (rank n) (rank m) ≡ b → (rank n < rank m) ⊎ ((rank n ≡ rank m) × (r.id.0 ≤ c))
        weigh c n lt w true s = inl (ltb-true _ _ s)
        weigh c n lt (inl w) false s = absurd (omega (arith, w, ltb-false _ _ s, ltb-false _ _ t))
        weigh c n lt (inr w) false s = inr (omega (arith, w.0, ltb-false _ _ s, ltb-false _ _ t), omega (arith, lt))

best_from : (u k last : ℕ) (rs : List Record) → rising_from k last rs ≡ true → Best u rs (next_notice u rs)
unfolding find next_notice
best_from u k last [] h = λ c n e. let z : ◌≡◌ {A = ℕ} 0 1 = cc in absurd (omega arith)
best_from u k last (r ∷ rs) h = best_more u k last r rs (news_for u r) (next_notice u rs) h refl (best_from u r.id.0 last rs (rise_rest k last r rs h))

pub best : (u : ℕ) (rs : List Record) (o : Option Notice) → o ≡ next_notice u rs → (last : ℕ) → rising last rs ≡ true → Best u rs o
best u rs o e last h = subst (Best u rs) (sym e) (best_from u 0 last rs h)
