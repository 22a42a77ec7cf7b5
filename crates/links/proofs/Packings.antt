-- Laws of frames that stand in bytes, for any packing that can be read back. Assumes nothing.
use Rattle.std.specs.Prelude.{◌≡◌, ℕ, zero, suc, ◌<◌, ◌≤◌, true, ◌&&◌, List, [], ◌∷◌, ◌++◌, length, nat_le, nat_lt, slice_index}
use Rattle.std.proofs.Common.{sym, refl, ap, ◌∙◌, append_assoc, append-nil, arith}
use Rattle.std.proofs.lemmas.List.{length-append}
use Rattle.std.proofs.lemmas.Bool.{and_parts, and_from, lt-ltb, le-leb}
use Rattle.links.specs.Lawful.{Lawful}
use Rattle.links.specs.Packing.{Packing, Begins, pack, unpack_in, unpack, costs, sound, sound_frame, octets}

pub all_octets : (f : List ℕ) → ((i : ℕ) → i < length f → slice_index f i < 256) → octets f ≡ true
all_octets [] h = refl
all_octets (b ∷ f) h = and_from (nat_lt b 256) (octets f) (lt-ltb b 256 (h 0 (omega arith))) (all_octets f (λ i lt. h (suc i) (omega arith)))

pub sound_from : (p : Packing) (f : List ℕ) → 0 < length f → length f ≤ p.longest → octets f ≡ true → sound_frame p f ≡ true
sound_from p f lo hi o = and_from (nat_lt 0 (length f) && nat_le (length f) p.longest) (octets f) (and_from (nat_lt 0 (length f)) (nat_le (length f) p.longest) (lt-ltb 0 (length f) lo) (le-leb (length f) p.longest hi)) o

module _ (p : Packing) (l : Lawful p) where
  step : (k : ℕ) (bs : List ℕ) → 0 < length bs → unpack_in p (suc k) bs ≡ p.first bs ∷ unpack_in p k (p.after bs)
  step k [] h = absurd (omega arith)
  step k (b ∷ bs) h = refl

  within : (k : ℕ) (w : List (List ℕ)) → sound p w ≡ true → length (pack p w) ≤ k → unpack_in p k (pack p w) ≡ w
  within zero [] s h = refl
  within zero (f ∷ w) s h = absurd (omega (arith, l.some f, length-append (p.written f) (pack p w)))
  within (suc k) [] s h = refl
  within (suc k) (f ∷ w) s h =
      let both = and_parts (sound_frame p f) (sound p w) s in
      step k (p.written f ++ pack p w) (omega (arith, l.some f, length-append (p.written f) (pack p w)))
      ∙ ap (λ x. x ∷ unpack_in p k (p.after (p.written f ++ pack p w))) (l.reads f (pack p w) both.0)
      ∙ ap (λ x. f ∷ unpack_in p k x) (l.goes_on f (pack p w) both.0)
      ∙ ap (λ x. f ∷ x) (within k w both.1 (omega (arith, l.some f, length-append (p.written f) (pack p w))))

  pub unpack_pack : (w : List (List ℕ)) → sound p w ≡ true → unpack p (pack p w) ≡ w
  unfolding unpack
  unpack_pack w s = within (length (pack p w)) w s (omega arith)

  pub unpack_none : unpack p [] ≡ []
  unfolding unpack
  unpack_none = refl

  pub costs_pack : (w : List (List ℕ)) → costs p w ≡ length (pack p w)
  costs_pack [] = refl
  costs_pack (f ∷ w) = omega (arith, costs_pack w, l.cost_written f, length-append (p.written f) (pack p w))

  pack_push : (w : List (List ℕ)) (f : List ℕ) → pack p (w ++ f ∷ []) ≡ pack p w ++ p.written f
  pack_push [] f = append-nil (p.written f)
  pack_push (x ∷ w) f = ap (λ y. p.written x ++ y) (pack_push w f) ∙ sym (append_assoc (p.written x) (pack p w) (p.written f))

  sound_push : (w : List (List ℕ)) (f : List ℕ) → sound p w ≡ true → sound_frame p f ≡ true → sound p (w ++ f ∷ []) ≡ true
  sound_push [] f s sf = and_from (sound_frame p f) true sf refl
  sound_push (x ∷ w) f s sf =
      let both = and_parts (sound_frame p x) (sound p w) s in
      and_from (sound_frame p x) (sound p (w ++ f ∷ [])) both.0 (sound_push w f both.1 sf)

  -- a frame put after those that stand in bytes
  module _ (old new f : List ℕ) (packed : pack p (unpack p old) ≡ old) (sounds : sound p (unpack p old) ≡ true) (sf : sound_frame p f ≡ true) (e : new ≡ old ++ p.written f) where
    put_bytes : new ≡ pack p (unpack p old ++ f ∷ [])
    put_bytes = e ∙ ap (λ x. x ++ p.written f) (sym packed) ∙ sym (pack_push (unpack p old) f)

    pub put_frames : unpack p new ≡ unpack p old ++ f ∷ []
    put_frames = ap (unpack p) put_bytes ∙ unpack_pack (unpack p old ++ f ∷ []) (sound_push (unpack p old) f sounds sf)

    pub put_packed : pack p (unpack p new) ≡ new
    put_packed = ap (pack p) put_frames ∙ sym put_bytes

    pub put_sound : sound p (unpack p new) ≡ true
    put_sound = ap (sound p) put_frames ∙ sound_push (unpack p old) f sounds sf

  -- the first of the frames that stand in bytes
  pub record Front (bs : List ℕ) : Type 0 where
    pub begins : Begins p bs
    pub frames : unpack p bs ≡ p.first bs ∷ unpack p (p.after bs)
    pub packed : pack p (unpack p (p.after bs)) ≡ p.after bs
    pub sounds : sound p (unpack p (p.after bs)) ≡ true

  pub front : (bs : List ℕ) → pack p (unpack p bs) ≡ bs → sound p (unpack p bs) ≡ true → 0 < length bs → Front bs
  front bs packed sounds some = go (unpack p bs) refl
    where
      go : (w : List (List ℕ)) → unpack p bs ≡ w → Front bs
      go [] e = absurd (omega (arith, ap length (sym packed ∙ ap (pack p) e)))
      go (f ∷ w) e =
          let both = and_parts (sound_frame p f) (sound p w) (sym (ap (sound p) e) ∙ sounds) in
          let whole : bs ≡ p.written f ++ pack p w = sym packed ∙ ap (pack p) e in
          let is_first : p.first bs ≡ f = ap p.first whole ∙ l.reads f (pack p w) both.0 in
          let is_after : p.after bs ≡ pack p w = ap p.after whole ∙ l.goes_on f (pack p w) both.0 in
          let rest : unpack p (p.after bs) ≡ w = ap (unpack p) is_after ∙ unpack_pack w both.1 in
          record {
            begins = record {
              whole = whole ∙ ap (λ x. p.written x ++ pack p w) (sym is_first) ∙ ap (λ x. p.written (p.first bs) ++ x) (sym is_after);
              sound_first = ap (sound_frame p) is_first ∙ both.0;
            };
            frames = e ∙ ap (λ x. x ∷ w) (sym is_first) ∙ ap (λ x. p.first bs ∷ x) (sym rest);
            packed = ap (pack p) rest ∙ sym is_after;
            sounds = ap (sound p) rest ∙ both.1;
          }
