-- What the steps over the bytes of an input are for whole inputs. Assumes nothing.
use Rattle.std.proofs.Common.{◌≡◌, ℕ, ◌+◌, ◌<◌, min, true, false, cond, not, eqb, ltb, List, [], ◌∷◌, ◌++◌, length, take, Err, codes, Result, sym, refl, ap, ◌∙◌, subst, ⊎_elim, append_assoc, append-nil, arith, length-append, length-take}
use Rattle.std.proofs.lemmas.List.{take_all, take-append-le, length_push}
use Rattle.std.proofs.lemmas.Bool.{cond-true, cond-false, cases_lt, lt-ltb, le-ltb, eqb-true, and_from, and_parts, not_from_false}
use Rattle.text.specs.declared.buffer.Buffer.{Buffer}
use Rattle.text.specs.declared.fault.Fault.{Fault}
use Rattle.text.specs.Octets.{held}
use Rattle.text.proofs.Filling.{held_length}
use Rattle.text.specs.Fault.{in_line}
use Rattle.frames.specs.Read.{reads}
use Rattle.text.specs.Fault.{after}
use Rattle.text.specs.Text.{reads_text}
use Rattle.frames.specs.Write.{writes}
use Rattle.lister.specs.declared.lines.Lister.{Lister}
use Rattle.lister.specs.Kept.{with_byte}
use Rattle.lister.specs.Lines.{lines_from, rest_from, lines, rest, unbroken, each_unbroken, with_ends, Splits, last_line, most, printed, listings}
use Rattle.lister.specs.Listing.{listing, outcome}
use Rattle.lister.specs.Steps.{Progress, progress, ended, fed, finished, Feeds, Finishes}

-- one line after another

lines_append : (part xs ys : List ℕ) → lines_from part (xs ++ ys) ≡ lines_from part xs ++ lines_from (rest_from part xs) ys
lines_append part [] ys = refl
lines_append part (b ∷ bs) ys =
    elim (eqb b 10) as (λ t. cond t (part ∷ lines_from [] (bs ++ ys)) (lines_from (part ++ b ∷ []) (bs ++ ys)) ≡ cond t (part ∷ lines_from [] bs) (lines_from (part ++ b ∷ []) bs) ++ lines_from (cond t (rest_from [] bs) (rest_from (part ++ b ∷ []) bs)) ys)
    [ true ↦ ap (λ l. part ∷ l) (lines_append [] bs ys) | false ↦ lines_append (part ++ b ∷ []) bs ys ]

rest_append : (part xs ys : List ℕ) → rest_from part (xs ++ ys) ≡ rest_from (rest_from part xs) ys
rest_append part [] ys = refl
rest_append part (b ∷ bs) ys =
    elim (eqb b 10) as (λ t. cond t (rest_from [] (bs ++ ys)) (rest_from (part ++ b ∷ []) (bs ++ ys)) ≡ rest_from (cond t (rest_from [] bs) (rest_from (part ++ b ∷ []) bs)) ys)
    [ true ↦ rest_append [] bs ys | false ↦ rest_append (part ++ b ∷ []) bs ys ]

listings_append : (n : ℕ) (ls ms : List (List ℕ)) → listings n (ls ++ ms) ≡ listings n ls ++ listings (n + length ls) ms
listings_append n [] ms = ap (λ k. listings k ms) (omega arith)
listings_append n (l ∷ ls) ms =
    ap (λ t. printed n l ++ t) (listings_append (n + 1) ls ms ∙ ap (λ k. listings (n + 1) ls ++ listings k ms) (omega arith))
    ∙ sym (append_assoc (printed n l) (listings (n + 1) ls) (listings (n + length (l ∷ ls)) ms))

-- the lines and the rest of an input are its parts

ends_whole : (part bs : List ℕ) → with_ends (lines_from part bs) ++ rest_from part bs ≡ part ++ bs
ends_whole part [] = sym (append-nil part)
ends_whole part (b ∷ bs) =
    elim (eqb b 10) as (λ t. eqb b 10 ≡ t → with_ends (cond t (part ∷ lines_from [] bs) (lines_from (part ++ b ∷ []) bs)) ++ cond t (rest_from [] bs) (rest_from (part ++ b ∷ []) bs) ≡ part ++ b ∷ bs) [
      | true ↦ λ e.
          append_assoc part (10 ∷ with_ends (lines_from [] bs)) (rest_from [] bs)
          ∙ ap (λ l. part ++ (10 ∷ l)) (ends_whole [] bs)
          ∙ ap (λ k. part ++ (k ∷ bs)) (sym (eqb-true b 10 e))
      | false ↦ λ e. ends_whole (part ++ b ∷ []) bs ∙ append_assoc part (b ∷ []) bs
    ]
    refl

unbroken_push : (part : List ℕ) (b : ℕ) → unbroken part ≡ true → eqb b 10 ≡ false → unbroken (part ++ b ∷ []) ≡ true
unbroken_push [] b u e = and_from (not (eqb b 10)) true (not_from_false (eqb b 10) e) refl
unbroken_push (a ∷ ds) b u e =
    let parts = and_parts (not (eqb a 10)) (unbroken ds) u in
    and_from (not (eqb a 10)) (unbroken (ds ++ b ∷ [])) parts.0 (unbroken_push ds b parts.1 e)

parts_unbroken : (part bs : List ℕ) → unbroken part ≡ true → (each_unbroken (lines_from part bs) ≡ true) × (unbroken (rest_from part bs) ≡ true)
parts_unbroken part [] u = (refl, u)
parts_unbroken part (b ∷ bs) u =
    elim (eqb b 10) as (λ t. eqb b 10 ≡ t → (each_unbroken (cond t (part ∷ lines_from [] bs) (lines_from (part ++ b ∷ []) bs)) ≡ true) × (unbroken (cond t (rest_from [] bs) (rest_from (part ++ b ∷ []) bs)) ≡ true)) [
      | true ↦ λ e.
          let more = parts_unbroken [] bs refl in
          (and_from (unbroken part) (each_unbroken (lines_from [] bs)) u more.0, more.1)
      | false ↦ λ e. parts_unbroken (part ++ b ∷ []) bs (unbroken_push part b u e)
    ]
    refl

splits : (input : List ℕ) → Splits input (lines input) (rest input)
splits input =
    let u = parts_unbroken [] input refl in
    record { whole = ends_whole [] input; each = u.0; last = u.1 }

-- the first 65 bytes of a line tell as much as the line

too_long : (line : List ℕ) → 64 < length line → reads_text line ≡ Err (in_line 1 64)
too_long line h = rw (lt-ltb 64 (length line) h)

front_tells : (n : ℕ) (line : List ℕ) → listing n (take 65 line) ≡ listing n line
front_tells n line =
    ⊎_elim
    (λ h. ap (λ (r : Result (List ℕ) Fault). outcome n (after r (λ bs. after (reads bs) writes))) (too_long (take 65 line) (omega (arith, length-take 65 line)) ∙ sym (too_long line h)))
    (λ h. ap (listing n) (take_all 65 line (omega arith)))
    (cases_lt 64 (length line))

-- one more byte of a line
one_more_byte : (part : List ℕ) (b : ℕ) → with_byte (take 65 part) b ≡ take 65 (part ++ b ∷ [])
one_more_byte part b =
    ⊎_elim
    (λ h.
    ap (λ l. with_byte l b) (take_all 65 part (omega arith))
    ∙ cond-true (ltb (length part) 65) (part ++ b ∷ []) part (lt-ltb (length part) 65 h)
    ∙ sym (take_all 65 (part ++ b ∷ []) (omega (arith, length_push part b))))
    (λ h.
    cond-false (ltb (length (take 65 part)) 65) (take 65 part ++ b ∷ []) (take 65 part) (le-ltb (length (take 65 part)) 65 (omega (arith, length-take 65 part)))
    ∙ sym (take-append-le 65 part (b ∷ []) h))
    (cases_lt (length part) 65)

-- what a buffer of 65 bytes keeps
pub kept_byte : (k : Buffer 65) (b : ℕ) → take 65 (held k ++ b ∷ []) ≡ with_byte (held k) b
kept_byte k b = sym (one_more_byte (held k) b) ∙ ap (λ l. with_byte l b) (take_all 65 (held k) (omega (arith, held_length k, k.fits)))

-- from a progress to one after these lines and this rest
pub record Goes (p q : Progress) (n : ℕ) (ls : List (List ℕ)) (left : List ℕ) : Type 0 where
  pub count : q.count ≡ min most (n + length ls)
  pub part : q.part ≡ take 65 left
  pub text : q.text ≡ p.text ++ listings n ls

-- a line ends
line_ends : (p : Progress) (n : ℕ) (line : List ℕ) → p.count ≡ min most n → p.part ≡ take 65 line → Goes p (ended p) n (line ∷ []) []
line_ends p n line ec ep =
    let told : Progress = record { count = p.count + 1; part = []; text = p.text ++ (listing (p.count + 1) p.part ++ codes "\n") } in
    let quiet : Progress = record { count = p.count; part = []; text = p.text } in
    ⊎_elim
    (λ h.
    let ce : p.count ≡ n = omega arith in
    let e : ended p ≡ told = cond-true (ltb p.count most) told quiet (lt-ltb p.count most (omega arith)) in
    record {
      count = ap (λ (q : Progress). q.count) e ∙ omega arith;
      part = ap (λ (q : Progress). q.part) e;
      text =
          ap (λ (q : Progress). q.text) e
          ∙ ap (λ t. p.text ++ (t ++ codes "\n")) (ap (λ m. listing (m + 1) p.part) ce ∙ ap (listing (n + 1)) ep ∙ front_tells (n + 1) line)
          ∙ ap (λ t. p.text ++ t) (sym (append-nil _ ∙ cond-true (ltb n most) (listing (n + 1) line ++ codes "\n") [] (lt-ltb n most h)));
    })
    (λ h.
    let e : ended p ≡ quiet = cond-false (ltb p.count most) told quiet (le-ltb p.count most (omega arith)) in
    record {
      count = ap (λ (q : Progress). q.count) e ∙ omega arith;
      part = ap (λ (q : Progress). q.part) e;
      text =
          ap (λ (q : Progress). q.text) e
          ∙ sym (append-nil p.text)
          ∙ ap (λ t. p.text ++ t) (sym (append-nil _ ∙ cond-false (ltb n most) (listing (n + 1) line ++ codes "\n") [] (le-ltb n most h)));
    })
    (cases_lt n most)

then_goes : (p q r : Progress) (n : ℕ) (ls ms : List (List ℕ)) (left more : List ℕ) → Goes p q n ls left → Goes q r (n + length ls) ms more → Goes p r n (ls ++ ms) more
then_goes p q r n ls ms left more g h = record {
  count = h.count ∙ ap (min most) (omega (arith, length-append ls ms));
  part = h.part;
  text =
      h.text
      ∙ ap (λ t. t ++ listings (n + length ls) ms) g.text
      ∙ append_assoc p.text (listings n ls) (listings (n + length ls) ms)
      ∙ ap (λ t. p.text ++ t) (sym (listings_append n ls ms));
}

pub goes : (bs : List ℕ) (p : Progress) (n : ℕ) (part : List ℕ) → p.count ≡ min most n → p.part ≡ take 65 part → Goes p (fed p bs) n (lines_from part bs) (rest_from part bs)
goes [] p n part ec ep = record { count = ec ∙ ap (min most) (omega arith); part = ep; text = sym (append-nil p.text) }
goes (b ∷ bs) p n part ec ep =
    let kept : Progress = record { count = p.count; part = with_byte p.part b; text = p.text } in
    elim (eqb b 10) as (λ t. Goes p (fed (cond t (ended p) kept) bs) n (cond t (part ∷ lines_from [] bs) (lines_from (part ++ b ∷ []) bs)) (cond t (rest_from [] bs) (rest_from (part ++ b ∷ []) bs))) [
      | true ↦
          let first = line_ends p n part ec ep in
          then_goes p (ended p) (fed (ended p) bs) n (part ∷ []) (lines_from [] bs) [] (rest_from [] bs) first
          (goes bs (ended p) (n + length (part ∷ [])) [] first.count first.part)
      | false ↦
          let g = goes bs kept n (part ++ b ∷ []) ec (ap (λ l. with_byte l b) ep ∙ one_more_byte part b) in
          record { count = g.count; part = g.part; text = g.text }
    ]

-- bytes come after an input
pub feeds : (s s' : Lister) (chunk out out' : List ℕ) → progress s' out' ≡ fed (progress s out) chunk → Feeds s s' chunk out out'
feeds s s' chunk out out' e before st =
    let n = length (lines before) in
    let more = lines_from (rest before) chunk in
    let all = lines_append [] before chunk in
    let g = goes chunk (progress s out) n (rest before) st.tells st.keeps in (
      record {
        tells = ap (λ (q : Progress). q.count) e ∙ g.count ∙ ap (min most) (sym (ap length all ∙ length-append (lines before) more));
        keeps = ap (λ (q : Progress). q.part) e ∙ g.part ∙ ap (take 65) (sym (rest_append [] before chunk));
      },
      record {
        added = listings n more;
        appended = ap (λ (q : Progress). q.text) e ∙ g.text;
        whole = sym (ap (listings 0) all ∙ listings_append 0 (lines before) more ∙ ap (λ k. listings 0 (lines before) ++ listings k more) (omega arith));
      },
    )

-- an input ends
ends : (left : List ℕ) (p : Progress) (n : ℕ) → p.count ≡ min most n → p.part ≡ take 65 left → Goes p (finished p) n (last_line left) []
ends [] p n ec ep =
    let e : finished p ≡ p = cond-false (ltb 0 (length p.part)) (ended p) p (le-ltb 0 (length p.part) (omega (arith, ap length ep))) in
    subst (λ (q : Progress). Goes p q n [] []) (sym e) (record { count = ec ∙ ap (min most) (omega arith); part = ep; text = sym (append-nil p.text) })
ends (b ∷ bs) p n ec ep =
    let e : finished p ≡ ended p = cond-true (ltb 0 (length p.part)) (ended p) p (lt-ltb 0 (length p.part) (omega (arith, ap length ep, length-take 65 (b ∷ bs)))) in
    subst (λ (q : Progress). Goes p q n ((b ∷ bs) ∷ []) []) (sym e) (line_ends p n (b ∷ bs) ec ep)

pub finishes : (s s' : Lister) (out out' : List ℕ) → progress s' out' ≡ finished (progress s out) → Finishes s s' out out'
finishes s s' out out' e input st =
    let n = length (lines input) in
    let last = last_line (rest input) in
    let g = ends (rest input) (progress s out) n st.tells st.keeps in (
      splits input,
      ap (λ (q : Progress). q.count) e ∙ g.count ∙ ap (min most) (sym (length-append (lines input) last)),
      record {
        added = listings n last;
        appended = ap (λ (q : Progress). q.text) e ∙ g.text;
        whole = sym (listings_append 0 (lines input) last ∙ ap (λ k. listings 0 (lines input) ++ listings k last) (omega arith));
      },
    )
