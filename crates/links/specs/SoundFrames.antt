-- What sound frames are, for any packing. Assumes nothing.
use Rattle.std.specs.Prelude.{◌≡◌, ℕ, ◌<◌, ◌≤◌, true, ◌&&◌, List, [], ◌∷◌, length, nat_le, nat_lt}
use Rattle.std.proofs.Common.{arith}
use Rattle.std.proofs.lemmas.Bool.{and_parts, ltb-true, leb-true}
use Rattle.links.specs.Meaning.{Framed}
use Rattle.links.specs.Packing.{Packing, sound, sound_frame, octets}

-- what a sound frame is
module _ (p : Packing) (f : List ℕ) (s : sound_frame p f ≡ true) where
  range : (nat_lt 0 (length f) && nat_le (length f) p.longest) ≡ true
  range = (and_parts (nat_lt 0 (length f) && nat_le (length f) p.longest) (octets f) s).0

  pub low : 0 < length f
  low = ltb-true 0 (length f) (and_parts (nat_lt 0 (length f)) (nat_le (length f) p.longest) range).0

  pub high : length f ≤ p.longest
  high = leb-true (length f) p.longest (and_parts (nat_lt 0 (length f)) (nat_le (length f) p.longest) range).1

  pub bytes : octets f ≡ true
  bytes = (and_parts (nat_lt 0 (length f) && nat_le (length f) p.longest) (octets f) s).1

pub framed : (p : Packing) (w : List (List ℕ)) → p.longest ≤ 32 → sound p w ≡ true → Framed w
framed p [] h s = tt
framed p (f ∷ w) h s =
    let both = and_parts (sound_frame p f) (sound p w) s in
    let hi = high p f both.0 in
    (low p f both.0, omega arith, framed p w h both.1)
