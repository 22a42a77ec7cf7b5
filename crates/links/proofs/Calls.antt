-- The calls of a link over a queue in which frames are packed. Assumes nothing.
use Rattle.std.proofs.Common.{◌∷◌, ◌≡◌, ℕ, ◌<◌, true, false, List, [], ◌++◌, length, drop, Some, None, Ok, sym, refl, ap, ◌∙◌, arith, Fits}
use Rattle.std.specs.Prelude.{slice_index}
use Rattle.std.specs.Int.{w8}
use Rattle.std.proofs.lemmas.List.{nil_from_length}
use Rattle.links.specs.declared.queue.ByteQueue.{ByteQueue}
use Rattle.text.specs.Fault.{in_link, unless}
use Rattle.links.specs.Checks.{unfit, short}
use Rattle.links.specs.Lawful.{Lawful}
use Rattle.links.specs.Packing.{Packing, Packed, frames, costs, pack, unpack, sound, sound_frame}
use Rattle.links.specs.Queue.{held, Joined, Left}
use Rattle.links.specs.Store.{HandsOut, take_answer, first_length, put_first}
use Rattle.links.specs.Meanings.{fit_length}
use Rattle.links.proofs.Packings.{Front, sound_from, all_octets, costs_pack, unpack_none, put_frames, put_packed, put_sound, front}
use Rattle.links.proofs.Queues.{length_held}

module _ (p : Packing) (l : Lawful p) where
  pub none_waits : (q : ByteQueue) → held q ≡ [] → frames p q ≡ []
  none_waits q e = ap (unpack p) e ∙ unpack_none p l

  pub none_packed : (q : ByteQueue) → held q ≡ [] → Packed p q
  none_packed q e = record { whole = ap (pack p) (none_waits q e) ∙ sym e; framed = ap (sound p) (none_waits q e) }

  module _ (a : ByteQueue) (is : Packed p a) where
    pub costs_used : costs p (frames p a) ≡ a.used
    costs_used = costs_pack p l (frames p a) ∙ ap length is.whole ∙ length_held a

    -- after a frame is put
    module _ (f : List ℕ) (b : ByteQueue) (fit : unfit p.longest f ≡ false) (bytes : (i : ℕ) → Fits w8 (slice_index f i)) (put : Joined a b (p.written f)) where
      is_sound : sound_frame p f ≡ true
      is_sound = let both = fit_length p.longest f fit in sound_from p f both.0 both.1 (all_octets f (λ i _. omega (arith, bytes i)))

      pub put_is_packed : Packed p b
      put_is_packed = record {
        whole = put_packed p l (held a) (held b) f is.whole is.framed is_sound put.held;
        framed = put_sound p l (held a) (held b) f is.whole is.framed is_sound put.held;
      }

      pub put_waits : frames p b ≡ frames p a ++ f ∷ []
      put_waits = put_frames p l (held a) (held b) f is.whole is.framed is_sound put.held

    hands : (m : List ℕ) (w : List (List ℕ)) → short m ≡ false → frames p a ≡ w → Ok (first_length w) ≡ take_answer m (frames p a)
    hands m w long e = sym (ap (λ u. unless u (in_link 42) (Ok (first_length (frames p a)))) long ∙ ap (λ v. Ok (first_length v)) e)

    pub hands_nothing : (m : List ℕ) → short m ≡ false → a.used ≡ 0 → HandsOut p a m a m (Ok None)
    hands_nothing m long e = record {
      answer = hands m [] long (none_waits a (nil_from_length (held a) (length_held a ∙ e)));
      waits = refl;
      out = refl;
      memory = record { size = refl; long = refl };
      kept = refl;
    }

    -- the first frame, where there is one
    module _ (some : 0 < a.used) where
      pub first_frame : Front p l (held a)
      first_frame = front p l (held a) is.whole is.framed (omega (arith, length_held a))

      -- after it is taken out
      module _ (b : ByteQueue) (got : Left a b (p.written (p.first (held a)))) where
        rest : held b ≡ p.after (held a)
        rest = sym (ap p.after got.held ∙ l.goes_on (p.first (held a)) (held b) first_frame.begins.sound_first)

        pub get_is_packed : Packed p b
        get_is_packed = record {
          whole = ap (λ x. pack p (unpack p x)) rest ∙ first_frame.packed ∙ sym rest;
          framed = ap (λ x. sound p (unpack p x)) rest ∙ first_frame.sounds;
        }

        pub hands_out : (m n : List ℕ) (k : ℕ) → short m ≡ false → k ≡ length (p.first (held a)) → n ≡ p.first (held a) ++ drop k m → HandsOut p a m b n (Ok (Some k))
        hands_out m n k long count out =
            let were = first_frame.frames in
            record {
              answer = ap (λ i. Ok (Some i)) count ∙ hands m _ long were;
              waits = sym (ap (drop 1) were ∙ ap (unpack p) (sym rest));
              out = out ∙ sym (ap (λ w. put_first w m) were ∙ ap (λ i. p.first (held a) ++ drop i m) (sym count));
              memory = got.memory;
              kept = tt;
            }
