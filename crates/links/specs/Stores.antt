-- A link that loses nothing does what a link may do. Assumes nothing.
use Rattle.std.specs.Prelude.{◌≡◌, ℕ, ◌-◌, Bool, true, false, cond, List, [], ◌∷◌, ◌++◌, length, drop, Some, None, Ok, Err, nat_lt, refl}
use Rattle.std.proofs.Common.{sym, ap, ◌∙◌, arith}
use Rattle.std.proofs.lemmas.Bool.{and_parts}
use Rattle.links.specs.declared.queue.ByteQueue.{ByteQueue}
use Rattle.text.specs.Fault.{in_link, unless}
use Rattle.links.specs.Checks.{unfit, short}
use Rattle.links.specs.Meaning.{Sent, Taken, SendAnswer, TakeAnswer}
use Rattle.links.specs.Packing.{Packing, frames, costs, sound, sound_frame}
use Rattle.links.specs.Store.{Stores, HandsOut, after_send, after_take, memory_after, first_length}
use Rattle.links.specs.Meanings.{refused_fit, handed_out}
use Rattle.links.specs.SoundFrames.{low, high}
use Rattle.links.specs.Thin.{equal}

send_meant : (u full : Bool) (longest : ℕ) (f : List ℕ) (old new : List (List ℕ)) (r : SendAnswer) → unfit longest f ≡ u → r ≡ unless u (in_link 41) (unless full (in_link 43) (Ok tt)) → new ≡ after_send r old f → Sent longest f old new r
send_meant true full longest f old new (Ok x) h e w = let z : ◌≡◌ {A = ℕ} 0 1 = cc in absurd (omega arith)
send_meant true full longest f old new (Err x) h e w = record { fault = cc (ap (λ b. cond b (in_link 41) (in_link 43)) h); waits = equal old new (sym w) }
send_meant false true longest f old new (Ok x) h e w = let z : ◌≡◌ {A = ℕ} 0 1 = cc in absurd (omega arith)
send_meant false true longest f old new (Err x) h e w = refused_fit longest f old new x h (cc) (equal old new (sym w))
send_meant false false longest f old new (Ok x) h e w = record { fit = h; waits = equal (old ++ f ∷ []) new (sym w) }
send_meant false false longest f old new (Err x) h e w = let z : ◌≡◌ {A = ℕ} 0 1 = cc in absurd (omega arith)

pub stores_sent : (p : Packing) (a : ByteQueue) (f : List ℕ) (b : ByteQueue) (r : SendAnswer) → Stores p a f b r → Sent p.longest f (frames p a) (frames p b) r
stores_sent p a f b r s = send_meant (unfit p.longest f) (nat_lt (a.size - costs p (frames p a)) (p.cost f)) p.longest f (frames p a) (frames p b) r refl s.answer s.waits

module _ (longest : ℕ) (m n : List ℕ) (new : List (List ℕ)) where
  take_meant : (s : Bool) (p : Packing) (w : List (List ℕ)) (r : TakeAnswer) → p.longest ≡ longest → sound p w ≡ true → short m ≡ s → r ≡ unless s (in_link 42) (Ok (first_length w)) → new ≡ after_take r w → n ≡ memory_after r w m → Taken longest m n w new r
  take_meant true p w (Ok x) l sd h e en em = let z : ◌≡◌ {A = ℕ} 0 1 = cc in absurd (omega arith)
  take_meant true p w (Err x) l sd h e en em = record { short = h; fault = cc; untouched = em; waits = en }
  take_meant false p w (Err x) l sd h e en em = let z : ◌≡◌ {A = ℕ} 0 1 = cc in absurd (omega arith)
  take_meant false p [] (Ok (Some k)) l sd h e en em = let z : ◌≡◌ {A = ℕ} 0 1 = cc in absurd (omega arith)
  take_meant false p [] (Ok None) l sd h e en em = record { long = h; untouched = em; waits = equal [] new (sym en) }
  take_meant false p (f ∷ w) (Ok None) l sd h e en em = let z : ◌≡◌ {A = ℕ} 0 1 = cc in absurd (omega arith)
  take_meant false p (f ∷ w) (Ok (Some k)) l sd h e en em =
      let sf = (and_parts (sound_frame p f) (sound p w) sd).0 in
      let hi = high p f sf in
      let count : k ≡ length f = cc in
      handed_out longest m n f (f ∷ w) new k h (low p f sf) (omega arith) count (em ∙ ap (λ i. f ++ drop i m) (sym count)) (equal (f ∷ w) (f ∷ new) (ap (λ x. f ∷ x) (sym en)))

pub hands_taken : (p : Packing) (a : ByteQueue) (m : List ℕ) (b : ByteQueue) (n : List ℕ) (r : TakeAnswer) → sound p (frames p a) ≡ true → HandsOut p a m b n r → Taken p.longest m n (frames p a) (frames p b) r
hands_taken p a m b n r sd h = take_meant p.longest m n (frames p b) (short m) p (frames p a) r refl sd refl h.answer h.waits h.out
