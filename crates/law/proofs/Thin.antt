-- The frames that wait in a link, seen by what is read of them, and thinned. Assumes nothing.
use Rattle.std.proofs.Common.{◌≡◌, ℕ, ◌⊎◌, List, [], ◌∷◌, ◌++◌, take, replicate, Some, None, Ok, Err, Option, Result, sym, refl, subst, inl, inr}
use Rattle.frames.specs.Read.{reads}
use Rattle.frames.specs.declared.content.Frame.{Frame}
use Rattle.frames.proofs.Written.{reads_back}
use Rattle.links.specs.Meaning.{SendAnswer, Sent}
use Rattle.links.specs.Thinned.{Thinned}
use Rattle.links.specs.Thinned.Thinned.{none, next, stands}
use Rattle.signalling.specs.Carrying.{Pulling, pulled, Telling}
use Rattle.text.specs.Fault.{after}
use Rattle.text.specs.declared.fault.Fault.{Fault}
use Rattle.law.specs.Run.{Waiting, Sends, Takes}

-- what is read of a frame's bytes: its content, or a refusal
abbrev pub Content : Type 0
Content = Result Frame Fault

unfoldable pub said : List ℕ → Content
said bytes = reads bytes

-- P holds of each
pub data All (P : Content → Type 0) : Waiting → Type 0 where
  all_none : All P []
  all_more : {f : List ℕ} {W : Waiting} → P (said f) → All P W → All P (f ∷ W)

-- some of P first, and then only Q
pub data Then (P Q : Content → Type 0) : Waiting → Type 0 where
  now : {W : Waiting} → All Q W → Then P Q W
  before : {f : List ℕ} {W : Waiting} → P (said f) → Then P Q W → Then P Q (f ∷ W)

pub all_thin : {P : Content → Type 0} {W V : Waiting} → All P W → Thinned W V → All P V
all_thin a none = a
all_thin (all_more p a) (next t) = all_thin a t
all_thin (all_more p a) (stands t) = all_more p (all_thin (all_more p a) t)

pub then_thin : {P Q : Content → Type 0} {W V : Waiting} → Then P Q W → Thinned W V → Then P Q V
then_thin h none = h
then_thin (now a) (next t) = now (all_thin a (next t))
then_thin (now a) (stands t) = now (all_thin a (stands t))
then_thin (before p h) (next t) = then_thin h t
then_thin (before p h) (stands t) = before p (then_thin (before p h) t)

pub all_append : {P : Content → Type 0} {W : Waiting} (f : List ℕ) → All P W → P (said f) → All P (W ++ f ∷ [])
all_append f all_none p = all_more p all_none
all_append f (all_more q a) p = all_more q (all_append f a p)

pub then_append : {P Q : Content → Type 0} {W : Waiting} (f : List ℕ) → Then P Q W → Q (said f) → Then P Q (W ++ f ∷ [])
then_append f (now a) q = now (all_append f a q)
then_append f (before p h) q = before p (then_append f h q)

pub all_map : {P Q : Content → Type 0} {W : Waiting} → ((f : Content) → P f → Q f) → All P W → All Q W
all_map g all_none = all_none
all_map g (all_more {f = f} p a) = all_more (g (said f) p) (all_map g a)

pub then_map : {P Q P' Q' : Content → Type 0} {W : Waiting} → ((f : Content) → P f → P' f) → ((f : Content) → Q f → Q' f) → Then P Q W → Then P' Q' W
then_map g h (now a) = now (all_map h a)
then_map g h (before {f = f} p t) = before (g (said f) p) (then_map g h t)

-- all of P, and then only Q
pub then_turn : {P Q : Content → Type 0} {W : Waiting} → All P W → Then P Q W
then_turn all_none = now all_none
then_turn (all_more p a) = before p (then_turn a)

pub all_head : {P : Content → Type 0} {f : List ℕ} {W : Waiting} → All P (f ∷ W) → P (said f) × All P W
all_head (all_more p a) = (p, a)

pub then_head : {P Q : Content → Type 0} {f : List ℕ} {W : Waiting} → Then P Q (f ∷ W) → (P (said f) × Then P Q W) ⊎ (Q (said f) × All Q W)
then_head (now a) = inr (all_head a)
then_head (before p h) = inl (p, h)

leave_last : {W V : Waiting} (f : List ℕ) → Thinned W V → Thinned (W ++ f ∷ []) V
leave_last f none = next none
leave_last f (next t) = next (leave_last f t)
leave_last f (stands t) = stands (leave_last f t)

-- a frame with this content was sent or refused: what waits is what waited and then that frame, thinned
pub record Added (g : Frame) (old new : Waiting) : Type 0 where
  pub bytes : List ℕ
  pub reads_as : said bytes ≡ Ok g
  pub thinned : Thinned (old ++ bytes ∷ []) new

sent_thin : (longest : ℕ) (f : List ℕ) (old new : Waiting) (r : SendAnswer) → Sent longest f old new r → Thinned (old ++ f ∷ []) new
sent_thin longest f old new (Ok u) s = s.waits
sent_thin longest f old new (Err e) s = leave_last f s.waits

pub telling_added : {g : Frame} {old new : Waiting} {told : Option Fault} → Telling Sends g old new told → Added g old new
unfolding said
telling_added {g} {old} {new} t =
    let s = t.sending in
    record { bytes = s.bytes; reads_as = reads_back g s.bytes s.written; thinned = sent_thin s.sent.longest s.bytes old new t.answer s.sent.sent }

pub all_added : {P : Content → Type 0} {g : Frame} {old new : Waiting} → All P old → P (Ok g) → Added g old new → All P new
all_added {P} a p d = all_thin (all_append d.bytes a (subst P (sym d.reads_as) p)) d.thinned

pub then_added : {P Q : Content → Type 0} {g : Frame} {old new : Waiting} → Then P Q old → Q (Ok g) → Added g old new → Then P Q new
then_added {P} {Q} a p d = then_thin (then_append d.bytes a (subst Q (sym d.reads_as) p)) d.thinned

-- what was pulled: nothing; a frame that is read; or one that is not
pub data Pulls (old new : Waiting) : Result (Option Frame) Fault → Type 0 where
  pulls_none : Thinned old new → Pulls old new (Ok None)
  pulls_frame : {bytes : List ℕ} {f : Frame} → Thinned old (bytes ∷ new) → said bytes ≡ Ok f → Pulls old new (Ok (Some f))
  pulls_noise : {bytes : List ℕ} {e : Fault} → Thinned old (bytes ∷ new) → said bytes ≡ Err e → Pulls old new (Err e)

pub pulling_pulls : {old new : Waiting} {came : Result (Option Frame) Fault} → Pulling Takes old new came → Pulls old new came
unfolding said
pulling_pulls {old} {new} {came} p = subst (Pulls old new) (sym p.says) (go p.length p.took)
  where
    read : (n : ℕ) → Thinned old (take n p.mem ∷ new) → (r : Content) → said (take n p.mem) ≡ r → Pulls old new (after r (λ f. Ok (Some f)))
    read n t (Ok f) e = pulls_frame t e
    read n t (Err x) e = pulls_noise t e

    go : (l : Option ℕ) → Takes old (replicate 32 0) new p.mem (Ok l) → Pulls old new (pulled p.mem l)
    go None t = pulls_none t.taken.waits
    go (Some n) t = read n t.taken.waits (reads (take n p.mem)) refl
