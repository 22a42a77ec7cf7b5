-- What the fault layer makes of a send and a take, by what is asked of the link below. Assumes nothing.
use Rattle.std.specs.Prelude.{◌≡◌, ℕ, ◌+◌, ◌/◌, ◌^◌, Bool, true, false, cond, List, Ok, Err, ◌==◌, bit_and}
use Rattle.links.specs.declared.faulty.Faulty.{Faulty}
use Rattle.text.specs.Fault.{in_link}
use Rattle.links.specs.Checks.{unfit}
use Rattle.links.specs.Meaning.{SendAnswer, TakeAnswer}

-- bit k of a pattern, 0 the lowest
abbrev pub bit : ℕ → ℕ → Bool
bit pattern k = bit_and (pattern / (2 ^ k)) 1 == 1

-- the count after send k: it starts over after 63
abbrev pub counted : ℕ → ℕ
counted k = cond (k == 63) 0 (k + 1)

module _ {X : Type 0} (sends : X → List ℕ → X → SendAnswer → Type 0) where
  -- two sends, of which the first is accepted; whatever the second is answered
  pub record Twice (a : X) (f : List ℕ) (b : X) : Type 0 where
    pub between : X
    pub first : sends a f between (Ok tt)
    pub answer : SendAnswer
    pub second : sends between f b answer

  -- a doubled send answers as its first copy, without a second if that is refused
  abbrev pub Doubled : X → List ℕ → X → SendAnswer → Type 0
  Doubled a f b (Ok u) = Twice a f b
  Doubled a f b (Err e) = sends a f b (Err e)

  -- what a send does to the link below, by whether it is lost and whether it is doubled
  abbrev pub Below : Bool → Bool → X → List ℕ → X → SendAnswer → Type 0
  Below true twice a f b r = (b ≡ a) × (r ≡ Ok tt)
  Below false true a f b r = Doubled a f b r
  Below false false a f b r = sends a f b r

  -- the patterns stay, and the send is counted
  pub record Counted {g : _} (a : Faulty X g) (f : List ℕ) (b : Faulty X g) (r : SendAnswer) : Type 0 where
    pub lost : b.lost ≡ a.lost
    pub doubled : b.doubled ≡ a.doubled
    pub count : b.count ≡ counted a.count
    pub below : Below (bit a.lost a.count) (bit a.doubled a.count) a.lower f b.lower r

  -- 41 comes before everything, and changes nothing
  abbrev pub FitOrNot : {g : _} → Bool → Faulty X g → List ℕ → Faulty X g → SendAnswer → Type 0
  FitOrNot true a f b r = (b ≡ a) × (r ≡ Err (in_link 41))
  FitOrNot false a f b r = Counted a f b r

  -- what a send does
  abbrev pub Faulted : {g : _} → ℕ → Faulty X g → List ℕ → Faulty X g → SendAnswer → Type 0
  Faulted longest a f b r = FitOrNot (unfit longest f) a f b r

-- a take is passed on, and counts nothing
pub record PassedOn {X : Type 0} {g : _} (takes : X → List ℕ → X → List ℕ → TakeAnswer → Type 0) (a : Faulty X g) (m : List ℕ) (b : Faulty X g) (n : List ℕ) (r : TakeAnswer) : Type 0 where
  pub lost : b.lost ≡ a.lost
  pub doubled : b.doubled ≡ a.doubled
  pub count : b.count ≡ a.count
  pub below : takes a.lower m b.lower n r
