-- Checks that passed. Assumes nothing.
use Rattle.std.proofs.Common.{◌≡◌, Bool, true, false, Ok, Err, Result, refl}
use Rattle.text.specs.declared.fault.Fault.{Fault}
use Rattle.text.specs.Fault.{after, unless}

-- where something comes of it, the check did not fail
pub passed : {X : Type 0} (b : Bool) (f : Fault) (r : Result X Fault) (x : X) → unless b f r ≡ Ok x → (b ≡ false) × (r ≡ Ok x)
passed true f r x e = cc
passed false f r x e = (refl, e)

pub came : {X Y : Type 0} (r : Result X Fault) (k : X → Result Y Fault) (y : Y) → after r k ≡ Ok y → (x : X) × (r ≡ Ok x) × (k x ≡ Ok y)
came (Ok x) k y e = (x, refl, e)
came (Err f) k y e = cc
