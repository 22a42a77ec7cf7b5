-- A refusal by its number, its layer and its place. Assumes nothing.
use Rattle.std.specs.Prelude.{ℕ, Bool, true, false, Some, None, Ok, Err, Option, Result}
use Rattle.text.specs.declared.fault.Fault.{Fault}
use Rattle.text.specs.declared.fault.Layer.{Layer}
use Rattle.text.specs.declared.fault.Layer.TheVariants.{Line, Frame, Link, Terminal, Switch, Making}

-- the refusal of a layer by its number, at a place or at none
abbrev pub of_layer : Layer → ℕ → Option ℕ → Fault
of_layer l n p = record { number = n; layer = l; place = p }

abbrev pub in_line : ℕ → ℕ → Fault
in_line n p = of_layer Line n (Some p)

abbrev pub in_frame : ℕ → ℕ → Fault
in_frame n p = of_layer Frame n (Some p)

abbrev pub in_link : ℕ → Fault
in_link n = of_layer Link n None

abbrev pub in_terminal : ℕ → Fault
in_terminal n = of_layer Terminal n None

abbrev pub in_switch : ℕ → Fault
in_switch n = of_layer Switch n None

abbrev pub in_making : ℕ → Fault
in_making n = of_layer Making n None

-- a check: it passes, or the refusal stands
abbrev pub unless : {X : Type 0} → Bool → Fault → Result X Fault → Result X Fault
unless true f r = Err f
unless false f r = r

-- what comes after a check that may have failed
abbrev pub after : {X Y : Type 0} → Result X Fault → (X → Result Y Fault) → Result Y Fault
after (Ok x) k = k x
after (Err f) k = Err f
