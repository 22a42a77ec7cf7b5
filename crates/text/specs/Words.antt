-- Layers and faults in words. Assumes nothing.
use Rattle.std.specs.Prelude.{ℕ, List, ◌++◌, Some, None, codes, decimal, Option}
use Rattle.text.specs.declared.fault.Fault.{Fault}
use Rattle.text.specs.declared.fault.Layer.{Layer}
use Rattle.text.specs.declared.fault.Layer.TheVariants.{Line, Frame, Link, Terminal, Switch, Making}

abbrev pub layer_word : Layer → List ℕ
layer_word Line = codes "line"
layer_word Frame = codes "frame"
layer_word Link = codes "link"
layer_word Terminal = codes "terminal"
layer_word Switch = codes "switch"
layer_word Making = codes "making"

-- `NUMBER LAYER PLACE`, without a place where the fault has none
abbrev pub placed : ℕ → List ℕ → Option ℕ → List ℕ
placed n l (Some p) = decimal n ++ (codes " " ++ (l ++ (codes " " ++ decimal p)))
placed n l None = decimal n ++ (codes " " ++ l)

abbrev pub fault_words : Fault → List ℕ
fault_words f = placed f.number (layer_word f.layer) f.place
