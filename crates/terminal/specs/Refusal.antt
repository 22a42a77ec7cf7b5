-- The fault that each refusal of a terminal is told as. Assumes nothing.
use Rattle.text.specs.Fault.{in_terminal}
use Rattle.text.specs.declared.fault.Fault.{Fault}
use Rattle.terminal.specs.declared.refusal.Refusal.{Refusal}
use Rattle.terminal.specs.declared.refusal.Refusal.TheVariants.{CallNotHeld, RequestOpen, Pointless, NoNewIdentifier, TableFull, NotForTerminals}

abbrev pub told : Refusal → Fault
told CallNotHeld = in_terminal 21
told RequestOpen = in_terminal 22
told Pointless = in_terminal 23
told NoNewIdentifier = in_terminal 24
told TableFull = in_terminal 25
told NotForTerminals = in_terminal 26
