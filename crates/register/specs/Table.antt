-- What is made of a table. Assumes nothing.
use Rattle.std.specs.Prelude.{List, Ok, Err, Result}
use Rattle.text.specs.declared.fault.Fault.{Fault}
use Rattle.text.specs.Fault.{after}
use Rattle.register.specs.Entries.{checks_table}
use Rattle.register.specs.declared.table.Entry.{Entry}
use Rattle.register.specs.declared.table.Table.{Table}

-- a table register as its entries
abbrev pub told_table : Result Table Fault → Result (List Entry) Fault
told_table (Ok t) = Ok t.entries.now
told_table (Err f) = Err f

-- what is made of entries
abbrev pub makes_table : List Entry → Result (List Entry) Fault
makes_table es = after (checks_table es) (λ _. Ok es)
