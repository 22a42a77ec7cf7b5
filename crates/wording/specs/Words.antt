-- Operations, verdicts and faults beside an outcome, in words. Assumes nothing.
use Rattle.std.specs.Prelude.{ℕ, List, ◌++◌, Some, None, codes, decimal, Option}
use Rattle.frames.specs.Codes.{cause_number}
use Rattle.frames.specs.declared.content.Operation.{Operation}
use Rattle.frames.specs.declared.content.Verdict.{Verdict}
use Rattle.frames.specs.declared.content.Verdict.TheVariants.{Granted, Declined}
use Rattle.signalling.specs.Ask.{asked_by}
use Rattle.signalling.specs.Words.{ask_word}
use Rattle.text.specs.Words.{fault_words}
use Rattle.text.specs.declared.fault.Fault.{Fault}

abbrev pub operation_word : Operation → List ℕ
operation_word o = ask_word (asked_by o)

-- a fault of the link beside an outcome: ` fault NUMBER LAYER`
abbrev pub beside : Option Fault → List ℕ
beside None = codes ""
beside (Some f) = codes " fault " ++ fault_words f

-- the number of a cause that an operation lists, 0 for any other
abbrev pub listed : Option ℕ → ℕ
listed None = 0
listed (Some n) = n

-- `granted`, or `declined CAUSE`
abbrev pub verdict_words : Operation → Verdict → List ℕ
verdict_words o Granted = codes "granted"
verdict_words o (Declined c) = codes "declined " ++ decimal (listed (cause_number o c))
