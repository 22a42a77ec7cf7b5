-- What may be asked, in words. Assumes nothing.
use Rattle.std.specs.Prelude.{ℕ, List, codes}
use Rattle.signalling.specs.declared.ask.Ask.{Ask}
use Rattle.signalling.specs.declared.ask.Ask.TheVariants.{Hold, Retrieve, Clear}

abbrev pub ask_word : Ask → List ℕ
ask_word Hold = codes "hold"
ask_word Retrieve = codes "retrieve"
ask_word Clear = codes "clear"
