use Rattle.std.proofs.Common.{arith}
use Rattle.text.specs.Hex.{right}
use Rattle.text.proofs.Table.{at, same_eq}
use Rattle.text.proofs.hex.entry.Goals as goal

pub returns : goal.returns
returns c = same_eq _ _ (at right c.args.values.now c.requires.tested c.args.byte (omega arith))
