use Rattle.std.proofs.Common.{rules}
use Rattle.frames.proofs.Promises.{of_read}
use Rattle.frames.proofs.reader.read.Goals as goal

pub returns-clause-encoding : goal.returns-clause-encoding
returns-clause-encoding c = of_read c.args.bytes.now (λ i. (c.type_inv.bytes i).fits) _ (search rules)
