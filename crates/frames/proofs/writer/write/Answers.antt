use Rattle.std.proofs.Common.{rules}
use Rattle.frames.proofs.Promises.{encoding}
use Rattle.frames.proofs.writer.write.Goals as goal

pub returns-clause-encoding : goal.returns-clause-encoding
returns-clause-encoding c = encoding c.args.frame.now _ (search rules)
