-- The law stands. Assumes nothing.
use Rattle.law.proofs.Sums.{sums_stand}
use Rattle.law.proofs.law.sums_stand.Goals as goal

pub returns : goal.returns
returns c = sums_stand
