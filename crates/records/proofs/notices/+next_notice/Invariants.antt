-- Each turn has a shorter list.
use Rattle.std.proofs.Common.{length}
use Rattle.records.proofs.notices.+next_notice.Given as goal

abbrev pub decreases-next_notice : goal.decreases-next_notice
decreases-next_notice l = length l.records.now
