-- What is played on a fresh pair is a run.
use Rattle.std.proofs.Common.{rules}
use Rattle.rounds.proofs.fresh.play_fresh.Goals as goal

pub returns : goal.returns
returns c = search (rules, c.in_ok-events.ensures.law c.args.setting.channels)
