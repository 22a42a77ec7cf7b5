-- A switch's lines are short, since it has at most 32 sessions; so the walk has places enough, and what it comes to has the law.
use Rattle.std.proofs.Common.{length, arith}
use Rattle.switch.specs.State.{state}
use Rattle.waiting.proofs.Chains.{short}
use Rattle.waiting.proofs.Places.{enough, promise}
use Rattle.waiting.proofs.line.waiting_line.Goals as goal

pub walk-requires : goal.walk-requires
walk-requires g c =
    let me = c.args.switch.now in
    record {
      places = enough c.args.user (length c.args.line.now) c.in_ok-check.field-0 c.in_ok-check.ensures;
      short = short (state me).sessions c.records.result.now c.records.ensures.lawful (omega (arith, me.board.few_sessions, me.board.sessions.ok.0));
    }

pub returns : goal.returns
returns g c =
    let me = c.args.switch.now in
    let told = promise (state me) c.records.result.now c.args.user (length c.args.line.now) c.in_ok-check.field-0 c.walk.result c.walk.new.line c.args.line.now c.records.ensures.records c.in_ok-check.ensures (short (state me).sessions c.records.result.now c.records.ensures.lawful (omega (arith, me.board.few_sessions, me.board.sessions.ok.0))) c.walk.ensures.outcome c.walk.ensures.after in
    record { outcome = told.outcome; after = told.places; law = told.law }
