-- The writer does not refuse the notice.
use Rattle.switch.proofs.Boards.{notice_told}
use Rattle.switch.proofs.board.notifying.send_notice.Goals as goal

pub returns : goal.returns
returns g c = notice_told g.D.Link.sends c.args.notice c.args.down.now c.post-sent.new.link c.post-sent.result c.err.result c.requires c.post-sent.ensures c.err.ensures.value
