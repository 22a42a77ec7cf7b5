-- The writer does not refuse the answer.
use Rattle.switch.proofs.Boards.{answer_told}
use Rattle.switch.proofs.board.serving.send_answer.Goals as goal

pub returns : goal.returns
returns g c = answer_told g.D.Link.sends c.args.handled c.args.exchange c.answer.result c.args.down.now c.post-sent.new.link c.post-sent.result c.err.result c.requires c.answer.ensures c.post-sent.ensures c.err.ensures.value
