use Rattle.links.proofs.Lines.{next_byte}
use Rattle.links.proofs.line.pop_byte.Goals as goal

pub returns : goal.returns
returns c = next_byte c.args.queue.now c.pop-high.new.self c.pop.new.self c.pop-high.result c.pop.result _ c.requires c.if-high-eq-LINE_FEED.false c.pop-high.ensures c.pop.ensures c.byte.ensures
