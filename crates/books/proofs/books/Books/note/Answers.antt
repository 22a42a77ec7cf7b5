use Rattle.books.proofs.Keeping.{noted}
use Rattle.books.proofs.books.Books.note.Goals as goal

pub returns : goal.returns
returns c = noted c.args.event.now c.args.self.now c.enter.new.self c.enter.result c.enter.ensures
