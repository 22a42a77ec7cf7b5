use Rattle.std.proofs.Common.{◌∙◌}
use Rattle.books.proofs.Totals.{differing_is}
use Rattle.books.proofs.books.Books.differing.Goals as goal

pub returns : goal.returns
returns c = λ ds k. c.count_differing.ensures ∙ differing_is ds c.args.self.now k c.args.shown.now
