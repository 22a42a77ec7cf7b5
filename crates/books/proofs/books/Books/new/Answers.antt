use Rattle.books.proofs.Keeping.{kept_fresh}
use Rattle.books.proofs.books.Books.new.Goals as goal

pub returns-clause-kept : goal.returns-clause-kept
returns-clause-kept c = rw (c.new.ensures.items, c.new-2.ensures.items) (kept_fresh c.args.user.0)
