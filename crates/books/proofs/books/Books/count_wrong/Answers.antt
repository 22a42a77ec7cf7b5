use Rattle.std.proofs.Common.{rules, tests, ◌&&◌, not, ◌∙◌}
use Rattle.std.proofs.lemmas.Iterator.{YieldsList-from_slice}
use Rattle.std.proofs.lemmas.Iterator.Consumers.{YieldsList-from_filter, count_from_yields_List}
use Rattle.law.specs.Law.{shows}
use Rattle.books.specs.Tables.{marked, within}
use Rattle.books.proofs.Totals.{counted}
use Rattle.books.proofs.books.Books.count_wrong.Goals as goal

pub returns-clause-value : goal.returns-clause-value
returns-clause-value c =
    count_from_yields_List c.filter.result _ c.count.ensures.ran (YieldsList-from_filter _ _ (YieldsList-from_slice c.args.self.now.calls cc) c.filter.ensures.closure (λ x b q k. search (rules, tests)))
    ∙ counted (λ e. within e.call.0) (λ e. e.live && (shows c.args.shown.now e.call.0 && not (marked c.args.self.now.user e.call.0 c.args.self.now.marks))) c.args.self.now.calls
