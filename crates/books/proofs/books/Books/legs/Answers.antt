use Rattle.std.proofs.Common.{rules, tests, vec_items, arith, ◌∙◌}
use Rattle.std.proofs.lemmas.Iterator.{YieldsList-from_map, YieldsList-from_slice}
use Rattle.std.proofs.lemmas.Iterator.Adapters.{at_most_from_yields_List, fits_from_length}
use Rattle.std.proofs.lemmas.Iterator.Consumers.{sum_by_from_yields_List}
use Rattle.books.specs.Tables.{legs_one}
use Rattle.books.proofs.Totals.{legs_is}
use Rattle.books.proofs.books.Books.legs.Goals as goal

pub sum-requires-clause-fits : goal.sum-requires-clause-fits
sum-requires-clause-fits c =
    fits_from_length _ _ 9223372036854775807 _ (at_most_from_yields_List (YieldsList-from_slice (vec_items c.self.inside.calls) cc) (omega arith)) c.map.ensures.closure (omega arith) (λ x r q k. search (rules, tests))

pub returns : goal.returns
returns c = λ ds k.
    sum_by_from_yields_List (legs_one c.args.self.now.marks) c.args.self.now.calls c.map.result _ c.sum.ensures.ran
    (YieldsList-from_map _ _ (YieldsList-from_slice c.args.self.now.calls cc) c.map.ensures.closure (λ x r q k. search (rules, tests)))
    ∙ legs_is ds c.args.self.now k
