use Rattle.std.proofs.Common.{◌&&◌, refl, ◌∙◌, rules, tests}
use Rattle.std.specs.List.{list_all}
use Rattle.std.proofs.lemmas.Iterator.{YieldsList-from_slice}
use Rattle.std.proofs.lemmas.Iterator.Search.{all_from_yields_List}
use Rattle.std.proofs.lemmas.List.Recursion.{same_from_clauses}
use Rattle.register.specs.Entries.{fits, limits_fit}
use Rattle.register.specs.declared.table.Entry.{Entry}
use Rattle.register.proofs.table.checks.limits_fit.Goals as goal

pub returns : goal.returns
returns c =
    let es = c.args.entries.now in
    all_from_yields_List (λ (e : Entry). fits e.limit) _ _ _ c.all.ensures.ran (YieldsList-from_slice es cc) (λ x b q k. search (rules, tests))
    ∙ same_from_clauses (list_all (λ (e : Entry). fits e.limit)) limits_fit (λ e b. fits e.limit && b) refl (λ _ _. refl) (λ _ _. refl) es
