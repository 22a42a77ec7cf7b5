use Rattle.std.proofs.Common.{◌≡◌, ◌++◌, map, take, drop}
use Rattle.books.proofs.table.change.Given as goal

abbrev pub invariant-loop-row : goal.invariant-loop-row
invariant-loop-row g l =
    (h : _ → _) → ((x y : _) → goal.F-post g l.f x y → y ≡ h x) → l.row-items ≡ map h (take l.row-index l.initial.row-items) ++ drop l.row-index l.initial.row-items
