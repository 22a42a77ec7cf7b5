-- What a terminal shows of a call. Assumes nothing.
use Rattle.std.proofs.Common.{◌≡◌, ℕ, cond, eqb, List, Some, refl}
use Rattle.std.proofs.lemmas.List.Recursion.{same_from_clauses}
use Rattle.std.specs.List.{find}
use Rattle.terminal.specs.Calls as calls
use Rattle.terminal.specs.declared.call.Call.{Call}

pub found_call : (c : ℕ) (cs : List Call) → find (λ x. eqb x.id.0 c) cs ≡ calls.find c cs
found_call c cs = same_from_clauses (find (λ x. eqb x.id.0 c)) (calls.find c) (λ x o. cond (eqb x.id.0 c) (Some x) o) refl (λ _ _. refl) (λ _ _. refl) cs
