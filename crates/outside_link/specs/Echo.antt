-- The frames that wait in the queue. Assumes nothing.
use Rattle.std.specs.Prelude.{ℕ, List, map, vec_items}
use Rattle.text.specs.Octets.{held}
use Rattle.outside_link.specs.declared.echo.Echo.{Echo}

abbrev pub waiting : Echo → List (List ℕ)
waiting e = map held (vec_items e.letters)
