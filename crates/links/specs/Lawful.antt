-- What a packing owes: frames written one after another can be read back. Assumes nothing.
use Rattle.std.specs.Prelude.{◌≡◌, ℕ, ◌<◌, ◌≤◌, true, List, ◌++◌, length}
use Rattle.links.specs.Packing.{Packing, sound_frame}

pub record Lawful (p : Packing) : Type 0 where
  pub reads : (f rest : List ℕ) → sound_frame p f ≡ true → p.first (p.written f ++ rest) ≡ f
  pub goes_on : (f rest : List ℕ) → sound_frame p f ≡ true → p.after (p.written f ++ rest) ≡ rest
  pub some : (f : List ℕ) → 0 < length (p.written f)
  pub cost_written : (f : List ℕ) → p.cost f ≡ length (p.written f)
  pub low : 6 ≤ p.longest
  pub high : p.longest ≤ 32
