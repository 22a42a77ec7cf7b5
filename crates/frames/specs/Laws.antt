-- The laws of reading and writing, in the words of the format. Assumes nothing.
use Rattle.std.specs.Prelude.{◌≡◌, ℕ, List, Ok}
use Rattle.frames.specs.declared.content.Frame.{Frame}
use Rattle.frames.specs.Read.{reads}
use Rattle.frames.specs.Write.{writes}
use Rattle.text.specs.Laws.{Bytes}

-- the encoding of a content: what is written of it is these bytes, what is read of them is it, and neither is shared
pub record Encoding (f : Frame) (bs : List ℕ) : Type 0 where
  pub written : writes f ≡ Ok bs
  pub read_back : reads bs ≡ Ok f
  pub one_frame : (other : List ℕ) → Bytes other → reads other ≡ Ok f → other ≡ bs
  pub one_content : (other : Frame) → writes other ≡ Ok bs → other ≡ f
