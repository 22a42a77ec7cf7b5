-- The laws of reading and writing, put together for the calls that promise them. Assumes nothing.
use Rattle.std.proofs.Common.{◌≡◌, ℕ, List, Ok}
use Rattle.frames.specs.declared.content.Frame.{Frame}
use Rattle.frames.specs.Laws.{Encoding}
use Rattle.frames.specs.Read.{reads}
use Rattle.frames.specs.Write.{writes}
use Rattle.frames.proofs.Exact.{exact}
use Rattle.frames.proofs.Written.{reads_back}
use Rattle.text.specs.Laws.{Bytes}

pub encoding : (f : Frame) (bs : List ℕ) → writes f ≡ Ok bs → Encoding f bs
encoding f bs w = record {
  written = w;
  read_back = reads_back f bs w;
  one_frame = λ other small r. let again = exact other small f r in cc;
  one_content = λ other p. let r = reads_back other bs p in let s = reads_back f bs w in cc;
}

pub of_read : (bs : List ℕ) → Bytes bs → (f : Frame) → reads bs ≡ Ok f → Encoding f bs
of_read bs small f r = encoding f bs (exact bs small f r)
