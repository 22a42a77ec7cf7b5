-- The law of bytes and their text, put together for the calls that promise it. Assumes nothing.
use Rattle.std.proofs.Common.{◌≡◌, ℕ, ◌<◌, ◌≤◌, List, length, IfOk, Ok, Err, Result, sym, ap, ◌∙◌}
use Rattle.text.specs.declared.fault.Fault.{Fault}
use Rattle.text.specs.Laws.{Bytes, Spelling}
use Rattle.text.specs.Octets.{Octets, held}
use Rattle.text.specs.Text.{text, reads_text, told_octets}
use Rattle.text.proofs.Spelling.{spelled, read_again}

spelling : (bs line : List ℕ) → reads_text line ≡ Ok bs → Spelling bs line
spelling bs line r = record {
  written = spelled line bs r;
  read_back = r;
  one_line = λ other p. sym (spelled other bs p) ∙ spelled line bs r;
}

pub read_text_promise : (line : List ℕ) (r : Result Octets Fault) → told_octets r ≡ reads_text line → IfOk r (λ o. Spelling (held o) line)
read_text_promise line (Ok o) e = spelling (held o) line (sym e)
read_text_promise line (Err x) e = tt

pub write_text_promise : (bs line : List ℕ) → Bytes bs → line ≡ text bs → 0 < length bs → length bs ≤ 32 → Spelling bs line
write_text_promise bs line small e some few = spelling bs line (ap reads_text e ∙ read_again bs small some few)
