-- Why an outcome was not noted, in words. Assumes nothing.
use Rattle.std.specs.Prelude.{ℕ, List, codes}
use Rattle.books.specs.declared.error.NoteError.{NoteError}
use Rattle.books.specs.declared.error.NoteError.TheVariants.{NoMemory, Full}

abbrev pub note_words : NoteError → List ℕ
note_words NoMemory = codes "no memory for the books"
note_words Full = codes "a count of the books is full"
