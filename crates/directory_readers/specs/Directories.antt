-- The annotation directory of a class as readings: header (1 to 6), 7 for the class, its record, the directory whole, 7 for the entry.
use Rattle.std.specs.Prelude.{ℕ, cond, List, ltb}
use Rattle.std.proofs.Math.Option.{Option}
use Rattle.refusal.specs.Refusals.{not_there}
use Rattle.refusal.specs.Outcome.{Outcome, answer, refused, ◌>>=◌, present}
use Rattle.header.specs.declared.Header.{Header}
use Rattle.header.specs.Header.{header_at, up_to_end, plain_frame}
use Rattle.table_readers.specs.Tables.{class_in}
use Rattle.annotation_directories.specs.declared.DirectoryHead.{DirectoryHead}
use Rattle.annotation_directories.specs.Directories.{DirectoryEntry, directory_head, directory_entry}
use Rattle.directory_readers.specs.declared.Reached.{Reached}

-- where the directory of class c is, 0 where it has none
unfoldable pub directory_in : List ℕ → ℕ → Header → Outcome Reached
directory_in f c header = do
  r ← class_in f c header
  answer (record { header = header; place = r.directory })

unfoldable pub directory_of : List ℕ → ℕ → Outcome Reached
directory_of f c = header_at f >>= directory_in f c

-- "Offset 0 means absent for .. annotation directory"
unfoldable pub head_in : List ℕ → Header → ℕ → Outcome (Option DirectoryHead)
head_in f header at = present at (directory_head (up_to_end f header) (plain_frame header) at)

unfoldable pub directory : List ℕ → ℕ → Outcome (Option DirectoryHead)
directory f c = directory_of f c >>= λ d. head_in f d.header d.place

-- entry k of list 0, 1 or 2: fields, methods, parameters. "An absent list is empty"
unfoldable pub entry_in : List ℕ → Header → ℕ → ℕ → ℕ → Outcome DirectoryEntry
entry_in f header at list k = cond (ltb 0 at) (directory_entry (up_to_end f header) (plain_frame header) at list k) (refused not_there)

unfoldable pub entry_number : List ℕ → ℕ → ℕ → ℕ → Outcome DirectoryEntry
entry_number f c list k = directory_of f c >>= λ d. entry_in f d.header d.place list k
