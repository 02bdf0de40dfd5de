-- Annotations by number as readings: where a set is, its own rules, 7 for the number. "An absent list is empty": so are an absent set and a
-- class without a directory.
use Rattle.std.specs.Prelude.{ℕ, true, false, cond, List, ltb}
use Rattle.std.proofs.Math.Option.{Option, none, some}
use Rattle.refusal.specs.Refusals.{not_there}
use Rattle.refusal.specs.Outcome.{Outcome, answer, refused, ◌>>=◌}
use Rattle.header.specs.declared.Header.{Header}
use Rattle.header.specs.Header.{up_to_end, plain_frame}
use Rattle.annotation_directories.specs.declared.DirectoryHead.{DirectoryHead}
use Rattle.annotation_lists.specs.Offsets.{offset_count, offset_number}
use Rattle.directory_readers.specs.declared.Reached.{Reached}
use Rattle.directory_readers.specs.Directories.{directory_of, head_in, entry_in}

-- ---- where a set is, 0 where it is absent
abbrev pub set_of : Option DirectoryHead → ℕ
set_of none = 0
set_of (some d) = d.set

unfoldable pub class_set_in : List ℕ → Header → ℕ → Outcome Reached
class_set_in f header at = do
  d ← head_in f header at
  answer (record { header = header; place = set_of d })

unfoldable pub class_set : List ℕ → ℕ → Outcome Reached
class_set f c = directory_of f c >>= λ d. class_set_in f d.header d.place

-- entry e of list 0, 1 or 2 leads to the set of a field, that of a method, or the reference list of a method's parameters
unfoldable pub entry_set_in : List ℕ → Header → ℕ → ℕ → ℕ → Outcome Reached
entry_set_in f header at list e = do
  x ← entry_in f header at list e
  answer (record { header = header; place = x.offset })

unfoldable pub entry_set : List ℕ → ℕ → ℕ → ℕ → Outcome Reached
entry_set f c list e = directory_of f c >>= λ d. entry_set_in f d.header d.place list e

-- set p of the reference list at a place
unfoldable pub parameter_set_in : List ℕ → Header → ℕ → ℕ → Outcome Reached
parameter_set_in f header at p = do
  place ← offset_number (up_to_end f header) (plain_frame header) at true true p
  answer (record { header = header; place = place })

unfoldable pub parameter_set : List ℕ → ℕ → ℕ → ℕ → Outcome Reached
parameter_set f c e p = entry_set f c 2 e >>= λ l. parameter_set_in f l.header l.place p

-- ---- how many sets a reference list has, absent ones too
unfoldable pub references_in : List ℕ → Header → ℕ → Outcome ℕ
references_in f header at = offset_count (up_to_end f header) (plain_frame header) at true true

unfoldable pub parameter_set_count : List ℕ → ℕ → ℕ → Outcome ℕ
parameter_set_count f c e = entry_set f c 2 e >>= λ l. references_in f l.header l.place

-- ---- how many annotations a set has, and where number k is
unfoldable pub set_count : List ℕ → Header → ℕ → Outcome ℕ
set_count f header at = cond (ltb 0 at) (offset_count (up_to_end f header) (plain_frame header) at false false) (answer 0)

unfoldable pub set_number : List ℕ → Header → ℕ → ℕ → Outcome ℕ
set_number f header at k = cond (ltb 0 at) (offset_number (up_to_end f header) (plain_frame header) at false false k) (refused not_there)

-- the same of a set that is reached, if it is
unfoldable pub annotation_count : List ℕ → Outcome Reached → Outcome ℕ
annotation_count f set = set >>= λ reached. set_count f reached.header reached.place

unfoldable pub annotation_place : List ℕ → Outcome Reached → ℕ → Outcome ℕ
annotation_place f set k = set >>= λ reached. set_number f reached.header reached.place k
