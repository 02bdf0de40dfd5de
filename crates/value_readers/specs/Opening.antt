-- The file opened for a place, and what an item that holds values is read against.
use Rattle.std.specs.Prelude.{ℕ, false, List}
use Rattle.refusal.specs.Refusals.{not_there}
use Rattle.refusal.specs.Outcome.{Outcome, answer, ◌>>=◌, given}
use Rattle.frame.specs.Offsets.{allowed}
use Rattle.header.specs.declared.Header.{Header}
use Rattle.header.specs.Header.{frame_of}
use Rattle.value_heads.specs.declared.Walk.{Walk}
use Rattle.value_heads.specs.Kinds.{walk_of}
use Rattle.table_readers.specs.declared.Opened.{Opened}
use Rattle.table_readers.specs.Head.{opened_at}

-- header, map, "7: .. or a body place outside the data section"
unfoldable pub opened_within : List ℕ → ℕ → Outcome Opened
opened_within f place = do
  o ← opened_at f
  given (allowed o.header.start o.header.end false place) not_there (answer o)

abbrev pub walk_in : Header → ℕ → ℕ → Walk
walk_in header handles item = walk_of (frame_of header handles) item
