-- What the header and the map say, as readings.
use Rattle.std.specs.Prelude.{ℕ, List, [], ltb}
use Rattle.refusal.specs.Refusals.{not_there}
use Rattle.refusal.specs.Outcome.{Outcome, answer, refused, ◌>>=◌, given}
use Rattle.word.specs.Bytes.{stretch}
use Rattle.header.specs.declared.Header.{Header}
use Rattle.header.specs.Header.{header_at}
use Rattle.map_list.specs.declared.MapEntry.{MapEntry}
use Rattle.map_list.specs.Map.{kept_at, entry_number}
use Rattle.table_readers.specs.declared.Opened.{Opened}

-- the 20 bytes of the signature, none where the header is refused
unfoldable pub signed_by : List ℕ → Outcome Header → List ℕ
signed_by f (answer header) = stretch f 12 20
signed_by f (refused r) = []

unfoldable pub signature_of : List ℕ → List ℕ
signature_of f = signed_by f (header_at f)

unfoldable pub map_count : List ℕ → Outcome ℕ
map_count f = do
  header ← header_at f
  m ← kept_at f header
  answer m.count

-- "7: the caller asks for a number that is not there"
unfoldable pub map_entry_in : List ℕ → ℕ → Header → Outcome MapEntry
map_entry_in f k header = do
  m ← kept_at f header
  given (ltb k m.count) not_there (answer (entry_number f header k))

unfoldable pub map_entry : List ℕ → ℕ → Outcome MapEntry
map_entry f k = header_at f >>= map_entry_in f k

unfoldable pub handle_count : List ℕ → Outcome ℕ
handle_count f = do
  header ← header_at f
  m ← kept_at f header
  answer m.handles.count

-- the header, and how many method handles the map gives
unfoldable pub mapped_at : List ℕ → Header → Outcome Opened
mapped_at f header = do
  m ← kept_at f header
  answer (record { header = header; handles = m.handles.count })

unfoldable pub opened_at : List ℕ → Outcome Opened
opened_at f = header_at f >>= mapped_at f
