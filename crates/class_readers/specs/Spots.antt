-- Where class data, code and debug information lie: header (1 to 6), 7 for the class, its record, then each item on the way, whole,
-- "each followed by 7 for an inner number".
use Rattle.std.specs.Prelude.{ℕ, List, leb}
use Rattle.std.proofs.Math.Option.{Option, none, some}
use Rattle.refusal.specs.Refusals.{not_there}
use Rattle.refusal.specs.Outcome.{Outcome, answer, ◌>>=◌, given, present}
use Rattle.header.specs.declared.Header.{Header}
use Rattle.header.specs.Header.{header_at, up_to_end, plain_frame}
use Rattle.class_data.specs.Data.{member_of_list}
use Rattle.code_item.specs.Code.{outline_at}
use Rattle.table_readers.specs.Tables.{class_in}
use Rattle.class_readers.specs.declared.Spot.{Spot}

-- "absent class data, code or debug information is answered as none": none stays none, and otherwise there is more to read
unfoldable pub onward : {A B : Type 0} → (A → Outcome (Option B)) → Option A → Outcome (Option B)
onward k none = answer none
onward k (some a) = k a

-- "Offset 0 means absent for .. class data, .. code, debug information"
unfoldable pub spot_at : Header → ℕ → Outcome (Option Spot)
spot_at header at = present at (answer (record { header = header; place = at }))

-- class data, by the number of its class
unfoldable pub data_in : List ℕ → ℕ → Header → Outcome (Option Spot)
data_in f c header = do
  r ← class_in f c header
  spot_at header r.data

unfoldable pub data_spot : List ℕ → ℕ → Outcome (Option Spot)
data_spot f c = header_at f >>= data_in f c

-- code, by list and member number: the class data's own rules first, then 7. The code of a field, lists 0 and 1, is not there
unfoldable pub method_under : List ℕ → ℕ → ℕ → Spot → Outcome (Option Spot)
method_under f list k spot = do
  m ← member_of_list (up_to_end f spot.header) (plain_frame spot.header) spot.place list k
  given (leb 2 list) not_there (spot_at spot.header m.code)

unfoldable pub method_spot : List ℕ → ℕ → ℕ → ℕ → Outcome (Option Spot)
method_spot f c list k = data_spot f c >>= onward (method_under f list k)

-- debug information: the code item's own rules first
unfoldable pub debug_under : List ℕ → Spot → Outcome (Option Spot)
debug_under f spot = do
  o ← outline_at (up_to_end f spot.header) (plain_frame spot.header) spot.place
  spot_at spot.header o.head.debug

unfoldable pub debug_spot : List ℕ → ℕ → ℕ → ℕ → Outcome (Option Spot)
debug_spot f c list k = method_spot f c list k >>= onward (debug_under f)
