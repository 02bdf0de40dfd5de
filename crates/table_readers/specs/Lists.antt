-- Lists of types by number as readings: "An absent list is empty".
use Rattle.std.specs.Prelude.{ℕ, cond, List, ltb}
use Rattle.refusal.specs.Refusals.{not_there}
use Rattle.refusal.specs.Outcome.{Outcome, refused, ◌>>=◌}
use Rattle.header.specs.declared.Header.{Header}
use Rattle.header.specs.Header.{header_at, up_to_end}
use Rattle.type_list.specs.TypeList.{number_at}
use Rattle.type_list.specs.Below.{list_judge, list_count}
use Rattle.table_readers.specs.Tables.{proto_in, class_in}

unfoldable pub list_type : List ℕ → Header → ℕ → ℕ → Outcome ℕ
list_type f header at k = cond (ltb 0 at) (number_at (up_to_end f header) (list_judge header at) k) (refused not_there)

unfoldable pub parameters_in : List ℕ → ℕ → Header → Outcome ℕ
parameters_in f n header = do
  p ← proto_in f n header
  list_count f header p.parameters

unfoldable pub parameter_count : List ℕ → ℕ → Outcome ℕ
parameter_count f n = header_at f >>= parameters_in f n

unfoldable pub parameter_in : List ℕ → ℕ → ℕ → Header → Outcome ℕ
parameter_in f n k header = do
  p ← proto_in f n header
  list_type f header p.parameters k

unfoldable pub parameter : List ℕ → ℕ → ℕ → Outcome ℕ
parameter f n k = header_at f >>= parameter_in f n k

unfoldable pub interfaces_in : List ℕ → ℕ → Header → Outcome ℕ
interfaces_in f n header = do
  c ← class_in f n header
  list_count f header c.interfaces

unfoldable pub interface_count : List ℕ → ℕ → Outcome ℕ
interface_count f n = header_at f >>= interfaces_in f n

unfoldable pub interface_in : List ℕ → ℕ → ℕ → Header → Outcome ℕ
interface_in f n k header = do
  c ← class_in f n header
  list_type f header c.interfaces k

unfoldable pub interface : List ℕ → ℕ → ℕ → Outcome ℕ
interface f n k = header_at f >>= interface_in f n k
