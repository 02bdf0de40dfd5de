-- The static values of a class as readings: header, map, 7 for the class, its record, the array whole, 7 for the value.
use Rattle.std.specs.Prelude.{ℕ, cond, List, ltb}
use Rattle.refusal.specs.Refusals.{not_there}
use Rattle.refusal.specs.Outcome.{Outcome, answer, refused, ◌>>=◌}
use Rattle.header.specs.declared.Header.{Header}
use Rattle.header.specs.Header.{up_to_end}
use Rattle.decoded_value.specs.Shown.{Shown}
use Rattle.value_bodies.specs.Bodies.{array_count, array_value}
use Rattle.table_readers.specs.Head.{opened_at}
use Rattle.table_readers.specs.Tables.{class_in}
use Rattle.value_readers.specs.Opening.{walk_in}

-- "An absent list is empty"
unfoldable pub values_in : List ℕ → Header → ℕ → ℕ → Outcome ℕ
values_in f header handles at = cond (ltb 0 at) (array_count (up_to_end f header) (walk_in header handles at) at) (answer 0)

unfoldable pub values_under : List ℕ → ℕ → Header → ℕ → Outcome ℕ
values_under f c header handles = class_in f c header >>= λ r. values_in f header handles r.values

unfoldable pub static_count : List ℕ → ℕ → Outcome ℕ
static_count f c = opened_at f >>= λ o. values_under f c o.header o.handles

unfoldable pub static_value_in : List ℕ → Header → ℕ → ℕ → ℕ → Outcome Shown
static_value_in f header handles at k = cond (ltb 0 at) (array_value (up_to_end f header) (walk_in header handles at) at k) (refused not_there)

unfoldable pub value_under : List ℕ → ℕ → ℕ → Header → ℕ → Outcome Shown
value_under f c k header handles = class_in f c header >>= λ r. static_value_in f header handles r.values k

unfoldable pub static_value : List ℕ → ℕ → ℕ → Outcome Shown
static_value f c k = opened_at f >>= λ o. value_under f c k o.header o.handles
