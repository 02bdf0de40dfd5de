-- A type list as a reading: its length first (9), then its entries in order (11), at the list's own place.
use Rattle.std.specs.Prelude.{ℕ, ◌+◌, ◌*◌, List, length, ltb, leb}
use Rattle.refusal.specs.Refusals.{not_there, runs_past, wrong_index}
use Rattle.refusal.specs.Outcome.{Outcome, answer, ◌>>=◌, given, accepted}
use Rattle.refusal.specs.Rows.{every}
use Rattle.word.specs.Words.{u16_at, u32_at}
use Rattle.type_list.specs.declared.TypeListJudge.{TypeListJudge}

abbrev pub entry_number : List ℕ → TypeListJudge → ℕ → ℕ
entry_number s j k = u16_at j.order s (j.at + 4 + 2 * k)

unfoldable pub entry_at : List ℕ → TypeListJudge → ℕ → Outcome ℕ
entry_at s j k = given (ltb (entry_number s j k) j.types) (wrong_index j.at) (answer (entry_number s j k))

-- "Lists of fixed-width entries check their length first (9), then entries in order."
unfoldable pub list_of : List ℕ → TypeListJudge → ℕ → Outcome (List ℕ)
list_of s j count = given (leb (j.at + 4 + 2 * count) (length s)) (runs_past j.at) (every (entry_at s j) count)

unfoldable pub list_at : List ℕ → TypeListJudge → Outcome (List ℕ)
list_at s j = given (leb (j.at + 4) (length s)) (runs_past j.at) (list_of s j (u32_at j.order s j.at))

-- what the code keeps: how many, and one of them
abbrev pub counted : List ℕ → Outcome ℕ
counted l = answer (length l)

unfoldable pub count_at : List ℕ → TypeListJudge → Outcome ℕ
count_at s j = list_at s j >>= counted

unfoldable pub number_at : List ℕ → TypeListJudge → ℕ → Outcome ℕ
number_at s j k = do
  n ← count_at s j
  given (ltb k n) not_there (answer (entry_number s j k))

unfoldable pub all_at : List ℕ → TypeListJudge → ℕ → Outcome Unit
all_at s j count = every (entry_at s j) count >>= accepted
