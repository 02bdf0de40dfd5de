-- The list of types that a proto or a class leads to, in a file with this header. "Offset 0 means absent for parameters, interfaces .."; "An absent list is empty".
use Rattle.std.specs.Prelude.{ℕ, cond, List, ltb}
use Rattle.std.proofs.Math.Option.{Option}
use Rattle.refusal.specs.Outcome.{Outcome, answer, ◌>>=◌, present, accepted}
use Rattle.header.specs.declared.Header.{Header}
use Rattle.header.specs.Header.{up_to_end}
use Rattle.type_list.specs.declared.TypeListJudge.{TypeListJudge}
use Rattle.type_list.specs.TypeList.{list_at, count_at}

abbrev pub list_judge : Header → ℕ → TypeListJudge
list_judge header at = record { order = header.order; types = header.types.count; at = at }

-- none where the list is absent
unfoldable pub types_below : List ℕ → Header → ℕ → Outcome (Option (List ℕ))
types_below f header at = present at (list_at (up_to_end f header) (list_judge header at))

-- what the code keeps of it: nothing, or how many types there are
abbrev pub types_accepted : List ℕ → Header → ℕ → Outcome Unit
types_accepted f header at = types_below f header at >>= accepted

unfoldable pub list_count : List ℕ → Header → ℕ → Outcome ℕ
list_count f header at = cond (ltb 0 at) (count_at (up_to_end f header) (list_judge header at)) (answer 0)
