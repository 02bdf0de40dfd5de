-- What the answers of the code say.
use Rattle.std.specs.Prelude.{ℕ, Result}
use Rattle.std.specs.Prelude as S
use Rattle.refusal.specs.Outcome.{Outcome}
use Rattle.refusal.specs.Rows.{Found}
use Rattle.handlers.specs.Handlers.{Caught, KeptHandlers}
use Rattle.handlers.specs.declared.Pair.{Pair}
use Rattle.handlers.specs.declared.Brief.{Brief}
use Rattle.refusal.specs.Answers.{found, outcome}
use Rattle.refusal.specs.declared.Refusal.{Refusal}
use Rattle.refusal.specs.declared.Read as R
use Rattle.handlers.specs.declared.HandlerList as H

abbrev pub pair_outcome : Result (R.Read Pair) Refusal → Outcome (Found Pair ℕ)
pair_outcome = outcome (found (λ (p : Pair). p))

abbrev pub all_outcome : Result (R.Read (S.Option ℕ)) Refusal → Outcome Caught
all_outcome = outcome (λ (a : R.Read (S.Option ℕ)). record { all = a.value; next = a.next })

abbrev pub brief_outcome : Result (R.Read Brief) Refusal → Outcome (Found Brief ℕ)
brief_outcome = outcome (found (λ (b : Brief). b))

abbrev pub list_outcome : Result H.HandlerList Refusal → Outcome KeptHandlers
list_outcome = outcome (λ (x : H.HandlerList). record { count = x.count; brief = x.brief; first = x.first; end = x.end })
