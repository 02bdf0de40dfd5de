-- What the answers of the code say.
use Rattle.std.specs.Prelude.{ℕ, Result}
use Rattle.refusal.specs.Outcome.{Outcome}
use Rattle.map_list.specs.declared.MapEntry.{MapEntry}
use Rattle.table_readers.specs.declared.Opened.{Opened}
use Rattle.refusal.specs.Answers.{outcome}
use Rattle.refusal.specs.declared.Refusal.{Refusal}

abbrev pub count_outcome : Result ℕ Refusal → Outcome ℕ
count_outcome = outcome (λ (n : ℕ). n)

abbrev pub entry_outcome : Result MapEntry Refusal → Outcome MapEntry
entry_outcome = outcome (λ (e : MapEntry). e)

abbrev pub opened_outcome : Result Opened Refusal → Outcome Opened
opened_outcome = outcome (λ (o : Opened). o)
