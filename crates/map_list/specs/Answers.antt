-- What the answers of the code say.
use Rattle.refusal.specs.Outcome.{Outcome}
use Rattle.header.specs.declared.Table.{Table}
use Rattle.map_list.specs.declared.MapList.{MapList}
use Rattle.std.specs.Prelude.{Result}
use Rattle.refusal.specs.Answers.{outcome}
use Rattle.refusal.specs.declared.Refusal.{Refusal}

abbrev pub handles_outcome : Result Table Refusal → Outcome Table
handles_outcome = outcome (λ (t : Table). t)

abbrev pub map_outcome : Result MapList Refusal → Outcome MapList
map_outcome = outcome (λ (m : MapList). m)
