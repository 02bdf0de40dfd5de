-- What the answers of the code say.
use Rattle.refusal.specs.Outcome.{Outcome}
use Rattle.word.specs.declared.Endian.{Endian}
use Rattle.header.specs.declared.Table.{Table}
use Rattle.header.specs.declared.Header.{Header}
use Rattle.header.specs.declared.Three.{Three}
use Rattle.header.specs.declared.Section.{Section}
use Rattle.std.specs.Prelude.{Result}
use Rattle.refusal.specs.Answers.{outcome}
use Rattle.refusal.specs.declared.Refusal.{Refusal}

abbrev pub order_outcome : Result Endian Refusal → Outcome Endian
order_outcome = outcome (λ (o : Endian). o)

abbrev pub table_outcome : Result Table Refusal → Outcome Table
table_outcome = outcome (λ (t : Table). t)

abbrev pub three_outcome : Result Three Refusal → Outcome Three
three_outcome = outcome (λ (t : Three). t)

abbrev pub section_outcome : Result Section Refusal → Outcome Section
section_outcome = outcome (λ (d : Section). d)

abbrev pub header_outcome : Result Header Refusal → Outcome Header
header_outcome = outcome (λ (header : Header). header)
