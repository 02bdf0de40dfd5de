-- What the answers of the code say.
use Rattle.refusal.specs.Outcome.{Outcome}
use Rattle.value_readers.specs.Bodies.{ArraySize, NotedSize}
use Rattle.std.specs.Prelude.{Result}
use Rattle.refusal.specs.Answers.{outcome}
use Rattle.refusal.specs.declared.Refusal.{Refusal}
use Rattle.value_readers.specs.declared.ArrayOutline as A
use Rattle.value_readers.specs.declared.BodyOutline as B

abbrev pub array_outcome : Result A.ArrayOutline Refusal → Outcome ArraySize
array_outcome = outcome (λ (x : A.ArrayOutline). record { count = x.count; length = x.length })

abbrev pub body_outcome : Result B.BodyOutline Refusal → Outcome NotedSize
body_outcome = outcome (λ (x : B.BodyOutline). record { type_index = x.type_index; count = x.count; length = x.length })
