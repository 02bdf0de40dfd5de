-- What the answers of the code say.
use Rattle.refusal.specs.Outcome.{Outcome}
use Rattle.class_ids.specs.declared.Class.{Class}
use Rattle.std.specs.Prelude.{Result}
use Rattle.refusal.specs.Answers.{outcome}
use Rattle.refusal.specs.declared.Refusal.{Refusal}

abbrev pub class_outcome : Result Class Refusal → Outcome Class
class_outcome = outcome (λ (c : Class). c)
