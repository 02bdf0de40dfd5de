-- What the answers of the code say.
use Rattle.refusal.specs.Outcome.{Outcome}
use Rattle.code_heads.specs.declared.CodeHead.{CodeHead}
use Rattle.std.specs.Prelude.{Result}
use Rattle.refusal.specs.Answers.{outcome}
use Rattle.refusal.specs.declared.Refusal.{Refusal}

abbrev pub code_head_outcome : Result CodeHead Refusal → Outcome CodeHead
code_head_outcome = outcome (λ (h : CodeHead). h)
