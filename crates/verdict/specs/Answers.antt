-- What a verdict says.
use Rattle.refusal.specs.Outcome.{Outcome}
use Rattle.header.specs.declared.Header.{Header}
use Rattle.std.specs.Prelude.{Result}
use Rattle.refusal.specs.Answers.{outcome}
use Rattle.refusal.specs.declared.Refusal.{Refusal}

abbrev pub verdict_outcome : Result Header Refusal → Outcome Header
verdict_outcome = outcome (λ (header : Header). header)
