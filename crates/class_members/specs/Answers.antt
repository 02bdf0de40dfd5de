-- What the answers of the code say.
use Rattle.std.specs.Prelude.{ℕ, Result}
use Rattle.refusal.specs.Outcome.{Outcome}
use Rattle.refusal.specs.Rows.{Found}
use Rattle.class_members.specs.declared.Member.{Member}
use Rattle.refusal.specs.Answers.{found, outcome}
use Rattle.refusal.specs.declared.Refusal.{Refusal}
use Rattle.refusal.specs.declared.Read as R

abbrev pub found_outcome : Result (R.Read Member) Refusal → Outcome (Found Member ℕ)
found_outcome = outcome (found (λ (m : Member). m))
