-- What the answers of the code say.
use Rattle.std.specs.Prelude.{ℕ, Result}
use Rattle.refusal.specs.Outcome.{Outcome}
use Rattle.code_bodies.specs.Code.{KeptCode}
use Rattle.code_bodies.specs.declared.Try.{Try}
use Rattle.refusal.specs.Answers.{outcome}
use Rattle.refusal.specs.declared.Refusal.{Refusal}
use Rattle.code_bodies.specs.declared.KeptCode as K

abbrev pub try_found : Result Try Refusal → Outcome Try
try_found = outcome (λ (t : Try). t)

abbrev pub link_outcome : Result ℕ Refusal → Outcome ℕ
link_outcome = outcome (λ (n : ℕ). n)

abbrev pub kept_code_outcome : Result K.KeptCode Refusal → Outcome KeptCode
kept_code_outcome = outcome (λ (x : K.KeptCode). record { head = x.head; attempt = x.attempt; link = x.link; handlers = x.handlers; brief = x.brief; from = x.from; base = x.base; end = x.end })
