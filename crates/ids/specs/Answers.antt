-- What the answers of the code say.
use Rattle.std.specs.Prelude.{ℕ, Result}
use Rattle.refusal.specs.Outcome.{Outcome}
use Rattle.ids.specs.declared.Proto.{Proto}
use Rattle.ids.specs.declared.MemberId.{MemberId}
use Rattle.ids.specs.declared.Handle.{Handle}
use Rattle.refusal.specs.Answers.{outcome}
use Rattle.refusal.specs.declared.Refusal.{Refusal}

abbrev pub index_outcome : Result ℕ Refusal → Outcome ℕ
index_outcome = outcome (λ (n : ℕ). n)

abbrev pub proto_outcome : Result Proto Refusal → Outcome Proto
proto_outcome = outcome (λ (p : Proto). p)

abbrev pub member_id_outcome : Result MemberId Refusal → Outcome MemberId
member_id_outcome = outcome (λ (m : MemberId). m)

abbrev pub handle_outcome : Result Handle Refusal → Outcome Handle
handle_outcome = outcome (λ (h : Handle). h)
