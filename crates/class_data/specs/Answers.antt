-- What the answers of the code say.
use Rattle.std.specs.Prelude.{ℕ, Result}
use Rattle.refusal.specs.Outcome.{Outcome}
use Rattle.refusal.specs.Rows.{Found}
use Rattle.class_data.specs.Data.{Both, KeptTwo, KeptData}
use Rattle.class_members.specs.declared.Member.{Member}
use Rattle.class_data.specs.declared.Counts.{Counts}
use Rattle.class_data.specs.declared.Methods.{Methods}
use Rattle.refusal.specs.Answers.{found, outcome}
use Rattle.refusal.specs.declared.Refusal.{Refusal}
use Rattle.class_data.specs.declared.Two as T
use Rattle.refusal.specs.declared.Read as R
use Rattle.class_data.specs.declared.KeptData as K

abbrev pub two_numbers_outcome : Result (T.Two ℕ) Refusal → Outcome (Found Both ℕ)
two_numbers_outcome = outcome (λ (x : T.Two ℕ). record { item = record { first = x.first; second = x.second }; next = x.next })

abbrev pub counts_outcome : Result (R.Read Counts) Refusal → Outcome (Found Counts ℕ)
counts_outcome = outcome (found (λ (c : Counts). c))

abbrev pub two_outcome : Result (T.Two Member) Refusal → Outcome KeptTwo
two_outcome = outcome (λ (x : T.Two Member). record { first = x.first; second = x.second; next = x.next })

abbrev pub kept_data_outcome : Result K.KeptData Refusal → Outcome KeptData
kept_data_outcome = outcome (λ (x : K.KeptData). record { counts = x.counts; members = x.members; methods = x.methods; end = x.end })

abbrev pub data_outcome : Result (R.Read Counts) Refusal → Outcome (Found Counts ℕ)
data_outcome = outcome (found (λ (c : Counts). c))

abbrev pub methods_outcome : Result Methods Refusal → Outcome Methods
methods_outcome = outcome (λ (m : Methods). m)

abbrev pub member_outcome : Result Member Refusal → Outcome Member
member_outcome = outcome (λ (m : Member). m)
