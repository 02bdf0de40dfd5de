-- What the answers of the code say.
use Rattle.std.specs.Prelude.{ℕ, ◌*◌, ◌^◌, ◌<◌, ◌≡◌, Result, Ok}
use Rattle.refusal.specs.Outcome.{Outcome}
use Rattle.refusal.specs.Rows.{Found}
use Rattle.value_heads.specs.Kinds.{bytes_of}
use Rattle.refusal.specs.Answers.{found, outcome}
use Rattle.refusal.specs.declared.Refusal.{Refusal}
use Rattle.refusal.specs.declared.Read as R

abbrev pub head_byte_outcome : Result ℕ Refusal → Outcome ℕ
head_byte_outcome = outcome (λ (h : ℕ). h)

abbrev pub number_outcome : Result (R.Read ℕ) Refusal → Outcome (Found ℕ ℕ)
number_outcome = outcome (found (λ (v : ℕ). v))

-- a number is no larger than its bytes allow
pub record Small (head : ℕ) (x : Result (R.Read ℕ) Refusal) : Type 0 where
  pub small : {v n : ℕ} → x ≡ Ok (record { value = v; next = n }) → v < 2 ^ (8 * bytes_of head)
