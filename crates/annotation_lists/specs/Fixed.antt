-- "Lists of fixed-width entries check their length first (9), then entries in order."
use Rattle.std.specs.Prelude.{ℕ, ◌+◌, ◌*◌, ◌≤◌, List, length, leb}
use Rattle.refusal.specs.Refusals.{runs_past}
use Rattle.refusal.specs.Outcome.{Outcome, given}
use Rattle.refusal.specs.Rows.{every}
use Rattle.refusal.specs.Exact.{Each}

-- count entries of one width, from a place on
unfoldable pub entries_from : {A : Type 0} → (ℕ → Outcome A) → ℕ → ℕ → ℕ → Outcome (List A)
entries_from entry width from count = every (λ k. entry (from + width * k)) count

-- the same, its length first; 9 is at the item
unfoldable pub fixed_at : {A : Type 0} → List ℕ → ℕ → (ℕ → Outcome A) → ℕ → ℕ → ℕ → Outcome (List A)
fixed_at s item entry width from count = given (leb (from + width * count) (length s)) (runs_past item) (entries_from entry width from count)

-- as a rule: they lie inside, and each obeys the rule of its place
pub record Fixed {A : Type 0} (s : List ℕ) (Entry : ℕ → A → Type 0) (width from count : ℕ) (l : List A) : Type 0 where
  pub room : from + width * count ≤ length s
  pub entries : Each (λ (k : ℕ) (a : A). Entry (from + width * k) a) count l
