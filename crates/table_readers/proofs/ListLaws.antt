-- What the proofs of the readers of type lists cite.
-- Assumes nothing.
use Prim.Native.Nat.{ℕ}
use mathlib.Core.Path.{◌≡◌, ap, ◌∙◌}
use mathlib.Core.List.{List}
use borrow.Author.Rules.{rules}
use Rattle.refusal.specs.Outcome.{Outcome}
use Rattle.refusal.proofs.Laws.{tests, calls}
use Rattle.header.specs.declared.Header.{Header}
use Rattle.header.specs.Header.{up_to_end}
use Rattle.type_list.specs.declared.TypeListJudge.{TypeListJudge}
use Rattle.type_list.specs.TypeList.{number_at}

-- a list that was read in the file up to the data section's end, s
module _ (f : List ℕ) (h : Header) (j : TypeListJudge) {s : List ℕ} (e : s ≡ up_to_end f h) where
  pub number_in : (k : ℕ) {y : Outcome ℕ} → y ≡ number_at s j k → y ≡ number_at (up_to_end f h) j k
  number_in k q = q ∙ ap (λ (x : List ℕ). number_at x j k) e

pub ruleset list_laws = (number_in, calls, tests, rules)

pub ruleset laws = (calls, rules)
