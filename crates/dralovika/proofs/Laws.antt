-- What the proofs of the exported functions cite: what a call said, in words.
-- Assumes nothing.
use Prim.Native.Nat.{ℕ}
use mathlib.Core.Path.{◌≡◌, ap, ◌∙◌}
use mathlib.Core.Option.{Option}
use mathlib.Core.List.{List}
use borrow.Author.Rules.{rules}
use Rattle.refusal.specs.Outcome.{Outcome}
use Rattle.answer_rows.specs.Words.{told, told_if}

pub said_by : {A : Type 0} (words : A → List ℕ) {o p : Outcome A} {y : List ℕ} → o ≡ p → y ≡ told words o → y ≡ told words p
said_by words e q = q ∙ ap (told words) e

pub said_if_by : {A : Type 0} (words : A → List ℕ) {o p : Outcome (Option A)} {y : List ℕ} → o ≡ p → y ≡ told_if words o → y ≡ told_if words p
said_if_by words e q = q ∙ ap (told_if words) e

pub ruleset laws = (said_by, said_if_by, rules)
