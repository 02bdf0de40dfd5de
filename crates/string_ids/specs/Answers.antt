-- What the answers of the code say.
use Rattle.std.specs.Prelude.{ℕ, List, Result}
use Rattle.std.proofs.Math.Option.{Option}
use Rattle.refusal.specs.Outcome.{Outcome}
use Rattle.word.specs.Bytes.{part}
use Rattle.std.specs.Prelude as S
use Rattle.refusal.specs.Answers.{maybe, outcome}
use Rattle.refusal.specs.declared.Refusal.{Refusal}
use Rattle.string_ids.specs.declared.Last.{Last}

abbrev pub item_outcome : Result ℕ Refusal → Outcome ℕ
item_outcome = outcome (λ (p : ℕ). p)

-- the last text's bytes, in the file up to the data section's end
unfoldable pub last_bytes : List ℕ → S.Option Last → Option (List ℕ)
last_bytes s = maybe (λ (l : Last). part s l.start l.length)

abbrev pub found_number : S.Option ℕ → Option ℕ
found_number = maybe (λ (k : ℕ). k)

abbrev pub lookup_outcome : Result (S.Option ℕ) Refusal → Outcome (Option ℕ)
lookup_outcome = outcome found_number
