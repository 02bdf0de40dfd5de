-- What the answers of the code say.
use Rattle.std.specs.Prelude.{ℕ, Result}
use Rattle.std.proofs.Math.Option.{Option}
use Rattle.refusal.specs.Outcome.{Outcome}
use Rattle.handlers.specs.declared.Pair.{Pair}
use Rattle.code_item.specs.Code.{Linked, Handed}
use Rattle.code_item.specs.declared.Outline.{Outline}
use Rattle.std.specs.Prelude as S
use Rattle.refusal.specs.Answers.{maybe, outcome}
use Rattle.refusal.specs.declared.Refusal.{Refusal}
use Rattle.code_item.specs.declared.NumberedTry as N
use Rattle.code_item.specs.declared.HandlerOutline as H

abbrev pub code_outcome : Result Outline Refusal → Outcome Outline
code_outcome = outcome (λ (o : Outline). o)

abbrev pub try_outcome : Result N.NumberedTry Refusal → Outcome Linked
try_outcome = outcome (λ (x : N.NumberedTry). record { attempt = x.attempt; number = x.number })

abbrev pub catch_meant : S.Option ℕ → Option ℕ
catch_meant = maybe (λ (a : ℕ). a)

abbrev pub handler_outcome : Result H.HandlerOutline Refusal → Outcome Handed
handler_outcome = outcome (λ (x : H.HandlerOutline). record { offset = x.offset; pairs = x.pairs; all = catch_meant x.all })

abbrev pub pair_outcome : Result Pair Refusal → Outcome Pair
pair_outcome = outcome (λ (p : Pair). p)

abbrev pub cover_meant : S.Option ℕ → Option ℕ
cover_meant = maybe (λ (n : ℕ). n)

abbrev pub cover_outcome : Result (S.Option ℕ) Refusal → Outcome (Option ℕ)
cover_outcome = outcome cover_meant
