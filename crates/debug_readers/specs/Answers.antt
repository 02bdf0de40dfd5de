-- What the answers of the code say: where there is no debug information, none.
use Rattle.std.specs.Prelude.{ℕ, Result}
use Rattle.std.proofs.Math.Option.{Option}
use Rattle.refusal.specs.Outcome.{Outcome}
use Rattle.debug_info.specs.Debug.{Extent}
use Rattle.debug_info.specs.Answers.{name_meant}
use Rattle.std.specs.Prelude as S
use Rattle.refusal.specs.Answers.{maybe, outcome}
use Rattle.refusal.specs.declared.Refusal.{Refusal}
use Rattle.debug_info.specs.declared.DebugOutline as D

abbrev pub maybe_debug : Result (S.Option D.DebugOutline) Refusal → Outcome (Option Extent)
maybe_debug = outcome (maybe (λ (x : D.DebugOutline). record { line = x.line; names = x.names; start = x.start; length = x.length }))

abbrev pub maybe_name : Result (S.Option (S.Option ℕ)) Refusal → Outcome (Option (Option ℕ))
maybe_name = outcome (maybe (λ (n : S.Option ℕ). name_meant n))
