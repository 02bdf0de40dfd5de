-- What the answers of the code say.
use Rattle.std.specs.Prelude.{ℕ, Result}
use Rattle.std.proofs.Math.Option.{Option}
use Rattle.refusal.specs.Outcome.{Outcome}
use Rattle.refusal.specs.Rows.{Found}
use Rattle.debug_info.specs.Debug.{Extent, Held}
use Rattle.std.specs.Prelude as S
use Rattle.refusal.specs.Answers.{found, maybe, outcome}
use Rattle.refusal.specs.declared.Refusal.{Refusal}
use Rattle.refusal.specs.declared.Read as R
use Rattle.debug_info.specs.declared.KeptDebug as K
use Rattle.debug_info.specs.declared.DebugOutline as D

abbrev pub name_meant : S.Option ℕ → Option ℕ
name_meant = maybe (λ (v : ℕ). v)

abbrev pub name_found_outcome : Result (R.Read (S.Option ℕ)) Refusal → Outcome (Found (Option ℕ) ℕ)
name_found_outcome = outcome (found name_meant)

abbrev pub zero_outcome : Result ℕ Refusal → Outcome ℕ
zero_outcome = outcome (λ (p : ℕ). p)

abbrev pub kept_debug_outcome : Result K.KeptDebug Refusal → Outcome Held
kept_debug_outcome = outcome (λ (x : K.KeptDebug). record { line = x.line; names = x.names; name = name_meant x.name; start = x.start; length = x.length })

abbrev pub debug_outcome : Result D.DebugOutline Refusal → Outcome Extent
debug_outcome = outcome (λ (x : D.DebugOutline). record { line = x.line; names = x.names; start = x.start; length = x.length })

abbrev pub name_outcome : Result (S.Option ℕ) Refusal → Outcome (Option ℕ)
name_outcome = outcome name_meant
