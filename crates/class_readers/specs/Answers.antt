-- What the answers of the code say: an absent item is none.
use Rattle.std.specs.Prelude.{ℕ, Result}
use Rattle.std.proofs.Math.Option.{Option}
use Rattle.refusal.specs.Outcome.{Outcome}
use Rattle.class_data.specs.declared.Counts.{Counts}
use Rattle.class_members.specs.declared.Member.{Member}
use Rattle.class_readers.specs.declared.Spot.{Spot}
use Rattle.std.specs.Prelude as S
use Rattle.refusal.specs.Answers.{maybe, outcome}
use Rattle.refusal.specs.declared.Refusal.{Refusal}

abbrev pub spot_outcome : Result (S.Option Spot) Refusal → Outcome (Option Spot)
spot_outcome = outcome (maybe (λ (spot : Spot). spot))

abbrev pub maybe_data : Result (S.Option Counts) Refusal → Outcome (Option Counts)
maybe_data = outcome (maybe (λ (c : Counts). c))

abbrev pub maybe_member : Result (S.Option Member) Refusal → Outcome (Option Member)
maybe_member = outcome (maybe (λ (m : Member). m))

abbrev pub maybe_count : Result (S.Option ℕ) Refusal → Outcome (Option ℕ)
maybe_count = outcome (maybe (λ (n : ℕ). n))
