-- What an answer of the code says, no other answer says: a contract `meaning of the answer ≡ reading` allows one answer.
-- Assumes nothing.
use mathlib.Core.Path.{◌≡◌, refl}
use Rattle.refusal.proofs.Kept.{maybe_once}
use Rattle.std.specs.Prelude.{ℕ, Result}
use Rattle.class_data.specs.declared.Counts.{Counts}
use Rattle.class_members.specs.declared.Member.{Member}
use Rattle.class_readers.specs.declared.Spot.{Spot}
use Rattle.std.specs.Prelude as S
use Rattle.refusal.specs.declared.Refusal.{Refusal}
use Rattle.class_readers.specs.Answers.{spot_outcome, maybe_data, maybe_member, maybe_count}

pub spot_once : (x y : Result (S.Option Spot) Refusal) → spot_outcome x ≡ spot_outcome y → x ≡ y
spot_once = maybe_once (λ (spot : Spot). spot) (λ (spot : Spot). spot) (λ spot. refl)

pub data_once : (x y : Result (S.Option Counts) Refusal) → maybe_data x ≡ maybe_data y → x ≡ y
data_once = maybe_once (λ (c : Counts). c) (λ (c : Counts). c) (λ c. refl)

pub member_once : (x y : Result (S.Option Member) Refusal) → maybe_member x ≡ maybe_member y → x ≡ y
member_once = maybe_once (λ (m : Member). m) (λ (m : Member). m) (λ m. refl)

pub count_once : (x y : Result (S.Option ℕ) Refusal) → maybe_count x ≡ maybe_count y → x ≡ y
count_once = maybe_once (λ (n : ℕ). n) (λ (n : ℕ). n) (λ n. refl)
