-- What an answer of the code says, no other answer says: a contract `outcome r ≡ reading` allows one answer.
-- Assumes nothing.
use Prim.Native.Nat.{ℕ}
use mathlib.Core.Path.{◌≡◌, refl}
use mathlib.Core.Option.{Option, none, some}
use lib.IntN.{ℤ}
use Rattle.std.specs.Prelude.{Result, Some, None}
use Rattle.std.specs.Prelude as S
use Rattle.refusal.specs.declared.Refusal.{Refusal}
use Rattle.refusal.specs.declared.Read.{Read}
use Rattle.refusal.proofs.Kept.{read_once, perhaps, perhaps_said}
use Rattle.refusal.specs.Answers.{maybe}
use Rattle.leb128.specs.Answers.{leb_outcome, signed_outcome, plus_one_outcome}

pub leb_once : (x y : Result (Read ℕ) Refusal) → leb_outcome x ≡ leb_outcome y → x ≡ y
leb_once = read_once (λ (v : ℕ). v) (λ (v : ℕ). v) (λ v. refl)

pub signed_once : (x y : Result (Read ℤ) Refusal) → signed_outcome x ≡ signed_outcome y → x ≡ y
signed_once = read_once (λ (v : ℤ). v) (λ (v : ℤ). v) (λ v. refl)

pub plus_one_once : (x y : Result (Read (S.Option ℕ)) Refusal) → plus_one_outcome x ≡ plus_one_outcome y → x ≡ y
plus_one_once = read_once (maybe (λ (v : ℕ). v)) (perhaps (λ (v : ℕ). v)) (perhaps_said (λ (v : ℕ). v) (λ (v : ℕ). v) (λ v. refl))
