-- What an answer of the code says, no other answer says: a contract `outcome r ≡ reading` allows one answer.
-- Assumes nothing.
use Prim.Native.Nat.{ℕ}
use mathlib.Core.Path.{◌≡◌, refl}
use Rattle.std.specs.Prelude.{Result}
use Rattle.refusal.specs.declared.Refusal.{Refusal}
use Rattle.refusal.specs.declared.Read.{Read}
use Rattle.refusal.proofs.Kept.{same_once, read_once}
use Rattle.value_heads.specs.Answers.{head_byte_outcome, number_outcome}

pub head_once : (x y : Result ℕ Refusal) → head_byte_outcome x ≡ head_byte_outcome y → x ≡ y
head_once = same_once

pub number_once : (x y : Result (Read ℕ) Refusal) → number_outcome x ≡ number_outcome y → x ≡ y
number_once = read_once (λ (v : ℕ). v) (λ (v : ℕ). v) (λ v. refl)
