-- What an answer of the code says, no other answer says: a contract `outcome r ≡ reading` allows one answer.
-- Assumes nothing.
use Prim.Native.Nat.{ℕ}
use mathlib.Core.Path.{◌≡◌, refl}
use Rattle.std.specs.Prelude.{Result}
use Rattle.std.specs.Prelude as S
use Rattle.refusal.specs.declared.Refusal.{Refusal}
use Rattle.refusal.proofs.Kept.{outcome_once, maybe_once}
use Rattle.debug_info.specs.Debug.{Extent}
use Rattle.debug_info.specs.declared.DebugOutline.{DebugOutline}
use Rattle.debug_info.specs.Answers.{debug_outcome, name_outcome}

pub debug_once : (x y : Result DebugOutline Refusal) → debug_outcome x ≡ debug_outcome y → x ≡ y
debug_once = outcome_once _ (λ (e : Extent). record { line = e.line; names = e.names; start = e.start; length = e.length }) (λ x. refl)

pub name_once : (x y : Result (S.Option ℕ) Refusal) → name_outcome x ≡ name_outcome y → x ≡ y
name_once = maybe_once (λ (v : ℕ). v) (λ (v : ℕ). v) (λ v. refl)
