-- What an answer of the code says, no other answer says.
-- Assumes nothing.
use Prim.Native.Nat.{ℕ}
use mathlib.Core.Path.{◌≡◌, refl}
use Rattle.std.specs.Prelude.{Result}
use Rattle.std.specs.Prelude as S
use Rattle.refusal.specs.declared.Refusal.{Refusal}
use Rattle.refusal.proofs.Kept.{maybe_once}
use Rattle.string_ids.specs.Answers.{lookup_outcome}

pub lookup_once : (x y : Result (S.Option ℕ) Refusal) → lookup_outcome x ≡ lookup_outcome y → x ≡ y
lookup_once = maybe_once (λ (k : ℕ). k) (λ (k : ℕ). k) (λ k. refl)
