-- What an answer of the code says, no other answer says: a contract `meaning of the answer ≡ reading` allows one answer.
-- Assumes nothing.
use mathlib.Core.Path.{◌≡◌, refl}
use Rattle.refusal.proofs.Kept.{maybe_once, perhaps, perhaps_said}
use Rattle.std.specs.Prelude.{ℕ, Result}
use Rattle.debug_info.specs.Debug.{Extent}
use Rattle.debug_info.specs.Answers.{name_meant}
use Rattle.std.specs.Prelude as S
use Rattle.refusal.specs.declared.Refusal.{Refusal}
use Rattle.debug_info.specs.declared.DebugOutline as D
use Rattle.debug_readers.specs.Answers.{maybe_debug, maybe_name}

pub debug_once : (x y : Result (S.Option D.DebugOutline) Refusal) → maybe_debug x ≡ maybe_debug y → x ≡ y
debug_once = maybe_once (λ (x : D.DebugOutline). record { line = x.line; names = x.names; start = x.start; length = x.length }) (λ (r : Extent). record { line = r.line; names = r.names; start = r.start; length = r.length }) (λ x. refl)

pub name_once : (x y : Result (S.Option (S.Option ℕ)) Refusal) → maybe_name x ≡ maybe_name y → x ≡ y
name_once = maybe_once name_meant (perhaps (λ (v : ℕ). v)) (perhaps_said (λ (v : ℕ). v) (λ (v : ℕ). v) (λ v. refl))
