-- What an answer of the code says, no other answer says: a contract `outcome r ≡ reading` allows one answer.
-- Assumes nothing.
use mathlib.Core.Path.{◌≡◌, refl}
use Rattle.std.specs.Prelude.{Result}
use Rattle.refusal.specs.declared.Refusal.{Refusal}
use Rattle.refusal.specs.declared.Read.{Read}
use Rattle.refusal.proofs.Kept.{read_once}
use Rattle.class_members.specs.declared.Member.{Member}
use Rattle.class_members.specs.Answers.{found_outcome}

pub found_once : (x y : Result (Read Member) Refusal) → found_outcome x ≡ found_outcome y → x ≡ y
found_once = read_once (λ (m : Member). m) (λ (m : Member). m) (λ m. refl)
