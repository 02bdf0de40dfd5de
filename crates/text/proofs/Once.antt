-- What an answer of the code says, no other answer says: a contract `outcome r ≡ reading` allows one answer.
-- Assumes nothing.
use mathlib.Core.Path.{◌≡◌, refl}
use Rattle.std.specs.Prelude.{Result}
use Rattle.refusal.specs.declared.Refusal.{Refusal}
use Rattle.refusal.proofs.Kept.{outcome_once}
use Rattle.text.specs.Text.{Extent}
use Rattle.text.specs.Answers.{text_outcome}
use Rattle.text.specs.declared.TextPlace.{TextPlace}

pub text_once : (x y : Result TextPlace Refusal) → text_outcome x ≡ text_outcome y → x ≡ y
text_once = outcome_once _ (λ (e : Extent). record { start = e.start; length = e.length; units = e.units }) (λ t. refl)
