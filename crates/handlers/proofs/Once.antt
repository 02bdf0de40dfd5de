-- What an answer of the code says, no other answer says: a contract `outcome r ≡ reading` allows one answer.
-- Assumes nothing.
use mathlib.Core.Path.{◌≡◌, refl}
use Rattle.std.specs.Prelude.{Result}
use Rattle.refusal.specs.declared.Refusal.{Refusal}
use Rattle.refusal.specs.declared.Read.{Read}
use Rattle.refusal.proofs.Kept.{outcome_once, read_once}
use Rattle.handlers.specs.declared.Brief.{Brief}
use Rattle.handlers.specs.declared.HandlerList as H
use Rattle.handlers.specs.Handlers.{KeptHandlers}
use Rattle.handlers.specs.Answers.{brief_outcome, list_outcome}

pub brief_once : (x y : Result (Read Brief) Refusal) → brief_outcome x ≡ brief_outcome y → x ≡ y
brief_once = read_once (λ (b : Brief). b) (λ (b : Brief). b) (λ b. refl)

pub list_once : (x y : Result H.HandlerList Refusal) → list_outcome x ≡ list_outcome y → x ≡ y
list_once = outcome_once (λ (x : H.HandlerList). record { count = x.count; brief = x.brief; first = x.first; end = x.end }) (λ (k : KeptHandlers). record { count = k.count; brief = k.brief; first = k.first; end = k.end }) (λ x. refl)
