-- What an answer of the code says, no other answer says: a contract `outcome r ≡ reading` allows one answer.
-- Assumes nothing.
use mathlib.Core.Path.{◌≡◌, refl}
use Rattle.std.specs.Prelude.{Result}
use Rattle.refusal.specs.declared.Refusal.{Refusal}
use Rattle.refusal.proofs.Kept.{outcome_once}
use Rattle.code_bodies.specs.Code.{KeptCode}
use Rattle.code_bodies.specs.Answers.{kept_code_outcome}
use Rattle.code_bodies.specs.declared.KeptCode as K

pub kept_once : (x y : Result K.KeptCode Refusal) → kept_code_outcome x ≡ kept_code_outcome y → x ≡ y
kept_once = outcome_once (λ (x : K.KeptCode). record { head = x.head; attempt = x.attempt; link = x.link; handlers = x.handlers; brief = x.brief; from = x.from; base = x.base; end = x.end })
    (λ (x : KeptCode). record { head = x.head; attempt = x.attempt; link = x.link; handlers = x.handlers; brief = x.brief; from = x.from; base = x.base; end = x.end }) (λ x. refl)
