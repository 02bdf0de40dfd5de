-- What an answer of the code says, no other answer says: a contract `meaning of the answer ≡ reading` allows one answer.
-- Assumes nothing.
use mathlib.Core.Path.{◌≡◌, refl}
use Rattle.refusal.proofs.Kept.{maybe_once}
use Rattle.std.specs.Prelude.{Result}
use Rattle.decoded_value.specs.Shown.{value_shown}
use Rattle.decoded_value.proofs.Once.{value_back, value_back_told}
use Rattle.static_fields.specs.Pairing.{StaticField, WrongKind}
use Rattle.std.specs.Prelude as S
use Rattle.refusal.specs.declared.Refusal.{Refusal}
use Rattle.static_fields.specs.declared.StaticField as A
use Rattle.static_fields.specs.declared.WrongKind as W
use Rattle.static_fields.specs.Answers.{as_field, maybe_field, maybe_wrong}

pub field_once : (x y : Result (S.Option A.StaticField) Refusal) → maybe_field x ≡ maybe_field y → x ≡ y
field_once = maybe_once (λ (x : A.StaticField). as_field x.field x.flags x.stored (value_shown x.value)) (λ (r : StaticField). record { field = r.field; flags = r.flags; stored = r.stored; value = value_back r.value })
    (λ x i. record { field = x.field; flags = x.flags; stored = x.stored; value = value_back_told x.value i })

pub wrong_once : (x y : Result (S.Option W.WrongKind) Refusal) → maybe_wrong x ≡ maybe_wrong y → x ≡ y
wrong_once = maybe_once (λ (x : W.WrongKind). record { number = x.k; field = x.field }) (λ (r : WrongKind). record { k = r.number; field = r.field }) (λ x. refl)
