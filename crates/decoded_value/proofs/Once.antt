-- What an answer of the code says, no other answer says: a contract `outcome r ≡ reading` allows one answer.
-- Assumes nothing.
use Prim.Native.Nat.{ℕ}
use mathlib.Core.Path.{◌≡◌, refl, ap, sym, ◌∙◌}
use mathlib.Core.Bool.{cond}
use lib.Dec.{eqb}
use Rattle.std.specs.Prelude.{Result}
use Rattle.refusal.specs.declared.Refusal.{Refusal}
use Rattle.refusal.specs.declared.Read.{Read}
use Rattle.refusal.proofs.Kept.{read_once}
use Rattle.decoded_value.specs.Shown.{Content, integer, natural, floating, row_number, body, nothing, truth, Shown, value_shown}
use Rattle.decoded_value.specs.Readings.{decoded_outcome}
use Rattle.decoded_value.specs.declared.Value as Code

-- the value of a kind with its content
by_kind : ℕ → Content → Code.Value
by_kind k (integer z) =
    cond (eqb k 0x00) (Code.TheVariants.Byte z)
    (cond (eqb k 0x02) (Code.TheVariants.Short z)
    (cond (eqb k 0x04) (Code.TheVariants.Int z) (Code.TheVariants.Long z)))
by_kind k (natural n) = Code.TheVariants.Char n
by_kind k (floating b x) = cond (eqb k 0x10) (Code.TheVariants.Float b x) (Code.TheVariants.Double b x)
by_kind k (row_number n) = Code.TheVariants.Index k n
by_kind k (body o l) = cond (eqb k 0x1c) (Code.TheVariants.Array o l) (Code.TheVariants.Annotation o l)
by_kind k nothing = Code.TheVariants.Null
by_kind k (truth b) = Code.TheVariants.Boolean b

value_told : (x : Code.Value) → by_kind (value_shown x).kind (value_shown x).content ≡ x
unfolding by_kind
value_told (Code.TheVariants.Byte z) = refl
value_told (Code.TheVariants.Short z) = refl
value_told (Code.TheVariants.Char n) = refl
value_told (Code.TheVariants.Int z) = refl
value_told (Code.TheVariants.Long z) = refl
value_told (Code.TheVariants.Float b x) = refl
value_told (Code.TheVariants.Double b x) = refl
value_told (Code.TheVariants.Index k n) = refl
value_told (Code.TheVariants.Array o l) = refl
value_told (Code.TheVariants.Annotation o l) = refl
value_told Code.TheVariants.Null = refl
value_told (Code.TheVariants.Boolean b) = refl

-- the value of what is read out
pub value_back : Shown → Code.Value
value_back v = by_kind v.kind v.content

pub value_back_told : (x : Code.Value) → value_back (value_shown x) ≡ x
unfolding value_back
value_back_told = value_told

pub value_once : (x y : Code.Value) → value_shown x ≡ value_shown y → x ≡ y
value_once x y e = sym (value_back_told x) ∙ ap value_back e ∙ value_back_told y

pub decoded_once : (x y : Result (Read Code.Value) Refusal) → decoded_outcome x ≡ decoded_outcome y → x ≡ y
decoded_once = read_once value_shown value_back value_back_told
