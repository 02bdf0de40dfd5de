-- Document 01's "Depth 64 accepted, 65 refused", computed from bytes. The numbers stand here as numerals: a `deepest` that is another number is refused,
-- also where rule, reading and code follow it.
-- Assumes nothing.
use Prim.Native.Nat.{ℕ, zero, suc}
use mathlib.Core.Path.{◌≡◌, refl}
use mathlib.Core.List.{List, [], ◌∷◌}
use Rattle.refusal.specs.Refusals.{nested_too_deep}
use Rattle.refusal.specs.Outcome.{answer, refused, ◌>>=◌, given}
use Rattle.refusal.specs.Rows.{collect}
use Rattle.leb128.specs.Leb.{bytes_at, weight, uleb_at}
use Rattle.value_heads.specs.declared.Walk.{Walk}
use Rattle.value_heads.specs.Kinds.{arguments, allowed_head}
use Rattle.value_heads.specs.Readings.{head_byte_at, index_at}
use Rattle.encoded_value.specs.Depth.{deepest}
use Rattle.encoded_value.specs.Readings.{array_with, named_with, annotation_with, kind_with, value_with, value_at, array_at, annotation_at, past_array, past_annotation}

-- the item at 7, in a file of one string and one type
pub item : Walk
item = record { item = 7; strings = 1; types = 1; protos = 0; fields = 0; methods = 0; handles = 0 }

-- so many arrays, or annotations, one inside the other; the innermost is empty
pub arrays : ℕ → List ℕ
arrays zero = []
arrays (suc zero) = 0 ∷ []
arrays (suc (suc n)) = 1 ∷ 0x1c ∷ arrays (suc n)

pub annotations : ℕ → List ℕ
annotations zero = []
annotations (suc zero) = 0 ∷ 0 ∷ []
annotations (suc (suc n)) = 0 ∷ 1 ∷ 0 ∷ 0x1d ∷ annotations (suc n)

pub record AtTheLimit : Type 0 where
  pub array_64 : past_array (arrays 64) item deepest 0 ≡ answer 127
  pub array_65 : past_array (arrays 65) item deepest 0 ≡ refused (nested_too_deep 7)
  pub annotation_64 : past_annotation (annotations 64) item deepest 0 ≡ answer 254
  pub annotation_65 : past_annotation (annotations 65) item deepest 0 ≡ refused (nested_too_deep 7)

pub at_the_limit : AtTheLimit
unfolding item arrays annotations bytes_at weight uleb_at arguments allowed_head head_byte_at index_at array_with named_with annotation_with kind_with value_with value_at array_at annotation_at collect given ◌>>=◌
at_the_limit = record { array_64 = refl; array_65 = refl; annotation_64 = refl; annotation_65 = refl }
