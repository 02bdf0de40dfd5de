-- Values: what it is that an index, an array or an annotation body is answered.
use Rattle.std.specs.Prelude.{ℕ, ◌≡◌, List, length}
use Rattle.refusal.specs.Outcome.{Outcome, answer}
use Rattle.encoded_value.specs.Tree.{Named, Tree}
use Rattle.decoded_value.specs.Shown.{shown}
use Rattle.value_bodies.specs.Bodies.{ShownElement}
use Rattle.value_readers.specs.Bodies.{array_of, array_value_of, body_of, body_element_of}
use Rattle.whole_check.specs.File.{File}
use Rattle.promises.specs.Annotations.{element_shown}
use Rattle.promises.specs.Numbers.{EachIn}
use Rattle.promises.specs.RowsAnswered.{StringAnswered, TypeAnswered, ProtoAnswered, FieldAnswered, MethodAnswered, HandleAnswered}

-- an array at a place, so many bytes long: dex::array, dex::array_value
pub record ArrayAnswered (f : List ℕ) (place bytes : ℕ) (l : List Tree) : Type 0 where
  pub array : array_of f place ≡ answer (record { count = length l; length = bytes })
  pub array_value_lem : EachIn l (λ k v. array_value_of f place k ≡ answer (shown v))

module _ (f : List ℕ) (r : File) where
  -- an index by its code: "15 proto, 16 handle, 17 string, 18 type, 19 field, 1a method, 1b enum (a field)"
  pub data IndexAnswered : ℕ → ℕ → Type 0 where
    a_proto : {n : ℕ} → ProtoAnswered f r n → IndexAnswered 0x15 n
    a_handle : {n : ℕ} → HandleAnswered f r n → IndexAnswered 0x16 n
    a_string : {n : ℕ} → StringAnswered f r n → IndexAnswered 0x17 n
    a_type : {n : ℕ} → TypeAnswered f r n → IndexAnswered 0x18 n
    a_field : {n : ℕ} → FieldAnswered f r n → IndexAnswered 0x19 n
    a_method : {n : ℕ} → MethodAnswered f r n → IndexAnswered 0x1a n
    an_enum : {n : ℕ} → FieldAnswered f r n → IndexAnswered 0x1b n

  -- named values: a reader answers each number of them, and the readers of strings each name
  abbrev pub ElementsAnswered : (ℕ → Outcome ShownElement) → List Named → Type 0
  ElementsAnswered reader l = EachIn l (λ k e. (reader k ≡ answer (element_shown e)) × StringAnswered f r e.name)

  -- an annotation body at a place, so many bytes long: dex::annotation_body, dex::annotation_body_element
  pub record AnnotationBodyAnswered (place bytes type_index : ℕ) (l : List Named) : Type 0 where
    pub annotation_body : body_of f place ≡ answer (record { type_index = type_index; count = length l; length = bytes })
    pub kind : TypeAnswered f r type_index
    pub annotation_body_element : ElementsAnswered (body_element_of f place) l
