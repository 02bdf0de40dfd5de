-- Document 02, ticket 1, as readings: static fields with their values, and the first whose value has the wrong kind.
use Rattle.std.specs.Prelude.{ℕ, ◌+◌, ◌*◌, Bool, true, false, cond, List, [], ◌∷◌, length, ltb, leb}
use Rattle.std.proofs.Math.Option.{Option, none, some}
use Rattle.refusal.specs.Refusals.{too_many_values}
use Rattle.refusal.specs.Outcome.{Outcome, answer, ◌>>=◌, given, present}
use Rattle.header.specs.declared.Header.{Header}
use Rattle.header.specs.Header.{up_to_end, plain_frame}
use Rattle.ids.specs.Records.{type_at, member_id_at}
use Rattle.string_ids.specs.Strings.{string_of}
use Rattle.class_members.specs.declared.Member.{Member}
use Rattle.class_data.specs.Data.{class_data_at}
use Rattle.encoded_value.specs.Tree.{Tree}
use Rattle.encoded_value.specs.Depth.{deepest}
use Rattle.encoded_value.specs.Readings.{array_at}
use Rattle.decoded_value.specs.Shown.{Shown, shown}
use Rattle.value_bodies.specs.Bodies.{pick}
use Rattle.static_kinds.specs.Kinds.{default, fits}
use Rattle.table_readers.specs.Head.{opened_at}
use Rattle.table_readers.specs.Tables.{class_in}
use Rattle.value_readers.specs.Opening.{walk_in}

-- a static field with its value: stored, or by default
pub record StaticField : Type 0 where
  pub field : ℕ
  pub flags : ℕ
  pub stored : Bool
  pub value : Shown

-- a static field whose value has the wrong kind: its number in the list, and the field's
pub record WrongKind : Type 0 where
  pub number : ℕ
  pub field : ℕ

abbrev pub with_value : Member → Bool → Shown → Outcome StaticField
with_value m stored v = answer (record { field = m.index; flags = m.flags; stored = stored; value = v })

-- ---- by plain data: fields, values, and what the text of a field's type is
module _ (text_of : ℕ → Outcome (List ℕ)) where
  -- "the zero, false or null that the field's type text calls for"
  unfoldable pub default_of : ℕ → Outcome Shown
  default_of n = do
    text ← text_of n
    answer (default text)

  -- does a value of this kind fit field n
  unfoldable pub fits_of : ℕ → ℕ → Outcome Bool
  fits_of n kind = do
    text ← text_of n
    answer (fits text kind)

  -- "give static field k together with its value: the k-th static value, or, past the end of the list, the zero, false or null that the field's type text calls for"
  unfoldable pub paired : ℕ → Member → List Tree → Outcome StaticField
  paired k m values = cond (ltb k (length values)) (pick k values >>= λ v. with_value m true (shown v)) (default_of m.index >>= with_value m false)

  -- "the first field whose value has the wrong kind, or "none"": fields from number k on, and the values that are stored for them. Fields past the list are not looked at
  unfoldable pub first_wrong : ℕ → List Member → List Tree → Outcome (Option WrongKind)
  first_wrong k fields [] = answer none
  first_wrong k [] (v ∷ values) = answer none
  first_wrong k (m ∷ fields) (v ∷ values) = do
    fit ← fits_of m.index (shown v).kind
    cond fit (first_wrong (k + 1) fields values) (answer (some (record { number = k; field = m.index })))

-- ---- in a file
-- where the record of class c is
abbrev pub class_place : Header → ℕ → ℕ
class_place header c = header.classes.offset + 32 * c

module _ (f : List ℕ) (header : Header) where
  -- the string that is the type of field n: the field's record, then the type's
  unfoldable pub type_string : ℕ → Outcome ℕ
  type_string n = do
    m ← member_id_at f (plain_frame header) header.types.count header.fields.offset n
    type_at f (plain_frame header) header.types.offset m.kind

  -- its text
  unfoldable pub type_text : ℕ → Outcome (List ℕ)
  type_text n = do
    t ← type_string n
    x ← string_of f header t
    answer x.bytes

  -- the static fields of class data, none where it is absent
  unfoldable pub fields_in : ℕ → Outcome (List Member)
  fields_in at = cond (ltb 0 at) (class_data_at (up_to_end f header) (plain_frame header) at >>= λ d. answer d.statics) (answer [])

  -- the static values: "An absent list is empty"
  unfoldable pub stored_in : ℕ → ℕ → Outcome (List Tree)
  stored_in handles at = cond (ltb 0 at) (array_at (up_to_end f header) (walk_in header handles at) deepest at >>= λ r. answer r.item) (answer [])

  -- class data whole, 7 for the field, static values whole, 21 at the class record
  unfoldable pub field_under : ℕ → ℕ → ℕ → ℕ → ℕ → Outcome StaticField
  field_under handles c k data_at values-at = do
    fields ← fields_in data_at
    m ← pick k fields
    values ← stored_in handles values-at
    given (leb (length values) (length fields)) (too_many_values (class_place header c)) (paired type_text k m values)

  -- the same without a field's number; without class data there are no static fields
  unfoldable pub wrong_under : ℕ → ℕ → ℕ → ℕ → Outcome (Option WrongKind)
  wrong_under handles c data_at values-at = do
    fields ← fields_in data_at
    values ← stored_in handles values-at
    given (leb (length values) (length fields)) (too_many_values (class_place header c)) (first_wrong type_text 0 fields values)

-- header, map, 7 for the class, its record. Of a class without class data there is none, whatever k is
unfoldable pub field_in : List ℕ → ℕ → ℕ → Header → ℕ → Outcome (Option StaticField)
field_in f c k header handles = class_in f c header >>= λ r. present r.«data» (field_under f header handles c k r.«data» r.values)

unfoldable pub static_field : List ℕ → ℕ → ℕ → Outcome (Option StaticField)
static_field f c k = opened_at f >>= λ o. field_in f c k o.header o.handles

unfoldable pub wrong_in : List ℕ → ℕ → Header → ℕ → Outcome (Option WrongKind)
wrong_in f c header handles = class_in f c header >>= λ r. wrong_under f header handles c r.«data» r.values

unfoldable pub wrong_kind : List ℕ → ℕ → Outcome (Option WrongKind)
wrong_kind f c = opened_at f >>= λ o. wrong_in f c o.header o.handles
