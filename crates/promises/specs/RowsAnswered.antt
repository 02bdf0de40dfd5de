-- Rows of the tables: what it is that a number is answered by the readers of its kind, be it a table's number or "an index in the file".
-- `row` is what the one reading of the file has there. The indices that a row holds are answered in the same way.
use Rattle.std.specs.Prelude.{ℕ, ◌≤◌, ◌<◌, ◌≡◌, List, length}
use Rattle.refusal.specs.Outcome.{Outcome, answer}
use Rattle.refusal.specs.Exact.{At}
use Rattle.text.specs.Text.{Text}
use Rattle.ids.specs.declared.MemberId.{MemberId}
use Rattle.ids.specs.declared.Handle.{Handle}
use Rattle.table_readers.specs.Strings.{string_number, string_extent_of, bytes_of}
use Rattle.table_readers.specs.Tables.{type_name, proto_number, field_number, method_number, handle_number}
use Rattle.table_readers.specs.Lists as L
use Rattle.whole_check.specs.File.{ProtoBelow, File}
use Rattle.promises.specs.Tables.{listed}
use Rattle.promises.specs.Numbers.{EachIn, There}

module _ (f : List ℕ) (r : File) where
  -- dex::string, dex::string_bytes
  pub record StringAnswered (n : ℕ) : Type 0 where
    pub row : Text
    pub row_is : At r.strings n row
    pub string : string_extent_of f n ≡ answer (record { start = row.start; length = length row.bytes; units = length row.units })
    pub string_bytes : bytes_of (string_number f n) ≡ row.bytes

  -- dex::type_name
  pub record TypeAnswered (n : ℕ) : Type 0 where
    pub row : ℕ
    pub row_is : At r.types n row
    pub type_name_lem : type_name f n ≡ answer row
    pub name : StringAnswered row

  -- a list of types: a reader answers each number of it, and the readers of types each type
  abbrev pub TypesAnswered : (ℕ → Outcome ℕ) → List ℕ → Type 0
  TypesAnswered reader l = EachIn l (λ k t. (reader k ≡ answer t) × TypeAnswered t)

  -- dex::proto, dex::parameter_count, dex::parameter
  pub record ProtoAnswered (n : ℕ) : Type 0 where
    pub row : ProtoBelow
    pub row_is : At r.protos n row
    pub proto : proto_number f n ≡ answer row.own
    pub shorty : StringAnswered row.own.shorty
    pub return_type_lem : TypeAnswered row.own.return_type
    pub parameters_there : 0 < row.own.parameters → There row.parameters
    pub parameter_count_lem : L.parameter_count f n ≡ answer (length (listed row.parameters))
    pub parameter : TypesAnswered (L.parameter f n) (listed row.parameters)

  -- dex::field
  pub record FieldAnswered (n : ℕ) : Type 0 where
    pub row : MemberId
    pub row_is : At r.fields n row
    pub field : field_number f n ≡ answer row
    pub class : TypeAnswered row.class
    pub kind : TypeAnswered row.kind
    pub name : StringAnswered row.name

  -- dex::method
  pub record MethodAnswered (n : ℕ) : Type 0 where
    pub row : MemberId
    pub row_is : At r.methods n row
    pub method : method_number f n ≡ answer row
    pub class : TypeAnswered row.class
    pub kind : ProtoAnswered row.kind
    pub name : StringAnswered row.name

  -- dex::handle. "Handle types 0 to 3 name a field, 4 to 8 a method."
  pub record HandleAnswered (n : ℕ) : Type 0 where
    pub row : Handle
    pub row_is : At r.handles n row
    pub handle : handle_number f n ≡ answer row
    pub names_field : row.kind ≤ 3 → FieldAnswered row.number
    pub names_method : 3 < row.kind → MethodAnswered row.number
