-- A whole file: everything that it says, in the order of the whole check.
use Rattle.std.specs.Prelude.{ℕ, List}
use Rattle.std.proofs.Math.Option.{Option}
use Rattle.refusal.specs.Outcome.{Outcome, answer, ◌>>=◌, accepted}
use Rattle.refusal.specs.Rows.{every}
use Rattle.header.specs.declared.Header.{Header}
use Rattle.header.specs.Header.{header_at, frame_of, plain_frame}
use Rattle.map_list.specs.Map.{Map, map_at}
use Rattle.text.specs.Text.{Text}
use Rattle.string_ids.specs.Strings.{strings_at}
use Rattle.ids.specs.declared.Proto.{Proto}
use Rattle.ids.specs.declared.MemberId.{MemberId}
use Rattle.ids.specs.declared.Handle.{Handle}
use Rattle.ids.specs.Records.{types_at, proto_at, member_id_at, handle_at}
use Rattle.type_list.specs.Below.{types_below}
use Rattle.class_walk.specs.Classes as C

-- a proto with its parameters
pub record ProtoBelow : Type 0 where
  pub own : Proto
  pub parameters : Option (List ℕ)

-- what a file says
pub record File : Type 0 where
  pub header : Header
  pub map : Map
  pub strings : List Text
  pub types : List ℕ
  pub protos : List ProtoBelow
  pub fields : List MemberId
  pub methods : List MemberId
  pub handles : List Handle
  pub classes : List C.ClassBelow

module _ (f : List ℕ) (header : Header) where
  -- proto n: its record, then its parameter list
  unfoldable pub proto_below : ℕ → Outcome ProtoBelow
  proto_below n = do
    p ← proto_at f (plain_frame header) header.end header.protos.offset n
    l ← types_below f header p.parameters
    answer (record { own = p; parameters = l })

  abbrev pub field_at : ℕ → Outcome MemberId
  field_at = member_id_at f (plain_frame header) header.types.count header.fields.offset

  abbrev pub method_at : ℕ → Outcome MemberId
  method_at = member_id_at f (plain_frame header) header.protos.count header.methods.offset

  abbrev pub handle_in : Map → ℕ → Outcome Handle
  handle_in m = handle_at f (frame_of header m.handles.count) m.handles.offset

  -- "strings; types; protos with their parameter lists; fields; methods; handles; classes by number"
  unfoldable pub tables_at : Map → Outcome File
  tables_at m = do
    strings ← strings_at f header
    types ← types_at f (plain_frame header) header.types.offset header.types.count
    protos ← every proto_below header.protos.count
    fields ← every field_at header.fields.count
    methods ← every method_at header.methods.count
    handles ← every (handle_in m) m.handles.count
    classes ← every (C.class_below f header m.handles.count) header.classes.count
    answer (record { header = header; map = m; strings = strings; types = types; protos = protos; fields = fields; methods = methods; handles = handles; classes = classes })

-- "Header; map; .."
unfoldable pub file_at : List ℕ → Outcome File
file_at f = do
  header ← header_at f
  m ← map_at f header
  tables_at f header m

-- the check keeps only that there is an answer: "The first broken rule is answered."
unfoldable pub check_at : List ℕ → Outcome Unit
check_at f = file_at f >>= accepted

-- what is said of a file: its header where it is accepted, otherwise the refusal
unfoldable pub verdict_at : List ℕ → Outcome Header
verdict_at f = do
  u ← check_at f
  header_at f
