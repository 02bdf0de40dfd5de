-- Records by number as readings: header (1 to 6), the map where it is read, 7 for the number, the record's own rules.
use Rattle.std.specs.Prelude.{ℕ, List, ltb}
use Rattle.refusal.specs.Refusals.{not_there}
use Rattle.refusal.specs.Outcome.{Outcome, ◌>>=◌, given}
use Rattle.header.specs.declared.Header.{Header}
use Rattle.header.specs.Header.{header_at, frame_of, plain_frame}
use Rattle.map_list.specs.declared.MapList.{MapList}
use Rattle.map_list.specs.Map.{kept_at}
use Rattle.ids.specs.declared.Proto.{Proto}
use Rattle.ids.specs.declared.MemberId.{MemberId}
use Rattle.ids.specs.declared.Handle.{Handle}
use Rattle.ids.specs.Records.{type_at, proto_at, member_id_at, handle_at}
use Rattle.class_ids.specs.declared.Class.{Class}
use Rattle.class_ids.specs.Classes.{class_at}

unfoldable pub type_in : List ℕ → ℕ → Header → Outcome ℕ
type_in f n header = given (ltb n header.types.count) not_there (type_at f (plain_frame header) header.types.offset n)

unfoldable pub type_name : List ℕ → ℕ → Outcome ℕ
type_name f n = header_at f >>= type_in f n

unfoldable pub proto_in : List ℕ → ℕ → Header → Outcome Proto
proto_in f n header = given (ltb n header.protos.count) not_there (proto_at f (plain_frame header) header.end header.protos.offset n)

unfoldable pub proto_number : List ℕ → ℕ → Outcome Proto
proto_number f n = header_at f >>= proto_in f n

unfoldable pub field_in : List ℕ → ℕ → Header → Outcome MemberId
field_in f n header = given (ltb n header.fields.count) not_there (member_id_at f (plain_frame header) header.types.count header.fields.offset n)

unfoldable pub field_number : List ℕ → ℕ → Outcome MemberId
field_number f n = header_at f >>= field_in f n

unfoldable pub method_in : List ℕ → ℕ → Header → Outcome MemberId
method_in f n header = given (ltb n header.methods.count) not_there (member_id_at f (plain_frame header) header.protos.count header.methods.offset n)

unfoldable pub method_number : List ℕ → ℕ → Outcome MemberId
method_number f n = header_at f >>= method_in f n

unfoldable pub class_in : List ℕ → ℕ → Header → Outcome Class
class_in f n header = given (ltb n header.classes.count) not_there (class_at f (plain_frame header) header.end header.classes.offset n)

unfoldable pub class_number : List ℕ → ℕ → Outcome Class
class_number f n = header_at f >>= class_in f n

-- the table that the map names
unfoldable pub handle_under : List ℕ → ℕ → Header → MapList → Outcome Handle
handle_under f n header m = given (ltb n m.handles.count) not_there (handle_at f (frame_of header m.handles.count) m.handles.offset n)

unfoldable pub handle_in : List ℕ → ℕ → Header → Outcome Handle
handle_in f n header = kept_at f header >>= handle_under f n header

unfoldable pub handle_number : List ℕ → ℕ → Outcome Handle
handle_number f n = header_at f >>= handle_in f n
