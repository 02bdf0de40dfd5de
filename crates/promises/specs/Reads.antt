-- What it is to say something, for a whole file: header, map, "for each k below the count", and every item that is reached. No walk, no order of tests, no refusal.
use Rattle.std.specs.Prelude.{ℕ, List}
use Rattle.refusal.specs.Exact.{Each}
use Rattle.header.specs.declared.Header.{Header}
use Rattle.header.specs.Header.{frame_of, plain_frame}
use Rattle.header.specs.Rules.{HeaderRule}
use Rattle.map_list.specs.Rules.{MapRule}
use Rattle.string_ids.specs.Rules.{StringsRule}
use Rattle.type_list.specs.Rules.{TypesBelowRule}
use Rattle.ids.specs.Rules.{TypeTableRule, ProtoRule, MemberIdRule, HandleRule}
use Rattle.class_walk.specs.Rules as W
use Rattle.whole_check.specs.File.{ProtoBelow, File}

-- proto n: its record, and the list of types that it leads to
pub record ProtoBelowRule (f : List ℕ) (header : Header) (n : ℕ) (p : ProtoBelow) : Type 0 where
  pub own : ProtoRule f (plain_frame header) header.end header.protos.offset n p.own
  pub parameters : TypesBelowRule f header p.own.parameters p.parameters

-- this file says r
pub record Reads (f : List ℕ) (r : File) : Type 0 where
  pub header : HeaderRule f r.header
  pub map : MapRule f r.header r.map
  pub strings : StringsRule f r.header r.strings
  pub types : TypeTableRule f (plain_frame r.header) r.header.types.offset r.header.types.count r.types
  pub protos : Each (ProtoBelowRule f r.header) r.header.protos.count r.protos
  pub fields : Each (MemberIdRule f (plain_frame r.header) r.header.types.count r.header.fields.offset) r.header.fields.count r.fields
  pub methods : Each (MemberIdRule f (plain_frame r.header) r.header.protos.count r.header.methods.offset) r.header.methods.count r.methods
  pub handles : Each (HandleRule f (frame_of r.header r.map.handles.count) r.map.handles.offset) r.map.handles.count r.handles
  pub classes : Each (W.ClassBelowRule f r.header r.map.handles.count) r.header.classes.count r.classes

-- the file obeys the rules
abbrev pub Obeys : List ℕ → Type 0
Obeys f = (r : File) × Reads f r
