-- What the one reading of a file says to each reader of header, map, records, texts and type lists.
-- `pick k l` is number k of a list, and 7 exactly where there is no such number: so each line says that the reader answers, and what.
use Rattle.std.specs.Prelude.{ℕ, ◌≡◌, true, List, [], length}
use Rattle.std.proofs.Math.Option.{Option, none, some}
use Rattle.refusal.specs.Outcome.{Outcome, answer, refused, ◌>>=◌}
use Rattle.word.specs.Bytes.{stretch}
use Rattle.header.specs.Header.{header_at}
use Rattle.text.specs.Text.{extent}
use Rattle.value_bodies.specs.Bodies.{pick}
use Rattle.access_flags.specs.Flags.{written, content}
use Rattle.table_readers.specs.Head.{signature_of, map_count, map_entry, handle_count}
use Rattle.table_readers.specs.Strings.{string_number, string_extent_of}
use Rattle.table_readers.specs.Tables.{type_name, proto_number, field_number, method_number, class_number, handle_number}
use Rattle.table_readers.specs.Lists as L
use Rattle.table_readers.specs.Flags.{class_flags, class_content}
use Rattle.class_walk.specs.Classes.{ClassBelow}
use Rattle.whole_check.specs.File.{File}

-- an absent list is empty
abbrev pub listed : {A : Type 0} → Option (List A) → List A
listed none = []
listed (some l) = l

-- of record n of a table, a part
abbrev pub part_of : {A B : Type 0} → ℕ → List A → (A → Outcome B) → Outcome B
part_of n l k = pick n l >>= k

-- the output after the flags of a class
abbrev pub flags_left : Outcome ClassBelow → List ℕ → List ℕ
flags_left (answer c) out = content true c.own.flags out
flags_left (refused r) out = out

pub record TableReaders (f : List ℕ) (r : File) : Type 0 where
  pub header : header_at f ≡ answer r.header
  pub signature : signature_of f ≡ stretch f 12 20
  pub map_count_lem : map_count f ≡ answer (length r.map.entries)
  pub map_entry_lem : (k : ℕ) → map_entry f k ≡ pick k r.map.entries
  pub string : (n : ℕ) → string_extent_of f n ≡ part_of n r.strings extent
  pub string_bytes : (n : ℕ) → string_number f n ≡ pick n r.strings
  pub type_name_lem : (n : ℕ) → type_name f n ≡ pick n r.types
  pub proto : (n : ℕ) → proto_number f n ≡ part_of n r.protos (λ p. answer p.own)
  pub parameter_count_lem : (n : ℕ) → L.parameter_count f n ≡ part_of n r.protos (λ p. answer (length (listed p.parameters)))
  pub parameter : (n k : ℕ) → L.parameter f n k ≡ part_of n r.protos (λ p. pick k (listed p.parameters))
  pub field : (n : ℕ) → field_number f n ≡ pick n r.fields
  pub method : (n : ℕ) → method_number f n ≡ pick n r.methods
  pub handle_count_lem : handle_count f ≡ answer (length r.handles)
  pub handle : (n : ℕ) → handle_number f n ≡ pick n r.handles
  pub class : (n : ℕ) → class_number f n ≡ part_of n r.classes (λ c. answer c.own)
  pub interface_count_lem : (n : ℕ) → L.interface_count f n ≡ part_of n r.classes (λ c. answer (length (listed c.interfaces)))
  pub interface : (n k : ℕ) → L.interface f n k ≡ part_of n r.classes (λ c. pick k (listed c.interfaces))
  pub class_flags_lem : (n room : ℕ) → class_flags f n room ≡ part_of n r.classes (λ c. written true c.own.flags room)
  pub class_content_lem : (n : ℕ) (out : List ℕ) → class_content f n out ≡ flags_left (pick n r.classes) out
