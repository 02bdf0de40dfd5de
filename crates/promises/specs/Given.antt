-- "Every reader answers for each number and place that the file gives.": for each of the functions that dex hands out a line that has its name, or stands beside it.
-- From a number below its count one goes on to all that lies below it; an index is answered, where it stands, by the readers of its kind. `readers_agree` says what is
-- answered for every number, those too that are not there.
use Rattle.std.specs.Prelude.{ℕ, ◌-◌, ◌≤◌, ◌<◌, ◌≡◌, true, List, length}
use Rattle.std.proofs.Math.Option.{some}
use Rattle.refusal.specs.Outcome.{answer}
use Rattle.refusal.specs.Exact.{At}
use Rattle.word.specs.Bytes.{stretch}
use Rattle.header.specs.Header.{header_at}
use Rattle.class_data.specs.Data.{counts}
use Rattle.encoded_value.specs.Tree.{Named, Tree, index, array, annotation, trees, elements_of}
use Rattle.decoded_value.specs.Shown.{shown}
use Rattle.table_readers.specs.Head.{signature_of, map_count, map_entry, handle_count}
use Rattle.table_readers.specs.Strings.{find_string}
use Rattle.table_readers.specs.Tables.{class_number}
use Rattle.table_readers.specs.Lists as L
use Rattle.table_readers.specs.Flags.{class_flags}
use Rattle.class_readers.specs.Members.{class_data}
use Rattle.directory_readers.specs.Directories as D
use Rattle.set_readers.specs.Sets.{class_set, annotation_count, annotation_place}
use Rattle.value_readers.specs.Statics.{static_count, static_value}
use Rattle.static_fields.specs.Pairing.{StaticField, static_field, wrong_kind}
use Rattle.class_walk.specs.Classes.{ClassBelow}
use Rattle.whole_check.specs.File.{File, check_at}
use Rattle.promises.specs.Tables.{listed}
use Rattle.promises.specs.Annotations.{under, head_of}
use Rattle.promises.specs.Values.{ValueIn}
use Rattle.promises.specs.Statics.{fields_of}
use Rattle.promises.specs.Numbers.{Answers, EachIn, There, LeadsTo, IfGiven, none_or, flag_count}
use Rattle.promises.specs.RowsAnswered.{StringAnswered, TypeAnswered, TypesAnswered, ProtoAnswered, FieldAnswered, MethodAnswered, HandleAnswered}
use Rattle.promises.specs.ValuesAnswered.{ArrayAnswered, IndexAnswered, AnnotationBodyAnswered}
use Rattle.promises.specs.AnnotationsAnswered.{SetAnswered, DirectoryAnswered}
use Rattle.promises.specs.MethodsAnswered.{DataAnswered}

-- class n, with all that it leads to
pub record ClassAnswered (f : List ℕ) (r : File) (n : ℕ) : Type 0 where
  pub row : ClassBelow
  pub row_is : At r.classes n row
  pub class : class_number f n ≡ answer row.own
  pub own_type : TypeAnswered f r row.own.class
  pub superclass : IfGiven (TypeAnswered f r) row.own.superclass
  pub source : IfGiven (StringAnswered f r) row.own.source
  -- into an output that has room for them
  pub class_flags_lem : (room : ℕ) → flag_count true row.own.flags ≤ room → class_flags f n room ≡ answer (flag_count true row.own.flags)
  -- ---- interfaces
  pub interfaces_there : 0 < row.own.interfaces → There row.interfaces
  pub interface_count_lem : L.interface_count f n ≡ answer (length (listed row.interfaces))
  pub interface : TypesAnswered f r (L.interface f n) (listed row.interfaces)
  -- ---- annotations
  pub directory : D.directory f n ≡ answer (head_of row.annotations)
  pub directory_below : LeadsTo row.own.directory row.annotations (DirectoryAnswered f r n)
  -- dex::class_annotation_count, dex::class_annotation_place
  pub class_set_lem : SetAnswered f r (annotation_count f (class_set f n)) (annotation_place f (class_set f n)) (under (λ d. listed d.own) row.annotations)
  -- ---- class data
  pub class_data_lem : class_data f n ≡ answer (none_or (λ d. counts d.members) row.members)
  pub class_data_below : LeadsTo row.own.«data» row.members (DataAnswered f r n)
  -- ---- static values, by number, and as an array at their place
  pub static_value_count : static_count f n ≡ answer (length (listed row.values))
  pub static_value_lem : EachIn (listed row.values) (λ k v. static_value f n k ≡ answer (shown v))
  pub static_array : LeadsTo row.own.values row.values (λ l. (bytes : ℕ) × ArrayAnswered f row.own.values bytes l)
  -- ---- static fields with their values: each number below their count
  pub static_field_lem : EachIn (fields_of row.members) (λ k m. (a : StaticField) × (static_field f n k ≡ answer (some a)))
  pub wrong_kind_lem : Answers (wrong_kind f n)

pub record ReadersAnswer (f : List ℕ) (r : File) : Type 0 where
  -- ---- with no number
  pub check : check_at f ≡ answer tt
  pub header : header_at f ≡ answer r.header
  pub signature : signature_of f ≡ stretch f 12 20
  pub map_count_lem : map_count f ≡ answer (length r.map.entries)
  pub handle_count_lem : handle_count f ≡ answer r.map.handles.count
  pub find_string_lem : (text : List ℕ) → Answers (find_string f text)
  -- ---- numbers below the map's and the header's counts
  pub map_entry_lem : EachIn r.map.entries (λ k e. map_entry f k ≡ answer e)
  pub strings : (n : ℕ) → n < r.header.strings.count → StringAnswered f r n
  pub types : (n : ℕ) → n < r.header.types.count → TypeAnswered f r n
  pub protos : (n : ℕ) → n < r.header.protos.count → ProtoAnswered f r n
  pub fields : (n : ℕ) → n < r.header.fields.count → FieldAnswered f r n
  pub methods : (n : ℕ) → n < r.header.methods.count → MethodAnswered f r n
  pub handles : (n : ℕ) → n < r.map.handles.count → HandleAnswered f r n
  pub classes : (n : ℕ) → n < r.header.classes.count → ClassAnswered f r n
  -- ---- values of the file at any depth: indices, and "nested bodies' offsets"
  pub value_index : {code n : ℕ} → ValueIn r (index code n) → IndexAnswered f r code n
  pub value_array : {p q : ℕ} (vs : List Tree) → ValueIn r (array p q (trees vs)) → ArrayAnswered f p (q - p) vs
  pub value_annotation : {p q t : ℕ} (es : List Named) → ValueIn r (annotation p q t (elements_of es)) → AnnotationBodyAnswered f r p (q - p) t es
