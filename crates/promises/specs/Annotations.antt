-- What the one reading of a file says to each reader of annotations. `c` is a class, `e` an entry of its directory, `p` a parameter, `k` an annotation.
use Rattle.std.specs.Prelude.{ℕ, ◌≡◌, List, [], length}
use Rattle.std.proofs.Math.Option.{Option, none, some}
use Rattle.refusal.specs.Outcome.{answer}
use Rattle.refusal.specs.Exact.{At}
use Rattle.encoded_value.specs.Tree.{Named}
use Rattle.decoded_value.specs.Shown.{shown}
use Rattle.value_bodies.specs.Bodies.{ShownElement}
use Rattle.annotation_directories.specs.declared.DirectoryHead.{DirectoryHead}
use Rattle.annotation_directories.specs.Directories.{DirectoryEntry}
use Rattle.annotation_items.specs.Items.{AnnotationItem, Summary}
use Rattle.annotation_walk.specs.Below.{Under, Annotated}
use Rattle.directory_readers.specs.Directories.{directory, entry_number}
use Rattle.set_readers.specs.Sets.{class_set, entry_set, parameter_set, parameter_set_count, annotation_count, annotation_place}
use Rattle.value_readers.specs.Items.{annotation_of, annotation_element_of}
use Rattle.class_walk.specs.Classes.{ClassBelow}
use Rattle.whole_check.specs.File.{File}
use Rattle.promises.specs.Tables.{listed, part_of}

-- "An absent list is empty": a class without a directory has no entries and no annotations
abbrev pub under : {A : Type 0} → (Annotated → List A) → Option Annotated → List A
under part none = []
under part (some a) = part a

-- the head of a directory, and an entry: what they say of themselves, with nothing below
abbrev pub head_of : Option Annotated → Option DirectoryHead
head_of none = none
head_of (some a) = some (record { set = a.set; fields = length a.fields; methods = length a.methods; parameters = length a.parameters })

abbrev pub entry_under : {B : Type 0} → Under B → DirectoryEntry
entry_under u = record { index = u.index; offset = u.offset }

-- an annotation read out, and one of its elements
abbrev pub summary_of : AnnotationItem → Summary
summary_of a = record { visibility = a.visibility; type_index = a.annotation.type_index; count = length a.annotation.elements }

abbrev pub element_shown : Named → ShownElement
element_shown e = record { name = e.name; value = shown e.value }

-- an annotation of a directory: of the class, or of a field, a method or a parameter
pub data ItemOf (d : Annotated) (a : AnnotationItem) : Type 0 where
  of_class : {k : ℕ} → At (listed d.own) k a → ItemOf d a
  of_field : {e k : ℕ} {u : Under (List AnnotationItem)} → At d.fields e u → At u.below k a → ItemOf d a
  of_method : {e k : ℕ} {u : Under (List AnnotationItem)} → At d.methods e u → At u.below k a → ItemOf d a
  of_parameter : {e p k : ℕ} {u : Under (List (Option (List AnnotationItem)))} {l : Option (List AnnotationItem)} → At d.parameters e u → At u.below p l → At (listed l) k a → ItemOf d a

-- an annotation of the file
pub record ItemIn (r : File) (a : AnnotationItem) : Type 0 where
  pub number : ℕ
  pub class : ClassBelow
  pub class_is : At r.classes number class
  pub directory : Annotated
  pub directory_is : class.annotations ≡ some directory
  pub item_of : ItemOf directory a

pub record AnnotationReaders (f : List ℕ) (r : File) : Type 0 where
  pub head : (c : ℕ) → directory f c ≡ part_of c r.classes (λ b. answer (head_of b.annotations))
  -- ---- entries
  pub field_entry : (c e : ℕ) → entry_number f c 0 e ≡ part_of c r.classes (λ b. part_of e (under (λ d. d.fields) b.annotations) (λ u. answer (entry_under u)))
  pub method_entry : (c e : ℕ) → entry_number f c 1 e ≡ part_of c r.classes (λ b. part_of e (under (λ d. d.methods) b.annotations) (λ u. answer (entry_under u)))
  pub parameter_entry : (c e : ℕ) → entry_number f c 2 e ≡ part_of c r.classes (λ b. part_of e (under (λ d. d.parameters) b.annotations) (λ u. answer (entry_under u)))
  -- ---- how many annotations, and where each is
  pub class_count : (c : ℕ) → annotation_count f (class_set f c) ≡ part_of c r.classes (λ b. answer (length (under (λ d. listed d.own) b.annotations)))
  pub class_place : (c k : ℕ) → annotation_place f (class_set f c) k ≡ part_of c r.classes (λ b. part_of k (under (λ d. listed d.own) b.annotations) (λ a. answer a.place))
  pub field_count : (c e : ℕ) → annotation_count f (entry_set f c 0 e) ≡ part_of c r.classes (λ b. part_of e (under (λ d. d.fields) b.annotations) (λ u. answer (length u.below)))
  pub field_place : (c e k : ℕ)
      → annotation_place f (entry_set f c 0 e) k ≡ part_of c r.classes (λ b. part_of e (under (λ d. d.fields) b.annotations) (λ u. part_of k u.below (λ a. answer a.place)))
  pub method_count : (c e : ℕ) → annotation_count f (entry_set f c 1 e) ≡ part_of c r.classes (λ b. part_of e (under (λ d. d.methods) b.annotations) (λ u. answer (length u.below)))
  pub method_place : (c e k : ℕ)
      → annotation_place f (entry_set f c 1 e) k ≡ part_of c r.classes (λ b. part_of e (under (λ d. d.methods) b.annotations) (λ u. part_of k u.below (λ a. answer a.place)))
  -- absent sets are counted, and are empty
  pub set_count_lem : (c e : ℕ) → parameter_set_count f c e ≡ part_of c r.classes (λ b. part_of e (under (λ d. d.parameters) b.annotations) (λ u. answer (length u.below)))
  pub parameter_count_lem : (c e p : ℕ)
      → annotation_count f (parameter_set f c e p) ≡ part_of c r.classes (λ b. part_of e (under (λ d. d.parameters) b.annotations) (λ u. part_of p u.below (λ l. answer (length (listed l)))))
  pub parameter_place : (c e p k : ℕ)
      → annotation_place f (parameter_set f c e p) k ≡ part_of c r.classes (λ b. part_of e (under (λ d. d.parameters) b.annotations) (λ u. part_of p u.below (λ l. part_of k (listed l) (λ a. answer a.place))))
  -- ---- annotations by place: the places are those that the readers above answer
  pub annotation : {a : AnnotationItem} → ItemIn r a → annotation_of f a.place ≡ answer (summary_of a)
  pub element : {a : AnnotationItem} → ItemIn r a → (k : ℕ) → annotation_element_of f a.place k ≡ part_of k a.annotation.elements (λ n. answer (element_shown n))
