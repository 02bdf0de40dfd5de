-- Annotations: what it is that directories, sets and annotation items are answered. `c` is a class, `e` an entry of its directory, `p` a parameter.
use Rattle.std.specs.Prelude.{ℕ, ◌+◌, ◌*◌, ◌<◌, ◌≡◌, List, length}
use Rattle.std.proofs.Math.Option.{Option}
use Rattle.refusal.specs.Outcome.{Outcome, answer}
use Rattle.word.specs.Words.{u32_at}
use Rattle.header.specs.Header.{up_to_end}
use Rattle.annotation_items.specs.Items.{AnnotationItem}
use Rattle.annotation_walk.specs.Below.{Under, Annotated}
use Rattle.directory_readers.specs.Directories.{entry_number}
use Rattle.set_readers.specs.Sets.{entry_set, parameter_set, parameter_set_count, annotation_count, annotation_place}
use Rattle.value_readers.specs.Items.{annotation_of, annotation_element_of}
use Rattle.whole_check.specs.File.{File}
use Rattle.promises.specs.Tables.{listed}
use Rattle.promises.specs.Annotations.{entry_under, summary_of}
use Rattle.promises.specs.Numbers.{EachIn, There}
use Rattle.promises.specs.RowsAnswered.{TypeAnswered, FieldAnswered, MethodAnswered}
use Rattle.promises.specs.ValuesAnswered.{ElementsAnswered}

module _ (f : List ℕ) (r : File) where
  -- an annotation item, by its place: dex::annotation, dex::annotation_element
  pub record AnnotationAnswered (a : AnnotationItem) : Type 0 where
    pub annotation : annotation_of f a.place ≡ answer (summary_of a)
    pub kind : TypeAnswered f r a.annotation.type_index
    pub annotation_element : ElementsAnswered f r (annotation_element_of f a.place) a.annotation.elements

  -- a set: one reader answers how many annotations it has, another where each is, and at that place the annotation is answered
  pub record SetAnswered (count : Outcome ℕ) (place : ℕ → Outcome ℕ) (l : List AnnotationItem) : Type 0 where
    pub annotation_count_lem : count ≡ answer (length l)
    pub annotation_place_lem : EachIn l (λ k a. (place k ≡ answer a.place) × AnnotationAnswered a)

  -- an entry of list 0 or 1, whose index is answered as its own kind, and the set that it leads to
  pub record EntryAnswered (Own : ℕ → Type 0) (c list e : ℕ) (u : Under (List AnnotationItem)) : Type 0 where
    pub entry : entry_number f c list e ≡ answer (entry_under u)
    pub index : Own u.index
    pub set : SetAnswered (annotation_count f (entry_set f c list e)) (annotation_place f (entry_set f c list e)) u.below

  -- the offset of set p in the reference list at a place
  abbrev pub set_offset : ℕ → ℕ → ℕ
  set_offset place p = u32_at r.header.order (up_to_end f r.header) (place + 4 + 4 * p)

  -- set p of a reference list: dex::parameter_annotation_count, dex::parameter_annotation_place
  pub record ParameterAnswered (c e p offset : ℕ) (o : Option (List AnnotationItem)) : Type 0 where
    pub set_there : 0 < offset → There o
    pub set : SetAnswered (annotation_count f (parameter_set f c e p)) (annotation_place f (parameter_set f c e p)) (listed o)

  -- an entry of list 2, whose index is a method, and the reference list that it leads to: dex::parameter_entry, dex::parameter_set_count
  pub record ParameterEntryAnswered (c e : ℕ) (u : Under (List (Option (List AnnotationItem)))) : Type 0 where
    pub parameter_entry : entry_number f c 2 e ≡ answer (entry_under u)
    pub index : MethodAnswered f r u.index
    pub parameter_set_count_lem : parameter_set_count f c e ≡ answer (length u.below)
    pub parameter : EachIn u.below (λ p o. ParameterAnswered c e p (set_offset u.offset p) o)

  -- what lies below the directory of class c
  pub record DirectoryAnswered (c : ℕ) (d : Annotated) : Type 0 where
    pub class_set_there : 0 < d.set → There d.own
    -- dex::field_entry, dex::field_annotation_count, dex::field_annotation_place
    pub field_entry : EachIn d.fields (EntryAnswered (FieldAnswered f r) c 0)
    -- dex::method_entry, dex::method_annotation_count, dex::method_annotation_place
    pub method_entry : EachIn d.methods (EntryAnswered (MethodAnswered f r) c 1)
    pub parameter_entry : EachIn d.parameters (ParameterEntryAnswered c)
