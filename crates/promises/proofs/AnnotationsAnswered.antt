-- On a file of which a reading is known, each directory, set and annotation item is answered.
-- Assumes nothing.
use Prim.Native.Nat.{ℕ}
use mathlib.Core.Path.{◌≡◌, refl, sym, subst, ◌∙◌}
use mathlib.Core.Option.{Option, none, some}
use mathlib.Core.List.{List}
use lib.ListN.{length}
use native.Mathlib.Omega.{arith}
use Rattle.refusal.specs.Outcome.{Outcome, answer, ◌>>=◌}
use Rattle.refusal.specs.Exact.{Present, At}
use Rattle.refusal.proofs.Laws.{bind_answer}
use Rattle.refusal.proofs.Each.{at_below}
use Rattle.header.specs.Header.{up_to_end, frame_of}
use Rattle.value_bodies.specs.Bodies.{pick}
use Rattle.value_bodies.proofs.Picks.{pick_there}
use Rattle.annotation_items.specs.Items.{AnnotationItem}
use Rattle.annotation_walk.specs.Below.{Under, Annotated}
use Rattle.annotation_walk.specs.Rules.{SetBelow, ReferencesBelow, DirectoryBelow}
use Rattle.set_readers.specs.Sets.{class_set, entry_set, parameter_set, annotation_count, annotation_place}
use Rattle.value_readers.specs.Items.{annotation_element_of}
use Rattle.class_walk.specs.Classes.{ClassBelow}
use Rattle.whole_check.specs.File.{File}
use Rattle.promises.specs.Reads.{Reads}
use Rattle.promises.specs.Tables.{listed}
use Rattle.promises.specs.Annotations.{under, ItemOf, of_class, of_field, of_method, of_parameter, ItemIn}
use Rattle.promises.specs.AnnotationsAnswered.{AnnotationAnswered, SetAnswered, EntryAnswered, ParameterEntryAnswered, DirectoryAnswered}
use Rattle.promises.specs.RowsAnswered.{FieldAnswered, MethodAnswered}
use Rattle.promises.proofs.Annotations.{annotations_agree}
use Rattle.promises.proofs.ValueIndices.{value_indices}
use Rattle.promises.proofs.Numbers.{each_number, is_there}
use Rattle.promises.proofs.RowsAnswered.{type_answered, field_answered, method_answered}
use Rattle.promises.proofs.ValuesAnswered.{elements_answered}

-- what is found under a directory that may be absent is found under one that is there
under_there : {A : Type 0} (part : Annotated → List A) (o : Option Annotated) {k : ℕ} {a : A} → At (under part o) k a → (d : Annotated) × (o ≡ some d) × At (part d) k a
under_there part none m = absurd (let l = at_below m in omega arith)
under_there part (some d) m = (d, refl, m)

there_under : {A : Type 0} (part : Annotated → List A) {o : Option Annotated} {d : Annotated} {k : ℕ} {a : A} → o ≡ some d → At (part d) k a → At (under part o) k a
there_under part {k = k} {a = a} e m = subst (λ (x : Option Annotated). At (under part x) k a) (sym e) m

module _ (f : List ℕ) {r : File} (reads : Reads f r) where
  annotation_answered : {a : AnnotationItem} → ItemIn r a → AnnotationAnswered f r a
  annotation_answered {a} i =
      let notes = annotations_agree f reads in
      let low = value_indices f reads in
      record {
        annotation = notes.annotation i;
        kind = type_answered f reads _ (low.item_type i);
        annotation_element = elements_answered f reads (annotation_element_of f a.place) a.annotation.elements (λ k. notes.element i k) (λ k e m. low.item_name i m);
      }

  set_answered : (count : Outcome ℕ) (place : ℕ → Outcome ℕ) (l : List AnnotationItem) → count ≡ answer (length l) → ((k : ℕ) → place k ≡ (pick k l >>= λ (a : AnnotationItem). answer a.place))
      → ((k : ℕ) (a : AnnotationItem) → At l k a → ItemIn r a) → SetAnswered f r count place l
  set_answered count place l counted placed items =
      record { annotation_count_lem = counted; annotation_place_lem = each_number l (λ k a m. (placed k ∙ bind_answer _ (pick_there m), annotation_answered (items k a m))) }

  module _ (c : ℕ) {b : ClassBelow} (class_is : At r.classes c b) where
    -- the set of a class
    pub class_set_answered : SetAnswered f r (annotation_count f (class_set f c)) (annotation_place f (class_set f c)) (under (λ (d : Annotated). listed d.own) b.annotations)
    class_set_answered =
        let notes = annotations_agree f reads in
        set_answered (annotation_count f (class_set f c)) (annotation_place f (class_set f c)) (under (λ (d : Annotated). listed d.own) b.annotations)
        (notes.class_count c ∙ bind_answer _ (pick_there class_is)) (λ k. notes.class_place c k ∙ bind_answer _ (pick_there class_is))
        (λ k a m.
        let d = under_there (λ (d : Annotated). listed d.own) b.annotations m in
        record { number = c; class = b; class_is = class_is; directory = d.0; directory_is = d.1; item_of = of_class d.2 })

    module _ (d : Annotated) (directory_is : b.annotations ≡ some d) where
      item : {a : AnnotationItem} → ItemOf d a → ItemIn r a
      item i = record { number = c; class = b; class_is = class_is; directory = d; directory_is = directory_is; item_of = i }

      field_answers : (e : ℕ) (u : Under (List AnnotationItem)) → At d.fields e u → EntryAnswered f r (FieldAnswered f r) c 0 e u
      field_answers e u m =
          let notes = annotations_agree f reads in
          let w = there_under (λ (x : Annotated). x.fields) directory_is m in
          record {
            entry = notes.field_entry c e ∙ bind_answer _ (pick_there class_is) ∙ bind_answer _ (pick_there w);
            index = field_answered f reads _ ((value_indices f reads).field_index class_is w);
            set = set_answered (annotation_count f (entry_set f c 0 e)) (annotation_place f (entry_set f c 0 e)) u.below
                (notes.field_count c e ∙ bind_answer _ (pick_there class_is) ∙ bind_answer _ (pick_there w))
                (λ k. notes.field_place c e k ∙ bind_answer _ (pick_there class_is) ∙ bind_answer _ (pick_there w))
                (λ k a q. item (of_field m q));
          }

      method_answers : (e : ℕ) (u : Under (List AnnotationItem)) → At d.methods e u → EntryAnswered f r (MethodAnswered f r) c 1 e u
      method_answers e u m =
          let notes = annotations_agree f reads in
          let w = there_under (λ (x : Annotated). x.methods) directory_is m in
          record {
            entry = notes.method_entry c e ∙ bind_answer _ (pick_there class_is) ∙ bind_answer _ (pick_there w);
            index = method_answered f reads _ ((value_indices f reads).method_index class_is w);
            set = set_answered (annotation_count f (entry_set f c 1 e)) (annotation_place f (entry_set f c 1 e)) u.below
                (notes.method_count c e ∙ bind_answer _ (pick_there class_is) ∙ bind_answer _ (pick_there w))
                (λ k. notes.method_place c e k ∙ bind_answer _ (pick_there class_is) ∙ bind_answer _ (pick_there w))
                (λ k a q. item (of_method m q));
          }

      module _ {at : ℕ} (rule : DirectoryBelow (up_to_end f r.header) (frame_of r.header r.map.handles.count) at d) where
        parameter_answers : (e : ℕ) (u : Under (List (Option (List AnnotationItem)))) → At d.parameters e u → ParameterEntryAnswered f r c e u
        parameter_answers e u m =
            let notes = annotations_agree f reads in
            let w = there_under (λ (x : Annotated). x.parameters) directory_is m in
            let entry = rule.parameters.each m in
            let list = subst (λ (x : ℕ). ReferencesBelow (up_to_end f r.header) (frame_of r.header r.map.handles.count) x u.below) entry.offset entry.below in
            record {
              parameter_entry = notes.parameter_entry c e ∙ bind_answer _ (pick_there class_is) ∙ bind_answer _ (pick_there w);
              index = method_answered f reads _ ((value_indices f reads).parameter_index class_is w);
              parameter_set_count_lem = notes.set_count_lem c e ∙ bind_answer _ (pick_there class_is) ∙ bind_answer _ (pick_there w);
              parameter = each_number u.below (λ p o q. record {
                set_there = is_there (list.sets.each q);
                set = set_answered (annotation_count f (parameter_set f c e p)) (annotation_place f (parameter_set f c e p)) (listed o)
                    (notes.parameter_count_lem c e p ∙ bind_answer _ (pick_there class_is) ∙ bind_answer _ (pick_there w) ∙ bind_answer _ (pick_there q))
                    (λ k. notes.parameter_place c e p k ∙ bind_answer _ (pick_there class_is) ∙ bind_answer _ (pick_there w) ∙ bind_answer _ (pick_there q))
                    (λ k a i. item (of_parameter m q i));
              });
            }

        pub directory_answered : DirectoryAnswered f r c d
        directory_answered = record {
          class_set_there = λ p. is_there (subst (λ (x : ℕ). Present (SetBelow (up_to_end f r.header) (frame_of r.header r.map.handles.count) x) x d.own) rule.set rule.own) p;
          field_entry = each_number d.fields field_answers;
          method_entry = each_number d.methods method_answers;
          parameter_entry = each_number d.parameters parameter_answers;
        }
