-- On a file of which a reading is known, each reader of annotations answers what the reading says.
-- Assumes nothing.
use Prim.Native.Nat.{ℕ, ◌+◌, ◌*◌, ◌<◌, ◌≤◌}
use mathlib.Core.Path.{◌≡◌, refl, ap, sym, subst, ◌∙◌}
use mathlib.Core.Bool.{Bool, true, false}
use mathlib.Core.Option.{Option, none, some}
use mathlib.Core.List.{List}
use lib.ListN.{length, length-take}
use borrow.Author.Tests.{lt-ltb, le-ltb}
use native.Mathlib.Nat.{min-le_left}
use native.Mathlib.Omega.{arith}
use Rattle.refusal.specs.Refusals.{not_there}
use Rattle.refusal.specs.Outcome.{Outcome, answer, ◌>>=◌}
use Rattle.refusal.specs.Exact.{Present, absent, found_there, Each, At}
use Rattle.refusal.proofs.Laws.{bind_answer, passes, picks, leaves, absent_there, present_there}
use Rattle.refusal.proofs.Each.{at_below, at_some}
use Rattle.refusal.proofs.Rows.{bind_assoc}
use Rattle.frame.specs.Offsets.{Allowed}
use Rattle.frame.proofs.Laws.{allowed_decides}
use Rattle.header.specs.declared.Header.{Header}
use Rattle.header.specs.Header.{up_to_end, frame_of, plain_frame}
use Rattle.encoded_value.specs.Tree.{Named}
use Rattle.value_bodies.specs.Bodies.{pick}
use Rattle.table_readers.specs.Head.{mapped_at, opened_at}
use Rattle.annotation_lists.specs.Fixed.{Fixed, fixed_at, entries_from}
use Rattle.annotation_lists.specs.Offsets.{word_at, offset_of, offset_at, offsets_at, offset_count, offset_number}
use Rattle.annotation_directories.specs.Directories.{DirectoryEntry, counts_at, head_at, entry_of, entry_at, list_at, lists_at, directory_at, directory_head, list_of, directory_entry}
use Rattle.annotation_items.specs.Items.{AnnotationItem, item_at, item_summary, item_element}
use Rattle.annotation_lists.specs.Rules.{OffsetAllowed}
use Rattle.annotation_directories.specs.Rules.{DirectoryEntryRule}
use Rattle.annotation_items.specs.Rules.{AnnotationItemRule}
use Rattle.annotation_lists.proofs.Exactly.{offsets_exact}
use Rattle.annotation_directories.proofs.Exactly.{directory_exact}
use Rattle.annotation_items.proofs.Exactly.{item_exact}
use Rattle.annotation_walk.specs.Below.{Under, Annotated}
use Rattle.annotation_walk.specs.Rules.{SetBelow, ReferencesBelow, EntryBelow, DirectoryBelow}
use Rattle.directory_readers.specs.declared.Reached.{Reached}
use Rattle.directory_readers.specs.Directories as D
use Rattle.set_readers.specs.Sets as S
use Rattle.value_readers.specs.Opening.{opened_within}
use Rattle.value_readers.specs.Items as I
use Rattle.class_walk.specs.Classes.{ClassBelow}
use Rattle.whole_check.specs.File.{File}
use Rattle.promises.specs.Reads.{Reads}
use Rattle.promises.specs.Tables.{listed}
use Rattle.promises.specs.Annotations.{under, head_of, entry_under, summary_of, element_shown, ItemOf, of_class, of_field, of_method, of_parameter, ItemIn, AnnotationReaders}
use Rattle.promises.proofs.Asked.{made_same, pick_both, pick_empty}
use Rattle.promises.proofs.Tables.{headed, mapped, class_at_lem}

module _ (f : List ℕ) (h : Header) (handles : ℕ) where
  -- ---- directories, sets and reference lists hold no values: they are read alike whatever the number of handles
  directory_alike : (at : ℕ) → directory_at (up_to_end f h) (plain_frame h) at ≡ directory_at (up_to_end f h) (frame_of h handles) at
  unfolding directory_at head_at word_at counts_at lists_at list_at fixed_at entries_from entry_at entry_of
  directory_alike at = refl

  offsets_alike : (at : ℕ) (none_at_0 four : Bool) → offsets_at (up_to_end f h) (plain_frame h) at none_at_0 four ≡ offsets_at (up_to_end f h) (frame_of h handles) at none_at_0 four
  unfolding offsets_at word_at fixed_at entries_from offset_at offset_of
  offsets_alike at none_at_0 four = refl

  -- ---- sets
  abbrev SetThere : ℕ → Option (List AnnotationItem) → Type 0
  SetThere at o = Present (SetBelow (up_to_end f h) (frame_of h handles) at) at o

  set_read : {at : ℕ} {l : List AnnotationItem} (rule : SetBelow (up_to_end f h) (frame_of h handles) at l) → offsets_at (up_to_end f h) (plain_frame h) at false false ≡ answer rule.offsets
  set_read {at} rule = offsets_alike at false false ∙ (offsets_exact (up_to_end f h) (frame_of h handles) at false false).complete rule.offsets rule.rule

  set_counted : {at : ℕ} {o : Option (List AnnotationItem)} → SetThere at o → S.set_count f h at ≡ answer (length (listed o))
  unfolding S.set_count offset_count
  set_counted {at} (absent e) = sym (leaves (offset_count (up_to_end f h) (plain_frame h) at false false) (le-ltb 0 at (omega arith)) refl)
  set_counted {at} (found_there p rule) = sym (picks (answer 0) (lt-ltb 0 at p) refl) ∙ bind_answer _ (set_read rule) ∙ ap answer (sym rule.items.count)

  set_numbered : {at : ℕ} {o : Option (List AnnotationItem)} → SetThere at o → (k : ℕ) → S.set_number f h at k ≡ (pick k (listed o) >>= λ (a : AnnotationItem). answer a.place)
  unfolding S.set_number offset_number
  set_numbered {at} (absent e) k = sym (leaves (offset_number (up_to_end f h) (plain_frame h) at false false k) (le-ltb 0 at (omega arith)) refl) ∙ pick_empty k _
  set_numbered {at} (found_there {a = l} p rule) k =
      sym (picks _ (lt-ltb 0 at p) refl)
      ∙ bind_answer _ (set_read rule)
      ∙ sym (made_same _)
      ∙ pick_both rule.offsets l k (λ (x : ℕ). answer x) (λ (a : AnnotationItem). answer a.place) (sym rule.items.count)
      (λ x a m n. ap answer (sym (rule.rule.offsets.entries.each m).stands ∙ (rule.items.each n).place))

  -- ---- reference lists
  module _ {at : ℕ} {l : List (Option (List AnnotationItem))} (rule : ReferencesBelow (up_to_end f h) (frame_of h handles) at l) where
    references_read : offsets_at (up_to_end f h) (plain_frame h) at true true ≡ answer rule.offsets
    references_read = offsets_alike at true true ∙ (offsets_exact (up_to_end f h) (frame_of h handles) at true true).complete rule.offsets rule.rule

    references_counted : S.references_in f h at ≡ answer (length l)
    unfolding S.references_in offset_count
    references_counted = bind_answer _ references_read ∙ ap answer (sym rule.sets.count)

    -- set p, and what is made of it
    reference_at : {C : Type 0} (p : ℕ) (k : Reached → Outcome C) (g : Option (List AnnotationItem) → Outcome C)
        → ((x : ℕ) (o : Option (List AnnotationItem)) → SetThere x o → k (record { header = h; place = x }) ≡ g o) → (S.parameter_set_in f h at p >>= k) ≡ (pick p l >>= g)
    unfolding S.parameter_set_in offset_number
    reference_at p k g same =
        bind_assoc _ _ k
        ∙ ap (λ (o : Outcome ℕ). o >>= λ (x : ℕ). answer (record { header = h; place = x }) >>= k) (bind_answer (pick p) references_read)
        ∙ pick_both rule.offsets l p _ g (sym rule.sets.count)
        (λ x o m n. bind_answer k refl ∙ same x o (subst (λ (y : ℕ). SetThere y o) (rule.rule.offsets.entries.each m).stands (rule.sets.each n)))

  -- ---- directories
  abbrev pub DirectoryThere : ℕ → Option Annotated → Type 0
  DirectoryThere at o = Present (DirectoryBelow (up_to_end f h) (frame_of h handles) at) at o

  directory_read : {at : ℕ} {a : Annotated} (rule : DirectoryBelow (up_to_end f h) (frame_of h handles) at a) → directory_at (up_to_end f h) (plain_frame h) at ≡ answer rule.directory
  directory_read {at} rule = directory_alike at ∙ (directory_exact (up_to_end f h) (frame_of h handles) at).complete rule.directory rule.rule

  head_read : {at : ℕ} {o : Option Annotated} → DirectoryThere at o → D.head_in f h at ≡ answer (head_of o)
  unfolding D.head_in directory_head
  head_read {at} (absent e) = sym (absent_there (directory_head (up_to_end f h) (plain_frame h) at) (omega arith))
  head_read {at} (found_there p rule) =
      sym (present_there (directory_head (up_to_end f h) (plain_frame h) at) p refl)
      ∙ bind_answer _ (bind_answer _ (directory_read rule))
      ∙ λ i. answer (some (record { set = rule.set i; fields = sym rule.fields.count i; methods = sym rule.methods.count i; parameters = sym rule.parameters.count i }))

  -- the entries of a list, by themselves and with what lies below them
  record Entries {B : Type 0} (Below : ℕ → B → Type 0) (item : ℕ) (l : List DirectoryEntry) (us : List (Under B)) : Type 0 where
    limit : ℕ
    from : ℕ
    count : ℕ
    own : Fixed (up_to_end f h) (DirectoryEntryRule (up_to_end f h) (frame_of h handles) item limit) 8 from count l
    below : Each (λ (n : ℕ) (u : Under B). EntryBelow (up_to_end f h) (frame_of h handles) Below (from + 8 * n) u) count us

  -- what is made of an entry is made of its index and offset
  abbrev Made : {B C : Type 0} → (ℕ → B → Type 0) → (DirectoryEntry → Outcome C) → (Under B → Outcome C) → Type 0
  Made {B} Below k g = (u : Under B) → Below u.offset u.below → h.start ≤ u.offset → k (entry_under u) ≡ g u

  entries_both : {B C : Type 0} {Below : ℕ → B → Type 0} {item : ℕ} (l : List DirectoryEntry) (us : List (Under B)) → Entries Below item l us
      → (e : ℕ) (k : DirectoryEntry → Outcome C) (g : Under B → Outcome C) → Made Below k g → (pick e l >>= k) ≡ (pick e us >>= g)
  entries_both {Below = Below} l us both e k g same =
      pick_both l us e k g (both.own.entries.count ∙ sym both.below.count)
      (λ a u m n.
      let x = both.own.entries.each m in
      let y = both.below.each n in
      let o = sym x.offset ∙ y.offset in
      ap k (λ i. record { index = (sym x.index ∙ y.index) i; offset = o i })
      ∙ same u (subst (λ (p : ℕ). Below p u.below) y.offset y.below) (subst (λ (p : ℕ). h.start ≤ p) o x.allows.from))

  -- one of the three lists of a directory, whose entries lead to sets or to reference lists
  module _ {B : Type 0} (Below : ℕ → B → Type 0) (list : ℕ) (part : Annotated → List (Under B))
      (both : (at : ℕ) (a : Annotated) (rule : DirectoryBelow (up_to_end f h) (frame_of h handles) at a) → Entries Below at (list_of rule.directory list) (part a)) where
    entry_at_lem : {C : Type 0} {at : ℕ} {o : Option Annotated} → DirectoryThere at o → (e : ℕ) (k : DirectoryEntry → Outcome C) (g : Under B → Outcome C)
        → Made Below k g → (D.entry_in f h at list e >>= k) ≡ (pick e (under part o) >>= g)
    unfolding D.entry_in directory_entry ◌>>=◌
    entry_at_lem {at = at} (absent x) e k g same = ap (λ (o : Outcome DirectoryEntry). o >>= k) (sym (leaves (directory_entry (up_to_end f h) (plain_frame h) at list e) (le-ltb 0 at (omega arith)) refl)) ∙ pick_empty e g
    entry_at_lem {at = at} (found_there {a = a} p rule) e k g same =
        ap (λ (o : Outcome DirectoryEntry). o >>= k) (sym (picks _ (lt-ltb 0 at p) refl) ∙ bind_answer _ (directory_read rule))
        ∙ entries_both (list_of rule.directory list) (part a) (both at a rule) e k g same

    entry_read : {at : ℕ} {o : Option Annotated} → DirectoryThere at o → (e : ℕ) → D.entry_in f h at list e ≡ (pick e (under part o) >>= λ (u : Under B). answer (entry_under u))
    entry_read there e = sym (made_same _) ∙ entry_at_lem there e (λ (x : DirectoryEntry). answer x) (λ (u : Under B). answer (entry_under u)) (λ u b l. refl)

    entry_set_at : {C : Type 0} {at : ℕ} {o : Option Annotated} → DirectoryThere at o → (e : ℕ) (k : Reached → Outcome C) (g : Under B → Outcome C)
        → ((u : Under B) → Below u.offset u.below → h.start ≤ u.offset → k (record { header = h; place = u.offset }) ≡ g u) → (S.entry_set_in f h at list e >>= k) ≡ (pick e (under part o) >>= g)
    unfolding S.entry_set_in
    entry_set_at there e k g same = bind_assoc _ _ k ∙ entry_at_lem there e _ g (λ u b l. bind_answer k refl ∙ same u b l)

  module _ (at : ℕ) (a : Annotated) (rule : DirectoryBelow (up_to_end f h) (frame_of h handles) at a) where
    field_entries : Entries (SetBelow (up_to_end f h) (frame_of h handles)) at (list_of rule.directory 0) a.fields
    unfolding list_of
    field_entries = record { limit = _; from = _; count = _; own = rule.rule.fields; below = rule.fields }

    method_entries : Entries (SetBelow (up_to_end f h) (frame_of h handles)) at (list_of rule.directory 1) a.methods
    unfolding list_of
    method_entries = record { limit = _; from = _; count = _; own = rule.rule.methods; below = rule.methods }

    parameter_entries : Entries (ReferencesBelow (up_to_end f h) (frame_of h handles)) at (list_of rule.directory 2) a.parameters
    unfolding list_of
    parameter_entries = record { limit = _; from = _; count = _; own = rule.rule.parameters; below = rule.parameters }

  -- the set of a class
  class_set_at : {C : Type 0} {at : ℕ} {o : Option Annotated} → DirectoryThere at o → (k : Reached → Outcome C) (g : List AnnotationItem → Outcome C)
      → ((x : ℕ) (l : Option (List AnnotationItem)) → SetThere x l → k (record { header = h; place = x }) ≡ g (listed l)) → (S.class_set_in f h at >>= k) ≡ g (under (λ (d : Annotated). listed d.own) o)
  unfolding S.class_set_in ◌>>=◌
  class_set_at (absent e) k g same = ap (λ (o : Outcome Reached). o >>= k) (bind_answer _ (head_read (absent e))) ∙ same 0 none (absent refl)
  class_set_at (found_there {a = a} p rule) k g same =
      ap (λ (o : Outcome Reached). o >>= k) (bind_answer _ (head_read (found_there p rule)))
      ∙ same a.set a.own (subst (λ (x : ℕ). SetThere x a.own) rule.set rule.own)

-- ---- from the class on
module _ (f : List ℕ) {r : File} (reads : Reads f r) where
  at_directory : {C : Type 0} (c : ℕ) (k : Reached → Outcome C) (g : ClassBelow → Outcome C)
      → ((b : ClassBelow) → DirectoryThere f r.header r.map.handles.count b.own.directory b.annotations → k (record { header = r.header; place = b.own.directory }) ≡ g b)
      → (D.directory_of f c >>= k) ≡ (pick c r.classes >>= g)
  unfolding D.directory_of D.directory_in
  at_directory c k g same =
      ap (λ (o : Outcome Reached). o >>= k) (headed f reads _) ∙ bind_assoc _ _ k ∙ class_at_lem f reads c _ g (λ b q. bind_answer k refl ∙ same b q.annotations)

  low : {x : ℕ} → r.header.start ≤ x → 0 < x
  low p = let l = reads.header.section_after in omega arith

  -- the set or the reference list that entry e of a list leads to, and what is made of it
  module _ {B C : Type 0} (Below : ℕ → B → Type 0) (list : ℕ) (part : Annotated → List (Under B))
      (both : (at : ℕ) (a : Annotated) (rule : DirectoryBelow (up_to_end f r.header) (frame_of r.header r.map.handles.count) at a) → Entries f r.header r.map.handles.count Below at (list_of rule.directory list) (part a))
      (c e : ℕ) (k : Reached → Outcome C) (g : Under B → Outcome C)
      (same : (u : Under B) → Below u.offset u.below → 0 < u.offset → k (record { header = r.header; place = u.offset }) ≡ g u) where
    entry_leads : (S.entry_set f c list e >>= k) ≡ (pick c r.classes >>= λ (b : ClassBelow). pick e (under part b.annotations) >>= g)
    unfolding S.entry_set
    entry_leads = bind_assoc _ _ k ∙ at_directory c _ _ (λ b there. entry_set_at f r.header r.map.handles.count Below list part both there e k g (λ u x l. same u x (low l)))

  -- ---- annotations by place
  -- an annotation of the file: it obeys the rules at its place, which lies in the data section
  pub record ItemThere (a : AnnotationItem) : Type 0 where
    pub rule : AnnotationItemRule (up_to_end f r.header) (frame_of r.header r.map.handles.count) a.place a
    pub allows : Allowed r.header.start r.header.end false a.place

  pub section_short : length (up_to_end f r.header) ≤ r.header.end
  unfolding up_to_end
  section_short =
      let size = length-take r.header.end f in
      let short = min-le_left r.header.end (length f) in
      omega arith

  shorter : {x : ℕ} → Allowed r.header.start (length (up_to_end f r.header)) false x → Allowed r.header.start r.header.end false x
  shorter a = record { from = a.from; before_end = let x = a.before_end in let y = section_short in omega arith; multiple = a.multiple }

  item_there : {at k : ℕ} {l : List AnnotationItem} {a : AnnotationItem} → SetBelow (up_to_end f r.header) (frame_of r.header r.map.handles.count) at l → At l k a → ItemThere a
  unfolding OffsetAllowed
  item_there {k = k} {a = a} rule m =
      let item = rule.items.each m in
      let found = at_some rule.offsets k (let x = at_below m in let y = rule.items.count in omega arith) in
      let offset = rule.rule.offsets.entries.each found.1 in
      record {
        rule = subst (λ (x : ℕ). AnnotationItemRule (up_to_end f r.header) (frame_of r.header r.map.handles.count) x a) item.place item;
        allows = subst (Allowed r.header.start r.header.end false) (sym offset.stands ∙ item.place) (shorter offset.allows);
      }

  item_listed : {at k : ℕ} {o : Option (List AnnotationItem)} {a : AnnotationItem} → SetThere f r.header r.map.handles.count at o → At (listed o) k a → ItemThere a
  item_listed (absent e) m = absurd (let l = at_below m in omega arith)
  item_listed (found_there p rule) m = item_there rule m

  -- in the set of a class, a field, a method or a parameter
  item_below : {at : ℕ} {d : Annotated} {a : AnnotationItem} → DirectoryBelow (up_to_end f r.header) (frame_of r.header r.map.handles.count) at d → ItemOf d a → ItemThere a
  item_below rule (of_class m) = item_listed rule.own m
  item_below rule (of_field n m) = item_there (rule.fields.each n).below m
  item_below rule (of_method n m) = item_there (rule.methods.each n).below m
  item_below rule (of_parameter n i m) = item_listed ((rule.parameters.each n).below.sets.each i) m

  pub item_in : {a : AnnotationItem} → ItemIn r a → ItemThere a
  item_in {a} i = go (subst (DirectoryThere f r.header r.map.handles.count i.class.own.directory) i.directory_is (reads.classes.each i.class_is).annotations)
    where
      go : {at : ℕ} → DirectoryThere f r.header r.map.handles.count at (some i.directory) → ItemThere a
      go (found_there p rule) = item_below rule i.item_of

  pub opened : opened_at f ≡ answer (record { header = r.header; handles = r.map.handles.count })
  unfolding opened_at mapped_at
  opened = headed f reads _ ∙ bind_answer _ (mapped f reads)

  -- a place in the data section passes: "7: .. or a body place outside the data section"
  pub opened_within_lem : {x : ℕ} → Allowed r.header.start r.header.end false x → opened_within f x ≡ answer (record { header = r.header; handles = r.map.handles.count })
  unfolding opened_within
  opened_within_lem {x} a = bind_answer _ opened ∙ sym (passes not_there ((allowed_decides r.header.start r.header.end false x).complete a) refl)

  module _ {a : AnnotationItem} (i : ItemIn r a) where
    item_read : item_at (up_to_end f r.header) (frame_of r.header r.map.handles.count) a.place ≡ answer a
    item_read = (item_exact (up_to_end f r.header) (frame_of r.header r.map.handles.count) a.place).complete a (item_in i).rule

    summary_read : I.annotation_of f a.place ≡ answer (summary_of a)
    unfolding I.annotation_of item_summary
    summary_read = bind_answer _ (opened_within_lem (item_in i).allows) ∙ bind_answer _ item_read

    element_read : (k : ℕ) → I.annotation_element_of f a.place k ≡ (pick k a.annotation.elements >>= λ (n : Named). answer (element_shown n))
    unfolding I.annotation_element_of item_element
    element_read k = bind_answer _ (opened_within_lem (item_in i).allows) ∙ bind_answer _ item_read

pub annotations_agree : (f : List ℕ) {r : File} → Reads f r → AnnotationReaders f r
unfolding D.directory D.entry_number S.annotation_count S.annotation_place S.class_set S.parameter_set S.parameter_set_count
annotations_agree f {r} reads =
    let h = r.header in
    let n = r.map.handles.count in
    let Sets = SetBelow (up_to_end f h) (frame_of h n) in
    let Lists = ReferencesBelow (up_to_end f h) (frame_of h n) in
    let fields : Annotated → List (Under (List AnnotationItem)) = λ d. d.fields in
    let methods : Annotated → List (Under (List AnnotationItem)) = λ d. d.methods in
    let parameters : Annotated → List (Under (List (Option (List AnnotationItem)))) = λ d. d.parameters in
    record {
      head = λ c. at_directory f reads c _ _ (λ b there. head_read f h n there);
      field_entry = λ c e. at_directory f reads c _ _ (λ b there. entry_read f h n Sets 0 fields (field_entries f h n) there e);
      method_entry = λ c e. at_directory f reads c _ _ (λ b there. entry_read f h n Sets 1 methods (method_entries f h n) there e);
      parameter_entry = λ c e. at_directory f reads c _ _ (λ b there. entry_read f h n Lists 2 parameters (parameter_entries f h n) there e);
      class_count = λ c. bind_assoc _ _ _ ∙ at_directory f reads c _ _ (λ b there. class_set_at f h n there _ (λ (l : List AnnotationItem). answer (length l)) (λ x l s. set_counted f h n s));
      class_place = λ c k. bind_assoc _ _ _ ∙ at_directory f reads c _ _ (λ b there. class_set_at f h n there _ (λ (l : List AnnotationItem). pick k l >>= λ (a : AnnotationItem). answer a.place) (λ x l s. set_numbered f h n s k));
      field_count = λ c e. entry_leads f reads Sets 0 fields (field_entries f h n) c e _ _ (λ u s p. set_counted f h n (found_there p s));
      field_place = λ c e k. entry_leads f reads Sets 0 fields (field_entries f h n) c e _ _ (λ u s p. set_numbered f h n (found_there p s) k);
      method_count = λ c e. entry_leads f reads Sets 1 methods (method_entries f h n) c e _ _ (λ u s p. set_counted f h n (found_there p s));
      method_place = λ c e k. entry_leads f reads Sets 1 methods (method_entries f h n) c e _ _ (λ u s p. set_numbered f h n (found_there p s) k);
      set_count_lem = λ c e. entry_leads f reads Lists 2 parameters (parameter_entries f h n) c e _ _ (λ u l p. references_counted f h n l);
      parameter_count_lem = λ c e p. bind_assoc _ _ _ ∙ entry_leads f reads Lists 2 parameters (parameter_entries f h n) c e _ _ (λ u l q. reference_at f h n l p _ _ (λ x o s. set_counted f h n s));
      parameter_place = λ c e p k. bind_assoc _ _ _ ∙ entry_leads f reads Lists 2 parameters (parameter_entries f h n) c e _ _ (λ u l q. reference_at f h n l p _ _ (λ x o s. set_numbered f h n s k));
      annotation = λ i. summary_read f reads i;
      element = λ i k. element_read f reads i k;
    }
