-- On a file of which a reading is known, each index in values, annotations and directories is the number of a row that is there.
-- Assumes nothing.
use Prim.Native.Nat.{ℕ, ◌+◌, ◌*◌, ◌%◌, ◌/◌, ◌<◌, ◌≤◌}
use mathlib.Core.Path.{◌≡◌, refl, sym, subst, ◌∙◌}
use mathlib.Core.Bool.{Bool, true, false, cond, ◌&&◌, ◌||◌}
use mathlib.Core.Option.{Option}
use mathlib.Core.List.{List}
use lib.ListN.{length, get_or}
use lib.Dec.{ltb, leb, eqb}
use borrow.Author.Tests.{lt-ltb, ne_eqb}
use native.Mathlib.Omega.{arith}
use Rattle.refusal.specs.Exact.{absent, found_there, Each, At}
use Rattle.refusal.proofs.Exact.{both, below, at_most}
use Rattle.refusal.proofs.Each.{at_below, at_some}
use Rattle.header.specs.Header.{up_to_end, frame_of}
use Rattle.value_heads.specs.declared.Walk.{Walk}
use Rattle.value_heads.specs.Kinds.{arguments, count_of}
use Rattle.encoded_value.specs.Tree.{Named, Annotation, Tree, byte, short, char, int, long, float, double, index, null, boolean, array, annotation, rest_of, plain_of}
use Rattle.encoded_value.specs.Depth.{deepest_value}
use Rattle.encoded_value.specs.Rules.{Value, an_array, an_annotation, no_body}
use Rattle.encoded_value.proofs.Layers.{AnnotationWithin, annotation_parts}
use Rattle.encoded_value.proofs.Bounds.{named_within_extent}
use Rattle.decoded_value.proofs.Laws.{all_below, all_there}
use Rattle.annotation_lists.specs.Fixed.{Fixed}
use Rattle.annotation_directories.specs.Directories.{DirectoryEntry}
use Rattle.annotation_directories.specs.Rules.{DirectoryEntryRule}
use Rattle.annotation_walk.specs.Below.{Under, Annotated}
use Rattle.annotation_walk.specs.Rules.{EntryBelow, DirectoryBelow}
use Rattle.whole_check.specs.File.{File}
use Rattle.promises.specs.Reads.{Reads}
use Rattle.promises.specs.Annotations.{under}
use Rattle.promises.specs.Values.{ValueIn}
use Rattle.promises.proofs.InRange.{rows, ValueIndices}
use Rattle.promises.proofs.Annotations.{DirectoryThere}
use Rattle.promises.proofs.Values.{row_at, walk, BodyThere, body_of_lem, value_in, item_body}

-- ---- a value that is no body: an index is one of its seven codes, and below its count
abbrev IsInRange : Walk → Tree → Type 0
IsInRange w (byte z) = Unit
IsInRange w (short z) = Unit
IsInRange w (char n) = Unit
IsInRange w (int z) = Unit
IsInRange w (long z) = Unit
IsInRange w (float n) = Unit
IsInRange w (double n) = Unit
IsInRange w (index k n) = (0x15 ≤ k) × (k < 0x1c) × (n < count_of w k)
IsInRange w null = Unit
IsInRange w (boolean b) = Unit
IsInRange w (array p q vs) = Unit
IsInRange w (annotation p q t es) = Unit

-- of the codes that have arguments, those left over are the indices
sorted : ℕ → Bool
sorted code =
    cond (ltb 0 (get_or arguments code 0))
    (eqb code 0x00 || (eqb code 0x02 || (eqb code 0x03 || (eqb code 0x04 || (eqb code 0x06 || (eqb code 0x10 || (eqb code 0x11 || (eqb code 0x1c || (eqb code 0x1d || (eqb code 0x1e || (eqb code 0x1f || (leb 0x15 code && ltb code 0x1c))))))))))))
    true

codes_sorted : all_below 32 sorted ≡ true
unfolding all_below sorted arguments
codes_sorted = refl

module _ (w : Walk) where
  by_test : (b : Bool) (u v : Tree) → (b ≡ true → IsInRange w u) → (b ≡ false → IsInRange w v) → IsInRange w (cond b u v)
  by_test true u v p q = p refl
  by_test false u v p q = q refl

  plain_in_range : (code argument x : ℕ) → code < 32 → argument < get_or arguments code 0 → (code ≡ 0x1c → ⊥) → (code ≡ 0x1d → ⊥)
      → ((0x15 ≤ code) × (code < 0x1c) → x < count_of w code) → IsInRange w (plain_of code argument x)
  unfolding plain_of rest_of sorted
  plain_in_range code argument x l k na nn range =
      by_test (eqb code 0x00) _ _ (λ e. tt) (λ e0.
      by_test (eqb code 0x02) _ _ (λ e. tt) (λ e2.
      by_test (eqb code 0x03) _ _ (λ e. tt) (λ e3.
      by_test (eqb code 0x04) _ _ (λ e. tt) (λ e4.
      by_test (eqb code 0x06) _ _ (λ e. tt) (λ e6.
      by_test (eqb code 0x10) _ _ (λ e. tt) (λ ef.
      by_test (eqb code 0x11) _ _ (λ e. tt) (λ ed.
      by_test (eqb code 0x1e) _ _ (λ e. tt) (λ en.
      by_test (eqb code 0x1f) _ _ (λ e. tt) (λ eb.
      let t = rw (lt-ltb 0 (get_or arguments code 0) (omega arith), e0, e2, e3, e4, e6, ef, ed, ne_eqb code 0x1c na, ne_eqb code 0x1d nn, en, eb) at (all_there 32 sorted codes_sorted code l) in
      let c = (both (at_most 0x15 code) (below code 0x1c)).sound t in
      (c.0, c.1, range c))))))))))

-- ---- a value of the file
module _ (s : List ℕ) (w : Walk) where
  value_in_range : {p q : ℕ} {v : Tree} → Value s w p v q → IsInRange w v
  value_in_range (an_array h c k e) = subst (IsInRange w) e tt
  value_in_range (an_annotation h c k e) = subst (IsInRange w) e tt
  value_in_range (no_body {h = h} i n m k) = subst (IsInRange w) k.value (plain_in_range w (h % 32) (h / 32) k.number (omega arith) i.known n m k.range)

module _ (f : List ℕ) {r : File} (reads : Reads f r) where
  rows_counted : (item code : ℕ) → count_of (walk f reads item) code ≡ rows r code
  unfolding count_of
  rows_counted item code = λ i.
      cond (eqb code 0x15) (sym reads.protos.count i)
      (cond (eqb code 0x16) (sym reads.handles.count i)
      (cond (eqb code 0x17) (sym reads.strings.each.count i)
      (cond (eqb code 0x18) (sym reads.types.each.count i)
      (cond (eqb code 0x1a) (sym reads.methods.count i) (sym reads.fields.count i)))))

  index_in : {code n : ℕ} → ValueIn r (index code n) → (0x15 ≤ code) × (code < 0x1c) × (n < rows r code)
  index_in {code} {n} i =
      let v = value_in f reads i in
      let c = value_in_range (up_to_end f r.header) (walk f reads v.item) v.rule in
      (c.0, c.1, subst (λ (x : ℕ). n < x) (rows_counted v.item code) c.2)

  -- ---- the type of an annotation, and its names
  module _ {item p q : ℕ} {a : Annotation} (b : BodyThere f reads item p q a) where
    parts : AnnotationWithin (up_to_end f r.header) (walk f reads item) deepest_value p a q
    parts = annotation_parts (up_to_end f r.header) (walk f reads item) b.body.body b.body.shallow

    type_there : a.type_index < length r.types
    type_there = subst (λ (x : ℕ). a.type_index < x) (sym reads.types.each.count) parts.type_is.range

    name_there : {k : ℕ} {e : Named} → At a.elements k e → e.name < length r.strings
    name_there {e = e} m =
        let found = row_at (named_within_extent (up_to_end f r.header) (walk f reads item) deepest_value) parts.row m in
        subst (λ (x : ℕ). e.name < x) (sym reads.strings.each.count) found.2.0.name_is.range

  -- ---- the entries of a directory
  entry_below : {B : Type 0} {Below : ℕ → B → Type 0} {item limit from count e : ℕ} {u : Under B} (l : List DirectoryEntry) (us : List (Under B))
      → Fixed (up_to_end f r.header) (DirectoryEntryRule (up_to_end f r.header) (frame_of r.header r.map.handles.count) item limit) 8 from count l
      → Each (λ (n : ℕ) (u : Under B). EntryBelow (up_to_end f r.header) (frame_of r.header r.map.handles.count) Below (from + 8 * n) u) count us
      → At us e u → u.index < limit
  entry_below {limit = limit} {e = e} l us own below m =
      let found = at_some l e (let x = at_below m in let y = below.count in let z = own.entries.count in omega arith) in
      let rule = own.entries.each found.1 in
      subst (λ (x : ℕ). x < limit) (sym rule.index ∙ (below.each m).index) rule.below

  -- of one of the three lists, where the class has a directory
  listed_below : {B : Type 0} {at e : ℕ} {o : Option Annotated} {u : Under B} (count limit : ℕ) (part : Annotated → List (Under B))
      → ((d : Annotated) → DirectoryBelow (up_to_end f r.header) (frame_of r.header r.map.handles.count) at d → At (part d) e u → u.index < limit)
      → count ≡ limit → DirectoryThere f r.header r.map.handles.count at o → At (under part o) e u → u.index < count
  listed_below count limit part one same (absent z) m = absurd (let l = at_below m in omega arith)
  listed_below count limit part one same (found_there {a = d} p rule) m = let l = one d rule m in omega arith

pub value_indices : (f : List ℕ) {r : File} → Reads f r → ValueIndices r
value_indices f reads =
    record {
      index_value = λ i. index_in f reads i;
      item_type = λ i. type_there f reads (item_body f reads i).1;
      item_name = λ i m. name_there f reads (item_body f reads i).1 m;
      body_type = λ es i. type_there f reads (body_of_lem f reads es (value_in f reads i));
      body_name = λ es i m. name_there f reads (body_of_lem f reads es (value_in f reads i)) m;
      field_index = λ n m. listed_below f reads _ _ (λ (d : Annotated). d.fields) (λ d rule i. entry_below f reads rule.directory.fields d.fields rule.rule.fields rule.fields i) reads.fields.count (reads.classes.each n).annotations m;
      method_index = λ n m. listed_below f reads _ _ (λ (d : Annotated). d.methods) (λ d rule i. entry_below f reads rule.directory.methods d.methods rule.rule.methods rule.methods i) reads.methods.count (reads.classes.each n).annotations m;
      parameter_index = λ n m. listed_below f reads _ _ (λ (d : Annotated). d.parameters) (λ d rule i. entry_below f reads rule.directory.parameters d.parameters rule.rule.parameters rule.parameters i) reads.methods.count (reads.classes.each n).annotations m;
    }
