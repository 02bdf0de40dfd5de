-- What the one reading of a file says to each reader of values. `c` is a class, `k` a value or an element.
use Rattle.std.specs.Prelude.{ℕ, ◌-◌, ◌≡◌, List, length}
use Rattle.std.proofs.Math.Option.{some}
use Rattle.refusal.specs.Outcome.{answer}
use Rattle.refusal.specs.Exact.{At}
use Rattle.header.specs.Header.{up_to_end, frame_of}
use Rattle.value_heads.specs.Kinds.{walk_of}
use Rattle.encoded_value.specs.Tree.{Named, Tree, array, annotation, trees, elements_of}
use Rattle.encoded_value.specs.Rules.{ArrayRule}
use Rattle.decoded_value.specs.Shown.{shown}
use Rattle.annotation_items.specs.Items.{AnnotationItem}
use Rattle.value_readers.specs.Bodies.{array_of, array_value_of, body_of, body_element_of}
use Rattle.value_readers.specs.Statics.{static_count, static_value}
use Rattle.class_walk.specs.Classes.{ClassBelow}
use Rattle.whole_check.specs.File.{File}
use Rattle.promises.specs.Tables.{listed, part_of}
use Rattle.promises.specs.Annotations.{element_shown, ItemIn}

-- a value of the file, at any depth: a static value, the value of an annotation's element, or one inside an array or an annotation that is a value of the file
pub data ValueIn (r : File) : Tree → Type 0 where
  a_static : {n k : ℕ} {c : ClassBelow} {v : Tree} → At r.classes n c → At (listed c.values) k v → ValueIn r v
  of_item : {k : ℕ} {a : AnnotationItem} {e : Named} → ItemIn r a → At a.annotation.elements k e → ValueIn r e.value
  in_array : {p q k : ℕ} {vs : List Tree} {v : Tree} → ValueIn r (array p q (trees vs)) → At vs k v → ValueIn r v
  in-annotation : {p q t k : ℕ} {es : List Named} {e : Named} → ValueIn r (annotation p q t (elements_of es)) → At es k e → ValueIn r e.value

-- the static values of a class as an array of the file. The reading keeps no end of theirs: it is the one that the rule of the bytes allows
pub record TopArray (f : List ℕ) (r : File) (place : ℕ) (l : List Tree) : Type 0 where
  pub ends : ℕ
  pub body : ArrayRule (up_to_end f r.header) (walk_of (frame_of r.header r.map.handles.count) place) place l ends
  pub size : array_of f place ≡ answer (record { count = length l; length = ends - place })
  pub value : (k : ℕ) → array_value_of f place k ≡ part_of k l (λ v. answer (shown v))

pub record ValueReaders (f : List ℕ) (r : File) : Type 0 where
  pub static_count_lem : (c : ℕ) → static_count f c ≡ part_of c r.classes (λ b. answer (length (listed b.values)))
  pub static_value_lem : (c k : ℕ) → static_value f c k ≡ part_of c r.classes (λ b. part_of k (listed b.values) (λ v. answer (shown v)))
  -- ---- bodies by place: static values, and each array and annotation that a value read out gives the place of
  pub top_array : {n : ℕ} {c : ClassBelow} {l : List Tree} → At r.classes n c → c.values ≡ some l → TopArray f r c.own.values l
  pub array_size : {p q : ℕ} (vs : List Tree) → ValueIn r (array p q (trees vs)) → array_of f p ≡ answer (record { count = length vs; length = q - p })
  pub array_value_lem : {p q : ℕ} (vs : List Tree) → ValueIn r (array p q (trees vs)) → (k : ℕ) → array_value_of f p k ≡ part_of k vs (λ v. answer (shown v))
  pub body_size : {p q t : ℕ} (es : List Named) → ValueIn r (annotation p q t (elements_of es)) → body_of f p ≡ answer (record { type_index = t; count = length es; length = q - p })
  pub body_element : {p q t : ℕ} (es : List Named) → ValueIn r (annotation p q t (elements_of es)) → (k : ℕ) → body_element_of f p k ≡ part_of k es (λ e. answer (element_shown e))
