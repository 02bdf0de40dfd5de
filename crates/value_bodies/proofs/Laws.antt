-- What the functions' proofs cite: a body that was gone over whole has its size, and each of its values can be reached.
-- Assumes nothing.
use Prim.Native.Nat.{ℕ, ◌<◌, ◌≤◌}
use mathlib.Core.Path.{◌≡◌, ap, sym, subst, ◌∙◌}
use mathlib.Core.Bool.{Bool, true, false}
use mathlib.Core.List.{List}
use lib.ListN.{length}
use native.Mathlib.Omega.{arith}
use borrow.Author.Rules.{rules}
use Rattle.refusal.specs.Refusals.{not_there}
use Rattle.refusal.specs.declared.Refusal.{Refusal}
use Rattle.refusal.specs.Outcome.{Outcome, answer, refused, ◌>>=◌}
use Rattle.refusal.specs.Rows.{Found, repeat}
use Rattle.refusal.proofs.Laws.{calls, handed_on, bind_answer, bind_refused, refused_by, Walk as Loop, walk_start, walk_stop, walk_done}
use Rattle.refusal.proofs.Exact.{answers_equal, never}
use Rattle.refusal.proofs.Rows.{past_answer, past_refused}
use Rattle.leb128.specs.Leb.{uleb_at}
use Rattle.leb128.proofs.Exactly.{uleb_exact}
use Rattle.value_heads.specs.declared.Walk.{Walk}
use Rattle.encoded_value.specs.Tree.{Tree, Named, Annotation}
use Rattle.value_heads.specs.Readings.{index_at}
use Rattle.encoded_value.specs.Readings.{start_at, named_with, value_at, array_at, annotation_at, past_array, past_annotation, past_value}
use Rattle.encoded_value.specs.Depth.{deepest, deepest_value}
use Rattle.encoded_value.specs.Stages.{index_past, past_inner}
use Rattle.encoded_value.proofs.Cycle.{inner_named, inner_plain}
use Rattle.value_heads.proofs.Exactly.{index_exact}
use Rattle.encoded_value.proofs.Layers.{ArrayWithin, AnnotationWithin, array_parts, annotation_parts}
use Rattle.encoded_value.proofs.Exactly.{value_exact, named_exact, array_exact, annotation_exact}
use Rattle.decoded_value.specs.Shown.{Shown, shown}
use Rattle.decoded_value.specs.Readings.{read_out, decoded_at}
use Rattle.value_bodies.specs.Bodies.{ShownElement, past, array_count, array_value, annotation_noted, annotation_element, value_there, element_there, kth_value, kth_element}
use Rattle.value_bodies.proofs.Picks.{pick_there, pick_none, row_length, reached}

-- a number that is there is not refused
not_got : {o : Outcome (Found ℕ ℕ)} {r : Refusal} {a : Found ℕ ℕ} → refused r ≡ o → o ≡ answer a → ⊥
not_got e h = never (e ∙ h)

-- ---- arrays
module _ (s : List ℕ) (w : Walk) (p : ℕ) where
  -- an array that was read: its rule
  array_rule : {r : Found (List Tree) ℕ} → array_at s w deepest p ≡ answer r → ArrayWithin s w deepest_value p r.item r.next
  array_rule {r} e = let h = (array_exact s w deepest p).sound r e in array_parts s w h.0 h.1

  array_size : {r : Found (List Tree) ℕ} (e : array_at s w deepest p ≡ answer r) → uleb_at s w.item p ≡ answer (array_rule e).size
  array_size e = (uleb_exact s w.item p).complete (array_rule e).size (array_rule e).uleb

  unread : {B : Type 0} {r : Refusal} (k : Found (List Tree) ℕ → Outcome B) → refused r ≡ past_array s w deepest p → refused r ≡ (array_at s w deepest p >>= k)
  unread k e = sym (bind_refused k (sym (past_refused (array_at s w deepest p) e)))

  pub count_unread : {r : Refusal} → refused r ≡ past_array s w deepest p → refused r ≡ array_count s w p
  unfolding array_count
  count_unread e = unread _ e

  pub value_unread : (k : ℕ) {r : Refusal} → refused r ≡ past_array s w deepest p → refused r ≡ array_value s w p k
  unfolding array_value
  value_unread k e = unread _ e

  module _ {q : ℕ} (e : answer q ≡ past_array s w deepest p) where
    all : (r : Found (List Tree) ℕ) × ((answer r ≡ array_at s w deepest p) × (r.next ≡ q))
    all = past_answer (array_at s w deepest p) e

    whole : array_at s w deepest p ≡ answer all.0
    whole = sym all.1.0

    pub count_no_size : {r : Refusal} → refused r ≡ uleb_at s w.item p → refused r ≡ array_count s w p
    count_no_size f = absurd (not_got f (array_size whole))

    pub value_no_size : (k : ℕ) {r : Refusal} → refused r ≡ uleb_at s w.item p → refused r ≡ array_value s w p k
    value_no_size k f = absurd (not_got f (array_size whole))

    module _ {n m : ℕ} (f : answer (record { item = n; next = m }) ≡ uleb_at s w.item p) where
      size_is : (array_rule whole).size ≡ record { item = n; next = m }
      size_is = answers_equal (sym (array_size whole) ∙ sym f)

      count_is : length all.0.item ≡ n
      count_is = row_length (array_rule whole).row ∙ ap (λ (z : Found ℕ ℕ). z.item) size_is

      pub count_got : answer n ≡ array_count s w p
      unfolding array_count
      count_got = sym (bind_answer _ whole ∙ ap answer count_is)

      pub value_none : (k : ℕ) {r : Refusal} → n ≤ k → r ≡ not_there → refused r ≡ array_value s w p k
      unfolding array_value
      value_none k h made = let z = count_is in refused_by made ∙ sym (bind_answer _ whole ∙ bind_refused _ (pick_none all.0.item k (omega arith)))

      pub value_kth : (k : ℕ) {z : Outcome Shown} → k < n → z ≡ kth_value s w m k → z ≡ array_value s w p k
      unfolding array_value kth_value value_there decoded_at
      value_kth k h g =
          let a = reached (value_at s w deepest_value) (value_exact s w deepest_value) k (subst (λ (c : Found ℕ ℕ). k < c.item) (sym size_is) h) (array_rule whole).row in
          let way = subst (λ (c : Found ℕ ℕ). past s w c.next false k ≡ answer a.place) size_is (sym (λ i. repeat k (λ (q : ℕ). inner_plain s w deepest_value q i) (array_rule whole).size.next) ∙ a.way) in
          g ∙ bind_answer _ way ∙ bind_answer _ (bind_answer read_out a.there_is) ∙ sym (bind_answer _ whole ∙ bind_answer _ (pick_there a.number_is))

-- ---- annotations
-- an element that was read, read out
element_is : (s : List ℕ) (w : Walk) (p : ℕ) {e : Named} {q : ℕ} → named_with s w (value_at s w deepest_value) p ≡ answer (record { item = e; next = q })
    → element_there s w p ≡ answer (record { name = e.name; value = shown e.value })
unfolding element_there decoded_at
element_is s w p {e} {q} h =
    let r = (named_exact s w deepest_value p).sound (record { item = e; next = q }) h in
    bind_answer _ ((index_exact s w.item w.strings p).complete _ r.name_is) ∙ bind_answer _ (bind_answer read_out ((value_exact s w deepest_value r.after_name).complete (record { item = e.value; next = q }) r.value_is))

module _ (s : List ℕ) (w : Walk) (p : ℕ) where
  annotation_rule : {r : Found Annotation ℕ} → annotation_at s w deepest p ≡ answer r → AnnotationWithin s w deepest_value p r.item r.next
  annotation_rule {r} e = let h = (annotation_exact s w deepest p).sound r e in annotation_parts s w h.0 h.1

  module _ {r : Found Annotation ℕ} (e : annotation_at s w deepest p ≡ answer r) where
    type_there : index_at s w.item w.types p ≡ answer (record { item = r.item.type_index; next = (annotation_rule e).after_type })
    type_there = (index_exact s w.item w.types p).complete _ (annotation_rule e).type_is

    size_there : uleb_at s w.item (annotation_rule e).after_type ≡ answer (annotation_rule e).size
    size_there = (uleb_exact s w.item (annotation_rule e).after_type).complete (annotation_rule e).size (annotation_rule e).uleb

    start_there : start_at s w p ≡ answer (annotation_rule e).size
    unfolding start_at
    start_there = bind_answer _ type_there ∙ size_there

    type_is : {t m : ℕ} → index_at s w.item w.types p ≡ answer (record { item = t; next = m }) → ◌≡◌ {A = Found ℕ ℕ} (record { item = r.item.type_index; next = (annotation_rule e).after_type }) (record { item = t; next = m })
    type_is g = answers_equal (sym type_there ∙ g)

    -- the size, where the type was found to end at m
    size_behind : {t m : ℕ} → index_at s w.item w.types p ≡ answer (record { item = t; next = m }) → uleb_at s w.item m ≡ answer (annotation_rule e).size
    size_behind g = subst (λ (c : Found ℕ ℕ). uleb_at s w.item c.next ≡ answer (annotation_rule e).size) (type_is g) size_there

  unnoted : {B : Type 0} {r : Refusal} (k : Found Annotation ℕ → Outcome B) → refused r ≡ past_annotation s w deepest p → refused r ≡ (annotation_at s w deepest p >>= k)
  unnoted k e = sym (bind_refused k (sym (past_refused (annotation_at s w deepest p) e)))

  pub head_unread : {r : Refusal} → refused r ≡ past_annotation s w deepest p → refused r ≡ annotation_noted s w p
  unfolding annotation_noted
  head_unread e = unnoted _ e

  pub element_unread : (k : ℕ) {r : Refusal} → refused r ≡ past_annotation s w deepest p → refused r ≡ annotation_element s w p k
  unfolding annotation_element
  element_unread k e = unnoted _ e

  module _ {q : ℕ} (e : answer q ≡ past_annotation s w deepest p) where
    noted : (r : Found Annotation ℕ) × ((answer r ≡ annotation_at s w deepest p) × (r.next ≡ q))
    noted = past_answer (annotation_at s w deepest p) e

    there_all : annotation_at s w deepest p ≡ answer noted.0
    there_all = sym noted.1.0

    -- the type, then the size
    pub head_no_type : {r : Refusal} → refused r ≡ index_at s w.item w.types p → refused r ≡ annotation_noted s w p
    head_no_type f = absurd (not_got f (type_there there_all))

    module _ {v m : ℕ} (f : answer (record { item = v; next = m }) ≡ index_at s w.item w.types p) where
      pub head_no_size : {r : Refusal} → refused r ≡ uleb_at s w.item m → refused r ≡ annotation_noted s w p
      head_no_size g = absurd (not_got g (size_behind there_all (sym f)))

      pub head_got : {n c : ℕ} → answer (record { item = n; next = c }) ≡ uleb_at s w.item m → answer (record { type_index = v; count = n }) ≡ annotation_noted s w p
      unfolding annotation_noted
      head_got g =
          let kind = ap (λ (a : Found ℕ ℕ). a.item) (type_is there_all (sym f)) in
          let size = answers_equal (sym (size_behind there_all (sym f)) ∙ sym g) in
          let count = row_length (annotation_rule there_all).row ∙ ap (λ (a : Found ℕ ℕ). a.item) size in
          sym (bind_answer _ there_all ∙ (λ i. answer (record { type_index = kind i; count = count i })))

    -- both at once
    pub element_no_start : (k : ℕ) {r : Refusal} → refused r ≡ start_at s w p → refused r ≡ annotation_element s w p k
    element_no_start k f = absurd (not_got f (start_there there_all))

    module _ {n m : ℕ} (f : answer (record { item = n; next = m }) ≡ start_at s w p) where
      begins : (annotation_rule there_all).size ≡ record { item = n; next = m }
      begins = answers_equal (sym (start_there there_all) ∙ sym f)

      pub element_none : (k : ℕ) {r : Refusal} → n ≤ k → r ≡ not_there → refused r ≡ annotation_element s w p k
      unfolding annotation_element
      element_none k h made =
          let z = row_length (annotation_rule there_all).row ∙ ap (λ (c : Found ℕ ℕ). c.item) begins in
          refused_by made ∙ sym (bind_answer _ there_all ∙ bind_refused _ (pick_none noted.0.item.elements k (omega arith)))

      pub element_kth : (k : ℕ) {z : Outcome ShownElement} → k < n → z ≡ kth_element s w m k → z ≡ annotation_element s w p k
      unfolding annotation_element kth_element
      element_kth k h g =
          let a = reached (named_with s w (value_at s w deepest_value)) (named_exact s w deepest_value) k (subst (λ (c : Found ℕ ℕ). k < c.item) (sym begins) h) (annotation_rule there_all).row in
          let way = subst (λ (c : Found ℕ ℕ). past s w c.next true k ≡ answer a.place) begins (sym (λ i. repeat k (λ (q : ℕ). inner_named s w deepest_value q i) (annotation_rule there_all).size.next) ∙ a.way) in
          g ∙ bind_answer _ way ∙ element_is s w a.place a.there_is ∙ sym (bind_answer _ there_all ∙ bind_answer _ (pick_there a.number_is))

pub ruleset array_laws = (count_unread, count_no_size, count_got, value_unread, value_no_size, value_none, value_kth, handed_on, rules)

pub ruleset annotation_laws = (head_unread, head_no_type, head_no_size, head_got, element_unread, element_no_start, element_none, element_kth, handed_on, rules)

-- ---- one turn of the going over values or named values
module _ (s : List ℕ) (w : Walk) (left : ℕ) {whole : Outcome ℕ} {named : Bool} {count turn p : ℕ} (h : Loop whole (past_inner s w named left) count turn p) (l : turn < count) where
  pub name_stop : {r : Refusal} → named ≡ true → refused r ≡ index_at s w.item w.strings p → refused r ≡ whole
  unfolding past_inner index_past
  name_stop b e = walk_stop h l (rw b (sym (bind_refused _ (bind_refused _ (sym e)))))

-- where the value of a turn stands: behind its name in an annotation
module _ (s : List ℕ) (w : Walk) (left : ℕ) {named : Bool} (p : ℕ) {at : ℕ} where
  pub behind_name : {n q : ℕ} → named ≡ true → answer (record { item = n; next = q }) ≡ index_at s w.item w.strings p → at ≡ q → past_inner s w named left p ≡ past_value s w left at
  unfolding past_inner index_past
  behind_name b e z = rw (b, z) (bind_answer _ (bind_answer _ (sym e)))

  pub no_name : named ≡ false → at ≡ p → past_inner s w named left p ≡ past_value s w left at
  no_name b z = rw (b, z) (sym (inner_plain s w left p))

pub ruleset past_laws = (walk_start, walk_done, handed_on, rules)

pub ruleset there_laws = (calls, rules)
