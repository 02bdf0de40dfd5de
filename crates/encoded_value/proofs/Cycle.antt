-- What the proof of the cycle cites: the ways through a value, and the loop over the values of a body.
-- Assumes nothing.
use Prim.Native.Nat.{ℕ, zero, suc, ◌+◌, ◌-◌, ◌%◌, ◌<◌, ◌≤◌}
use mathlib.Core.Path.{◌≡◌, refl, ap, sym, ◌∙◌}
use mathlib.Core.Bool.{Bool, true, false}
use mathlib.Core.List.{List}
use borrow.Author.Rules.{rules}
use borrow.Author.Tests.{eq-eqb, ne_eqb}
use native.Mathlib.Decide.{dec_lt}
use native.Mathlib.Omega.{arith}
use Rattle.refusal.specs.Refusals.{nested_too_deep}
use Rattle.refusal.specs.declared.Refusal.{Refusal}
use Rattle.refusal.specs.Outcome.{Outcome, answer, refused, ◌>>=◌}
use Rattle.refusal.specs.Rows.{Found, past, repeat, collect}
use Rattle.refusal.proofs.Laws.{bind_answer, bind_refused, refused_by, handed_on, picks, leaves, Walk as Loop, walk_start, walk_next, walk_stop, walk_done}
use Rattle.refusal.proofs.Rows.{bind_assoc, past_collect}
use Rattle.leb128.specs.Leb.{uleb_at}
use Rattle.value_heads.specs.declared.Walk.{Walk}
use Rattle.value_heads.specs.Readings.{head_byte_at, index_at}
use Rattle.value_heads.proofs.Laws.{after_head}
use Rattle.encoded_value.specs.Tree.{Tree, Named, Annotation}
use Rattle.encoded_value.specs.Readings.{plain_at, start_at, array_with, named_with, annotation_with, as_array, as_annotation, kind_with, value_with, value_at, array_at, annotation_at, past_value, past_array, past_annotation, past_named, past_plain}
use Rattle.encoded_value.specs.Stages.{index_past, past_opened, past_inside, past_inner, past_values, past_body}
use Rattle.encoded_value.proofs.Leaves.{past_made}

module _ (s : List ℕ) (w : Walk) where
  -- a value, its bodies and its elements at a remaining depth
  pub value_open : (left : ℕ) → value_at s w left ≡ value_with s w (array_at s w left) (annotation_at s w left)
  unfolding value_at array_at annotation_at
  value_open zero = refl
  value_open (suc left) = refl

  pub array_open : (left : ℕ) → 0 < left → array_at s w left ≡ array_with s w (value_at s w (left - 1))
  unfolding array_at
  array_open zero p = absurd (omega arith)
  array_open (suc left) p = let back : suc left - 1 ≡ left = omega arith in rw back

  pub annotation_open : (left : ℕ) → 0 < left → annotation_at s w left ≡ annotation_with s w (value_at s w (left - 1))
  unfolding annotation_at
  annotation_open zero p = absurd (omega arith)
  annotation_open (suc left) p = let back : suc left - 1 ≡ left = omega arith in rw back

  -- ---- a value, by its head byte
  module _ (body : ℕ → Outcome (Found (List Tree) ℕ)) (noted : ℕ → Outcome (Found Annotation ℕ)) (h p : ℕ) where
    pub kind_array : h % 32 ≡ 0x1c → kind_with s w body noted h p ≡ (body p >>= as_array p)
    unfolding kind_with
    kind_array c = rw (eq-eqb (h % 32) 0x1c c)

    pub kind_annotation : (h % 32 ≡ 0x1c → ⊥) → h % 32 ≡ 0x1d → kind_with s w body noted h p ≡ (noted p >>= as_annotation p)
    unfolding kind_with
    kind_annotation n c = rw (ne_eqb (h % 32) 0x1c n, eq-eqb (h % 32) 0x1d c)

    pub kind_plain : (h % 32 ≡ 0x1c → ⊥) → (h % 32 ≡ 0x1d → ⊥) → kind_with s w body noted h p ≡ plain_at s w h p
    unfolding kind_with
    kind_plain n m = rw (ne_eqb (h % 32) 0x1c n, ne_eqb (h % 32) 0x1d m)

  module _ (left p : ℕ) where
    pub no_value : {r : Refusal} → refused r ≡ head_byte_at s w.item p → value_at s w left p ≡ refused r
    unfolding value_with
    no_value e = ap (λ (f : ℕ → Outcome (Found Tree ℕ)). f p) (value_open left) ∙ bind_refused _ (sym e)

    pub value_refused : {r : Refusal} → refused r ≡ head_byte_at s w.item p → refused r ≡ past_value s w left p
    value_refused e = sym (bind_refused past (no_value e))

    pub value_kind : {h : ℕ} → answer h ≡ head_byte_at s w.item p → value_at s w left p ≡ kind_with s w (array_at s w left) (annotation_at s w left) h (p + 1)
    unfolding value_with
    value_kind e = ap (λ (f : ℕ → Outcome (Found Tree ℕ)). f p) (value_open left) ∙ bind_answer _ (sym e)

    pub value_inside : {h : ℕ} {y : Outcome ℕ} → answer h ≡ head_byte_at s w.item p → y ≡ past_inside s w left h (p + 1) → y ≡ past_value s w left p
    value_inside e k = k ∙ sym (ap (λ (o : Outcome (Found Tree ℕ)). o >>= past) (value_kind e))

  -- ---- the body that a code opens
  module _ (left code p : ℕ) {y : Outcome ℕ} where
    pub opened_array : code ≡ 0x1c → y ≡ past_array s w left p → y ≡ past_opened s w left code p
    unfolding past_opened
    opened_array c k = picks _ (eq-eqb code 0x1c c) k

    pub opened_annotation : (code ≡ 0x1c → ⊥) → y ≡ past_annotation s w left p → y ≡ past_opened s w left code p
    unfolding past_opened
    opened_annotation n k = leaves _ (ne_eqb code 0x1c n) k

  -- ---- behind a head byte
  module _ (left h p : ℕ) {y : Outcome ℕ} where
    inside_array : h % 32 ≡ 0x1c → y ≡ past_opened s w left (h % 32) p → y ≡ past_inside s w left h p
    unfolding past_opened
    inside_array c k =
        k ∙ sym (picks _ (eq-eqb (h % 32) 0x1c c) refl) ∙ past_made _ (array_at s w left p)
        ∙ sym (ap (λ (o : Outcome (Found Tree ℕ)). o >>= past) (kind_array (array_at s w left) (annotation_at s w left) h p c))

    inside_annotation : (h % 32 ≡ 0x1c → ⊥) → h % 32 ≡ 0x1d → y ≡ past_opened s w left (h % 32) p → y ≡ past_inside s w left h p
    unfolding past_opened
    inside_annotation n c k =
        k ∙ sym (leaves _ (ne_eqb (h % 32) 0x1c n) refl) ∙ past_made _ (annotation_at s w left p)
        ∙ sym (ap (λ (o : Outcome (Found Tree ℕ)). o >>= past) (kind_annotation (array_at s w left) (annotation_at s w left) h p n c))

    inside_plain : (h % 32 ≡ 0x1c → ⊥) → (h % 32 ≡ 0x1d → ⊥) → y ≡ past_plain s w h p → y ≡ past_inside s w left h p
    inside_plain n m k = k ∙ sym (ap (λ (o : Outcome (Found Tree ℕ)). o >>= past) (kind_plain (array_at s w left) (annotation_at s w left) h p n m))

    -- both codes are one arm, which is a test of a range
    pub inside_opened : 0x1c ≤ h % 32 → h % 32 < 0x1e → y ≡ past_opened s w left (h % 32) p → y ≡ past_inside s w left h p
    inside_opened l m k = go (dec_lt (h % 32) 0x1d)
      where
        go : Dec (h % 32 < 0x1d) → y ≡ past_inside s w left h p
        go (yes d) = inside_array (omega arith) k
        go (no d) = inside_annotation (λ c. omega arith) (omega arith) k

    pub inside_below : h % 32 < 0x1c → y ≡ past_plain s w h p → y ≡ past_inside s w left h p
    inside_below l k = inside_plain (λ c. omega arith) (λ c. omega arith) k

    pub inside_above : 0x1e ≤ h % 32 → y ≡ past_plain s w h p → y ≡ past_inside s w left h p
    inside_above l k = inside_plain (λ c. omega arith) (λ c. omega arith) k

  -- ---- a body that may not be opened
  pub body_deep : (named : Bool) (left p : ℕ) {r : Refusal} → left ≤ 0 → r ≡ nested_too_deep w.item → refused r ≡ past_body s w named left p
  unfolding past_body array_at annotation_at ◌>>=◌
  body_deep true left p l made = let z : left ≡ 0 = omega arith in rw z (refused_by made)
  body_deep false left p l made = let z : left ≡ 0 = omega arith in rw z (refused_by made)

  pub named_is : (left p : ℕ) → past_named s w left p ≡ (index_at s w.item w.strings p >>= λ (n : Found ℕ ℕ). past_value s w left n.next)
  unfolding named_with
  named_is left p = bind_assoc (index_at s w.item w.strings p) _ past ∙ ap (λ (k : Found ℕ ℕ → Outcome ℕ). index_at s w.item w.strings p >>= k) (λ i n. sym (past_made {B = Named} (λ (v : Found Tree ℕ). record { name = n.item; value = v.item }) (value_at s w left n.next)) i)

  pub inner_named : (left p : ℕ) → past_named s w left p ≡ past_inner s w true left p
  unfolding past_inner index_past ◌>>=◌
  inner_named left p = named_is left p ∙ sym (bind_assoc (index_at s w.item w.strings p) past _)

  pub inner_plain : (left p : ℕ) → past_value s w left p ≡ past_inner s w false left p
  unfolding past_inner index_past ◌>>=◌
  inner_plain left p = refl

  module _ (left p : ℕ) (l : 0 < left) where
    array_is : past_array s w left p ≡ (uleb_at s w.item p >>= λ (n : Found ℕ ℕ). repeat n.item (past_value s w (left - 1)) n.next)
    unfolding array_with
    array_is =
        ap (λ (f : ℕ → Outcome (Found (List Tree) ℕ)). f p >>= past) (array_open left l)
        ∙ bind_assoc (uleb_at s w.item p) _ past
        ∙ ap (λ (k : Found ℕ ℕ → Outcome ℕ). uleb_at s w.item p >>= k) (λ i n. past_collect (value_at s w (left - 1)) n.item n.next i)

    annotation_is : past_annotation s w left p ≡ (start_at s w p >>= λ (n : Found ℕ ℕ). repeat n.item (past_named s w (left - 1)) n.next)
    unfolding annotation_with start_at
    annotation_is =
        ap (λ (f : ℕ → Outcome (Found Annotation ℕ)). f p >>= past) (annotation_open left l)
        ∙ bind_assoc (index_at s w.item w.types p) _ past
        ∙ ap (λ (k : Found ℕ ℕ → Outcome ℕ). index_at s w.item w.types p >>= k) (λ i t. rest t i)
        ∙ sym (bind_assoc (index_at s w.item w.types p) _ _)
      where
        elements : Found ℕ ℕ → Found ℕ ℕ → Outcome (Found Annotation ℕ)
        elements t n = collect n.item (named_with s w (value_at s w (left - 1))) n.next >>= λ (es : Found (List Named) ℕ). answer (record { item = record { type_index = t.item; elements = es.item }; next = es.next })

        rest : (t : Found ℕ ℕ) → (uleb_at s w.item t.next >>= elements t >>= past) ≡ (uleb_at s w.item t.next >>= λ (n : Found ℕ ℕ). repeat n.item (past_named s w (left - 1)) n.next)
        rest t =
            bind_assoc (uleb_at s w.item t.next) (elements t) past
            ∙ ap (λ (k : Found ℕ ℕ → Outcome ℕ). uleb_at s w.item t.next >>= k)
            (λ i n. (sym (past_made {B = Annotation} (λ (es : Found (List Named) ℕ). record { type_index = t.item; elements = es.item }) (collect n.item (named_with s w (value_at s w (left - 1))) n.next)) ∙ past_collect (named_with s w (value_at s w (left - 1))) n.item n.next) i)

    -- both bodies are gone over in one way
    body_is : (named : Bool) → past_body s w named left p
        ≡ (index_past s w.item named w.types p >>= λ (q : ℕ). uleb_at s w.item q >>= λ (n : Found ℕ ℕ). past_values s w named (left - 1) n.item n.next)
    unfolding past_body index_past past_inner start_at ◌>>=◌
    body_is false = array_is
    body_is true =
        annotation_is
        ∙ bind_assoc (index_at s w.item w.types p) _ _
        ∙ (λ i. index_at s w.item w.types p >>= λ (t : Found ℕ ℕ). uleb_at s w.item t.next >>= λ (n : Found ℕ ℕ). repeat n.item (λ (q : ℕ). inner_named (left - 1) q i) n.next)
        ∙ sym (bind_assoc (index_at s w.item w.types p) past _)

    -- ---- a body begins
    module _ (named : Bool) where
      pub front_refused : {r : Refusal} → refused r ≡ index_past s w.item named w.types p → refused r ≡ past_body s w named left p
      front_refused e = sym (body_is named ∙ bind_refused _ (sym e))

      module _ {q : ℕ} (e : answer q ≡ index_past s w.item named w.types p) where
        sized : past_body s w named left p ≡ (uleb_at s w.item q >>= λ (n : Found ℕ ℕ). past_values s w named (left - 1) n.item n.next)
        sized = body_is named ∙ bind_answer _ (sym e)

        pub size_refused : {r : Refusal} → refused r ≡ uleb_at s w.item q → refused r ≡ past_body s w named left p
        size_refused g = sym (sized ∙ bind_refused _ (sym g))

        pub size_got : {n m : ℕ} {z : Outcome ℕ} → answer (record { item = n; next = m }) ≡ uleb_at s w.item q → z ≡ past_values s w named (left - 1) n m → z ≡ past_body s w named left p
        size_got g k = k ∙ sym (sized ∙ bind_answer _ (sym g))

  -- ---- the two bodies by their names
  module _ (left p : ℕ) {y : Outcome ℕ} where
    pub array_by : y ≡ past_body s w false left p → y ≡ past_array s w left p
    unfolding past_body
    array_by e = e

    pub annotation_by : y ≡ past_body s w true left p → y ≡ past_annotation s w left p
    unfolding past_body
    annotation_by e = e

-- ---- the loop over the values of a body: what is left to do says what the whole says
pub record Values (s : List ℕ) (w : Walk) (named : Bool) (left from count turn p : ℕ) : Type 0 where
  loop : Loop (past_values s w named left count from) (past_inner s w named left) count turn p

pub values_first : (s : List ℕ) (w : Walk) (named : Bool) (left from count : ℕ) → Values s w named left from count 0 from
values_first s w named left from count = record { loop = walk_start (past_inner s w named left) count from }

pub values_done : {s : List ℕ} {w : Walk} {named : Bool} {left from count turn p : ℕ} → Values s w named left from count turn p → count ≤ turn → answer p ≡ past_values s w named left count from
values_done h l = walk_done h.loop l

-- ---- one turn
module _ {s : List ℕ} {w : Walk} {named : Bool} {left from count turn p : ℕ} (h : Values s w named left from count turn p) (l : turn < count) where
  pub name_stop : {r : Refusal} → refused r ≡ index_past s w.item named w.strings p → refused r ≡ past_values s w named left count from
  unfolding past_inner
  name_stop e = walk_stop h.loop l (sym (bind_refused _ (sym e)))

  module _ {at : ℕ} (e : answer at ≡ index_past s w.item named w.strings p) where
    inner : past_inner s w named left p ≡ past_value s w left at
    unfolding past_inner
    inner = bind_answer _ (sym e)

    turn_on : {q : ℕ} → answer q ≡ past_value s w left at → Values s w named left from count (turn + 1) q
    turn_on k = record { loop = walk_next h.loop l (k ∙ sym inner) }

    turn_off : {r : Refusal} → refused r ≡ past_value s w left at → refused r ≡ past_values s w named left count from
    turn_off k = walk_stop h.loop l (k ∙ sym inner)

    -- a value: its head byte, and what stands behind it
    pub head_stop : {r : Refusal} → refused r ≡ head_byte_at s w.item at → refused r ≡ past_values s w named left count from
    head_stop g = turn_off (value_refused s w left at g)

    module _ {b : ℕ} (g : answer b ≡ head_byte_at s w.item at) where
      pub inside_turn : {q : ℕ} → answer q ≡ past_inside s w left b (at + 1) → Values s w named left from count (turn + 1) q
      inside_turn k = turn_on (value_inside s w left at g k)

      pub inside_stop : {r : Refusal} → refused r ≡ past_inside s w left b (at + 1) → refused r ≡ past_values s w named left count from
      inside_stop k = turn_off (value_inside s w left at g k)

pub ruleset cycle_laws = (after_head, array_by, annotation_by, opened_array, opened_annotation, inside_opened, inside_below, inside_above, body_deep, front_refused, size_refused, size_got, values_first, values_done, name_stop, head_stop, inside_turn, inside_stop, handed_on, rules)

-- what a value by itself is searched with
pub ruleset value_laws = (after_head, value_refused, value_inside, inside_opened, inside_below, inside_above, handed_on, rules)
