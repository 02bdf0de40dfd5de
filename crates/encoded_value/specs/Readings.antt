-- Values as readings. `s` is the file up to the data section's end; every fault is at the item that holds the bodies.
use Rattle.std.specs.Prelude.{ℕ, zero, suc, ◌+◌, ◌%◌, ◌/◌, cond, List, eqb}
use Rattle.refusal.specs.Refusals.{nested_too_deep}
use Rattle.refusal.specs.Outcome.{Outcome, answer, refused, ◌>>=◌}
use Rattle.refusal.specs.Rows.{Found, past, collect}
use Rattle.leb128.specs.Leb.{uleb_at}
use Rattle.value_heads.specs.declared.Walk.{Walk}
use Rattle.value_heads.specs.Readings.{head_byte_at, number_at, checked_at, index_at}
use Rattle.encoded_value.specs.Tree.{Named, Annotation, Tree, array, annotation, trees, elements_of, plain_of}

-- a body as a value, with its place and its end
abbrev pub as_array : ℕ → Found (List Tree) ℕ → Outcome (Found Tree ℕ)
as_array p r = answer (record { item = array p r.next (trees r.item); next = r.next })

abbrev pub as_annotation : ℕ → Found Annotation ℕ → Outcome (Found Tree ℕ)
as_annotation p r = answer (record { item = annotation p r.next r.item.type_index (elements_of r.item.elements); next = r.next })

module _ (s : List ℕ) (w : Walk) where
  -- a value that is no body, behind its head byte h
  unfoldable pub plain_at : ℕ → ℕ → Outcome (Found Tree ℕ)
  plain_at h p = do
    n ← checked_at s w h p
    answer (record { item = plain_of (h % 32) (h / 32) n.item; next = n.next })

  -- "An array holds values": its size, and the values
  module _ (element : ℕ → Outcome (Found Tree ℕ)) where
    unfoldable pub array_with : ℕ → Outcome (Found (List Tree) ℕ)
    array_with p = do
      n ← uleb_at s w.item p
      collect n.item element n.next

    -- a name, and the value
    unfoldable pub named_with : ℕ → Outcome (Found Named ℕ)
    named_with p = do
      n ← index_at s w.item w.strings p
      v ← element n.next
      answer (record { item = record { name = n.item; value = v.item }; next = v.next })

    -- its type, its size, and the named values
    unfoldable pub annotation_with : ℕ → Outcome (Found Annotation ℕ)
    annotation_with p = do
      t ← index_at s w.item w.types p
      n ← uleb_at s w.item t.next
      es ← collect n.item named_with n.next
      answer (record { item = record { type_index = t.item; elements = es.item }; next = es.next })

  -- a value, by the readers of the bodies that it may be: 12 comes before anything of a body
  module _ (body : ℕ → Outcome (Found (List Tree) ℕ)) (noted : ℕ → Outcome (Found Annotation ℕ)) where
    unfoldable pub kind_with : ℕ → ℕ → Outcome (Found Tree ℕ)
    kind_with h p =
        cond (eqb (h % 32) 0x1c) (body p >>= as_array p)
        (cond (eqb (h % 32) 0x1d) (noted p >>= as_annotation p)
        (plain_at h p))

    unfoldable pub value_with : ℕ → Outcome (Found Tree ℕ)
    value_with p = do
      h ← head_byte_at s w.item p
      kind_with h (p + 1)

  -- "depth 65 is 13, before its first byte is read"
  abbrev pub too_deep : {A : Type 0} → ℕ → Outcome A
  too_deep p = refused (nested_too_deep w.item)

  -- with so many bodies that may still be opened, one inside the other
  unfoldable pub value_at : ℕ → ℕ → Outcome (Found Tree ℕ)
  value_at zero = value_with too_deep too_deep
  value_at (suc left) = value_with (array_with (value_at left)) (annotation_with (value_at left))

  unfoldable pub array_at : ℕ → ℕ → Outcome (Found (List Tree) ℕ)
  array_at zero = too_deep
  array_at (suc left) = array_with (value_at left)

  unfoldable pub annotation_at : ℕ → ℕ → Outcome (Found Annotation ℕ)
  annotation_at zero = too_deep
  annotation_at (suc left) = annotation_with (value_at left)

-- an annotation's type and size: how many elements, and where they start
unfoldable pub start_at : List ℕ → Walk → ℕ → Outcome (Found ℕ ℕ)
start_at s w p = do
  t ← index_at s w.item w.types p
  uleb_at s w.item t.next

-- what code finds that goes over them: where they end
abbrev pub past_value : List ℕ → Walk → ℕ → ℕ → Outcome ℕ
past_value s w left p = value_at s w left p >>= past

abbrev pub past_array : List ℕ → Walk → ℕ → ℕ → Outcome ℕ
past_array s w left p = array_at s w left p >>= past

abbrev pub past_annotation : List ℕ → Walk → ℕ → ℕ → Outcome ℕ
past_annotation s w left p = annotation_at s w left p >>= past

abbrev pub past_named : List ℕ → Walk → ℕ → ℕ → Outcome ℕ
past_named s w left p = named_with s w (value_at s w left) p >>= past

abbrev pub past_plain : List ℕ → Walk → ℕ → ℕ → Outcome ℕ
past_plain s w h p = plain_at s w h p >>= past

abbrev pub past_number : List ℕ → ℕ → ℕ → ℕ → Outcome ℕ
past_number s item p n = number_at s item p n >>= past
