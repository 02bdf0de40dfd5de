-- Stages of the code: what is gone over a second time. They say nothing new.
use Rattle.std.specs.Prelude.{ℕ, zero, suc, ◌+◌, Bool, true, false, cond, List, ltb}
use Rattle.std.proofs.Math.Option.{Option, none, some}
use Rattle.refusal.specs.Outcome.{Outcome, answer, ◌>>=◌}
use Rattle.refusal.specs.Rows.{Found}
use Rattle.leb128.specs.Leb.{uleb_at}
use Rattle.frame.specs.declared.Frame.{Frame}
use Rattle.header.specs.declared.Header.{Header}
use Rattle.header.specs.Header.{up_to_end, plain_frame}
use Rattle.text.specs.Text.{Extent}
use Rattle.string_ids.specs.Strings.{string_extent}
use Rattle.class_members.specs.declared.Member.{Member}
use Rattle.class_members.specs.Members.{Run, step_at}
use Rattle.class_data.specs.Data.{fields_judge, extent_at, counts_at, member_of_list}
use Rattle.value_heads.specs.declared.Walk.{Walk}
use Rattle.encoded_value.specs.Depth.{deepest_value}
use Rattle.encoded_value.specs.Readings.{value_at}
use Rattle.decoded_value.specs.Shown.{Shown, shown}
use Rattle.value_bodies.specs.Bodies.{array_count}
use Rattle.value_readers.specs.Opening.{walk_in}
use Rattle.value_readers.specs.Statics.{static_value_in}
use Rattle.static_fields.specs.Pairing.{StaticField, WrongKind, with_value, default_of, fits_of, type_string, type_text, field_under}

-- where the text of a field's type lies
unfoldable pub type_extent : List ℕ → Header → ℕ → Outcome Extent
type_extent f header n = type_string f header n >>= string_extent f header

abbrev pub as_some : {A : Type 0} → A → Outcome (Option A)
as_some a = answer (some a)

-- a value that was found, as field m's
unfoldable pub valued : Member → Bool → Outcome Shown → Outcome (Option StaticField)
valued m stored v = v >>= with_value m stored >>= as_some

-- static field k, where there is class data
unfoldable pub field_some : List ℕ → Header → ℕ → ℕ → ℕ → ℕ → ℕ → Outcome (Option StaticField)
field_some f header handles c k data_at values-at = field_under f header handles c k data_at values-at >>= as_some

-- static field k, where so many values are stored: class data and values are read once more
unfoldable pub pair_of : List ℕ → Header → ℕ → ℕ → ℕ → ℕ → ℕ → Outcome (Option StaticField)
pair_of f header handles data_at values-at k count =
    member_of_list (up_to_end f header) (plain_frame header) data_at 0 k
    >>= λ m. cond (ltb k count) (valued m true (static_value_in f header handles values-at k)) (valued m false (default_of (type_text f header) m.index))

-- ---- the going over fields and values side by side
-- how many static fields class data has, and where they begin; how many values an array has, and where they begin
unfoldable pub fields_begin : List ℕ → Frame → ℕ → Outcome (Found ℕ ℕ)
fields_begin s frame item = do
  d ← extent_at s frame item
  c ← counts_at s item
  answer (record { item = c.item.statics; next = c.next })

unfoldable pub values_begin : List ℕ → Walk → ℕ → Outcome (Found ℕ ℕ)
values_begin s w item = do
  n ← array_count s w item
  z ← uleb_at s item item
  answer (record { item = n; next = z.next })

-- none where they are absent
unfoldable pub fields_from : List ℕ → Header → ℕ → Outcome (Found ℕ ℕ)
fields_from f header at = cond (ltb 0 at) (fields_begin (up_to_end f header) (plain_frame header) at) (answer (record { item = 0; next = 0 }))

unfoldable pub values_from : List ℕ → Header → ℕ → ℕ → Outcome (Found ℕ ℕ)
values_from f header handles at = cond (ltb 0 at) (values_begin (up_to_end f header) (walk_in header handles at) at) (answer (record { item = 0; next = 0 }))

-- the kind of the value at a place, and the place after it
unfoldable pub kind_at : List ℕ → Walk → ℕ → Outcome (Found ℕ ℕ)
kind_at s w p = do
  v ← value_at s w deepest_value p
  answer (record { item = (shown v.item).kind; next = v.next })

-- does the value at a place fit field n
unfoldable pub fits_at : List ℕ → Header → ℕ → ℕ → ℕ → ℕ → Outcome (Found Bool ℕ)
fits_at f header handles values-at p n = do
  v ← kind_at (up_to_end f header) (walk_in header handles values-at) p
  fit ← fits_of (type_text f header) n v.item
  answer (record { item = fit; next = v.next })

-- so many fields and values, from number k on
module _ (f : List ℕ) (header : Header) (handles data_at values-at : ℕ) where
  unfoldable pub wrong_from : ℕ → Run → ℕ → ℕ → Outcome (Option WrongKind)
  wrong_from zero t p k = answer none
  wrong_from (suc left) t p k = do
    m ← step_at (up_to_end f header) (fields_judge (plain_frame header)) data_at t
    v ← fits_at f header handles values-at p m.item.index
    cond v.item (wrong_from left m.next v.next (k + 1)) (answer (some (record { number = k; field = m.item.index })))
