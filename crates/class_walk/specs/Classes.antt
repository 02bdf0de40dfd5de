-- A class with all below it: "its record, interfaces, annotation directory, class data, then each method's code and its debug information, then static values"; and then,
-- by request 1, that there are no more static values than static fields.
use Rattle.std.specs.Prelude.{ℕ, ◌+◌, ◌*◌, cond, List, length, ltb, leb}
use Rattle.std.proofs.Math.Option.{Option, none, some}
use Rattle.refusal.specs.Refusals.{too_many_values}
use Rattle.refusal.specs.Outcome.{Outcome, answer, refused, ◌>>=◌, given, present, accepted}
use Rattle.refusal.specs.Rows.{Found}
use Rattle.leb128.specs.Leb.{uleb_at}
use Rattle.header.specs.declared.Header.{Header}
use Rattle.header.specs.Header.{up_to_end, frame_of, plain_frame}
use Rattle.type_list.specs.Below.{types_below, types_accepted}
use Rattle.class_ids.specs.declared.Class.{Class}
use Rattle.class_ids.specs.Classes.{class_at}
use Rattle.value_heads.specs.declared.Walk.{Walk}
use Rattle.value_heads.specs.Kinds.{walk_of}
use Rattle.encoded_value.specs.Tree.{Tree}
use Rattle.encoded_value.specs.Depth.{deepest}
use Rattle.encoded_value.specs.Readings.{array_at}
use Rattle.annotation_walk.specs.Below.{Annotated, directory_below}
use Rattle.class_walk.specs.Methods.{DataBelow, data_below}

pub record ClassBelow : Type 0 where
  pub own : Class
  pub interfaces : Option (List ℕ)
  pub annotations : Option Annotated
  pub members : Option DataBelow
  pub values : Option (List Tree)

-- how many static fields and how many static values a class has: without class data no field, without an array no value
abbrev pub static_count : Option DataBelow → ℕ
static_count none = 0
static_count (some d) = length d.members.statics

abbrev pub value_count : Option (List Tree) → ℕ
value_count none = 0
value_count (some l) = length l

-- "The format document says the list may not be longer than the static fields; such a file is now refused with a new number 21 at the class record, tested after static values in the class order."
unfoldable pub fitting : ℕ → ClassBelow → Outcome ClassBelow
fitting place b = given (leb (value_count b.values) (static_count b.members)) (too_many_values place) (answer b)

-- static values: an array at depth 1
unfoldable pub values_at : List ℕ → Walk → ℕ → Outcome (List Tree)
values_at s w p = do
  a ← array_at s w deepest p
  answer a.item

-- a stage of the code: the number that an item begins with, 0 where the item is absent. Class data begins with how many static fields there are, an array with how many values
abbrev pub number_in : Outcome (Found ℕ ℕ) → ℕ
number_in (answer n) = n.item
number_in (refused r) = 0

unfoldable pub first_number : List ℕ → ℕ → ℕ
first_number s at = cond (ltb 0 at) (number_in (uleb_at s at at)) 0

unfoldable pub fit_pass : List ℕ → Header → ℕ → ℕ → ℕ → Outcome Unit
fit_pass f header place members values = given (leb (first_number (up_to_end f header) values) (first_number (up_to_end f header) members)) (too_many_values place) (answer tt)

-- class data names no handle
unfoldable pub data_at : List ℕ → Header → ℕ → Outcome (Option DataBelow)
data_at f header at = present at (data_below (up_to_end f header) (plain_frame header) at)

abbrev pub members_accepted : List ℕ → Header → ℕ → Outcome Unit
members_accepted f header at = data_at f header at >>= accepted

module _ (f : List ℕ) (header : Header) (handles : ℕ) where
  unfoldable pub annotations_at : ℕ → Outcome (Option Annotated)
  annotations_at at = present at (directory_below (up_to_end f header) (frame_of header handles) at)

  unfoldable pub statics_at : ℕ → Outcome (Option (List Tree))
  statics_at at = present at (values_at (up_to_end f header) (walk_of (frame_of header handles) at) at)

  unfoldable pub below : Class → Outcome ClassBelow
  below c = do
    i ← types_below f header c.interfaces
    a ← annotations_at c.directory
    d ← data_at f header c.«data»
    v ← statics_at c.values
    answer (record { own = c; interfaces = i; annotations = a; members = d; values = v })

  -- class n
  unfoldable pub class_below : ℕ → Outcome ClassBelow
  class_below n = do
    c ← class_at f (plain_frame header) header.end header.classes.offset n
    b ← below c
    fitting (header.classes.offset + 32 * n) b

  -- ---- stages of the code: that there is an answer, by the four offsets
  abbrev pub annotations_accepted : ℕ → Outcome Unit
  annotations_accepted at = annotations_at at >>= accepted

  abbrev pub statics_accepted : ℕ → Outcome Unit
  statics_accepted at = statics_at at >>= accepted

  unfoldable pub below_pass : ℕ → ℕ → ℕ → ℕ → Outcome Unit
  below_pass interfaces directory members values = do
    u ← types_accepted f header interfaces
    u ← annotations_accepted directory
    u ← members_accepted f header members
    statics_accepted values

  abbrev pub class_accepted : ℕ → Outcome Unit
  class_accepted n = class_below n >>= accepted
