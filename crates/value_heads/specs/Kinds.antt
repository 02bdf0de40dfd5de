-- Document 01's table of codes and arguments: "The low five bits are the code, the high three the size argument".
use Rattle.std.specs.Prelude.{ℕ, ◌+◌, ◌%◌, ◌/◌, Bool, true, cond, ◌&&◌, List, [], ◌∷◌, get_or, ltb, leb, eqb}
use Rattle.frame.specs.declared.Frame.{Frame}
use Rattle.value_heads.specs.declared.Walk.{Walk}

-- how many arguments a code allows, from 0 on; none where the code is not allowed
unfoldable pub arguments : List ℕ
arguments =
    -- 00 byte 0; 02 short, 03 char 0 to 1; 04 int, 06 long 0 to 3, 0 to 7
    1 ∷ 0 ∷ 2 ∷ 2 ∷ 4 ∷ 0 ∷ 8 ∷ 0
    ∷ 0 ∷ 0 ∷ 0 ∷ 0 ∷ 0 ∷ 0 ∷ 0 ∷ 0
    -- 10 float, 11 double 0 to 3, 0 to 7; 15 proto, 16 handle, 17 string, 18 type, 19 field, 1a method, 1b enum 0 to 3
    ∷ 4 ∷ 8 ∷ 0 ∷ 0 ∷ 0 ∷ 4 ∷ 4 ∷ 4
    -- 1c array, 1d annotation, 1e null 0; 1f boolean 0 to 1
    ∷ 4 ∷ 4 ∷ 4 ∷ 4 ∷ 1 ∷ 1 ∷ 1 ∷ 2
    ∷ []

-- "Others are 12, tested before the bytes."
unfoldable pub allowed_head : ℕ → Bool
allowed_head h = ltb (h / 32) (get_or arguments (h % 32) 0)

-- how many bytes follow the head byte of a value that is no body: one more than the argument, none for null and boolean
unfoldable pub bytes_of : ℕ → ℕ
bytes_of h = cond (ltb (h % 32) 0x1c) (h / 32 + 1) 0

-- "15 proto, 16 handle, 17 string, 18 type, 19 field, 1a method, 1b enum"
unfoldable pub is_index : ℕ → Bool
is_index code = leb 0x15 code && ltb code 0x1c

-- what indices are tested by while one item is gone over
abbrev pub walk_of : Frame → ℕ → Walk
walk_of frame item = record {
  item = item;
  strings = frame.strings;
  types = frame.types;
  protos = frame.protos;
  fields = frame.fields;
  methods = frame.methods;
  handles = frame.handles;
}

-- the same for another item: "A body asked for by place .. is itself the item"
abbrev pub moved : Walk → ℕ → Walk
moved w item = record {
  item = item;
  strings = w.strings;
  types = w.types;
  protos = w.protos;
  fields = w.fields;
  methods = w.methods;
  handles = w.handles;
}

-- the count that an index of a code is tested by: an enum is a field
unfoldable pub count_of : Walk → ℕ → ℕ
count_of w code =
    cond (eqb code 0x15) w.protos
    (cond (eqb code 0x16) w.handles
    (cond (eqb code 0x17) w.strings
    (cond (eqb code 0x18) w.types
    (cond (eqb code 0x1a) w.methods w.fields))))

-- "11: an index in the file is out of range"
unfoldable pub in_range : Walk → ℕ → ℕ → Bool
in_range w code number = cond (is_index code) (ltb number (count_of w code)) true
