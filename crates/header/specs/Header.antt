-- The header of a DEX file as a reading: rules 1 to 6 in that order, at place 0.
use Rattle.std.specs.Prelude.{ℕ, ◌+◌, ◌*◌, ◌%◌, Bool, cond, ◌&&◌, List, length, get_or, take, ltb, leb, eqb}
use Rattle.refusal.specs.Refusals.{file_too_long, file_too_short, out_of_bounds, wrong_magic, wrong_sizes, wrong_tag}
use Rattle.refusal.specs.Outcome.{Outcome, answer, ◌>>=◌, given}
use Rattle.word.specs.Words.{u32_at}
use Rattle.word.specs.declared.Endian.{Endian}
use Rattle.word.specs.declared.Endian.TheVariants.{Little, Big}
use Rattle.frame.specs.declared.Frame.{Frame}
use Rattle.header.specs.declared.Table.{Table}
use Rattle.header.specs.declared.Header.{Header}
use Rattle.header.specs.declared.Shape.{Shape}
use Rattle.header.specs.declared.Three.{Three}
use Rattle.header.specs.declared.Section.{Section}

-- are these the four bytes at a place
unfoldable pub four_of : ℕ → ℕ → ℕ → ℕ → ℕ → ℕ → ℕ → ℕ → Bool
four_of w x y z a b c d = eqb w a && (eqb x b && (eqb y c && eqb z d))

unfoldable pub four : List ℕ → ℕ → ℕ → ℕ → ℕ → ℕ → Bool
four f p a b c d = four_of (get_or f p 0) (get_or f (p + 1) 0) (get_or f (p + 2) 0) (get_or f (p + 3) 0) a b c d

-- "next four not 035, 037, 038 or 039 and a zero byte": the version, 0 where it is none of these
unfoldable pub version_at : List ℕ → ℕ
version_at f =
    cond (four f 4 0x30 0x33 0x35 0) 35
    (cond (four f 4 0x30 0x33 0x37 0) 37
    (cond (four f 4 0x30 0x33 0x38 0) 38
    (cond (four f 4 0x30 0x33 0x39 0) 39
    0)))

-- "endian tag is neither order of 0x12345678": "Little-endian files hold 78 56 34 12 at byte 40."
unfoldable pub order_at : List ℕ → Outcome Endian
order_at f =
    cond (four f 40 0x78 0x56 0x34 0x12) (answer Little)
    (given (four f 40 0x12 0x34 0x56 0x78) wrong_tag (answer Big))

-- "Count 0 needs offset 0. Otherwise the offset is at least 112, a multiple of 4, and the table ends within the file."
unfoldable pub table_allowed : ℕ → Shape → ℕ → ℕ → Bool
table_allowed len shape count offset =
    cond (eqb count 0) (eqb offset 0)
    (leb 112 offset && (eqb (offset % 4) 0 && (leb (offset + shape.width * count) len && leb count shape.most)))

unfoldable pub table_of : ℕ → Shape → ℕ → ℕ → Outcome Table
table_of len shape count offset = given (table_allowed len shape count offset) out_of_bounds (answer (record { count = count; offset = offset }))

unfoldable pub table_at : List ℕ → Endian → Shape → ℕ → Outcome Table
table_at f o shape p = table_of (length f) shape (u32_at o f p) (u32_at o f (p + 4))

unfoldable pub three_at : List ℕ → Endian → Shape → Shape → Shape → ℕ → Outcome Three
three_at f o a b c p = do
  x ← table_at f o a p
  y ← table_at f o b (p + 8)
  z ← table_at f o c (p + 16)
  answer (record { first = x; second = y; third = z })

-- "with records of 4, 4, 12, 8, 8, 32 bytes"; "Types and protos: at most 65,535 each". A count is 32 bits wide: for the others that is no limit
abbrev pub strings_shape : Shape
strings_shape = record { width = 4; most = 4294967295 }

abbrev pub types_shape : Shape
types_shape = record { width = 4; most = 65535 }

abbrev pub protos_shape : Shape
protos_shape = record { width = 12; most = 65535 }

abbrev pub fields_shape : Shape
fields_shape = record { width = 8; most = 4294967295 }

abbrev pub methods_shape : Shape
methods_shape = record { width = 8; most = 4294967295 }

abbrev pub classes_shape : Shape
classes_shape = record { width = 32; most = 4294967295 }

-- "The data section starts at 112 or later and ends within the file."
unfoldable pub section_of : ℕ → ℕ → ℕ → Outcome Section
section_of len start size =
    given (leb 112 start) out_of_bounds
    (given (leb (start + size) len) out_of_bounds
    (answer (record { start = start; end = start + size })))

unfoldable pub section_at : List ℕ → Endian → Outcome Section
section_at f o = section_of (length f) (u32_at o f 108) (u32_at o f 104)

abbrev pub joined : List ℕ → ℕ → Endian → Three → Three → Section → Header
joined f version o t u d = record {
  version = version;
  order = o;
  checksum = u32_at o f 8;
  map = u32_at o f 52;
  strings = t.first;
  types = t.second;
  protos = t.third;
  fields = u.first;
  methods = u.second;
  classes = u.third;
  start = d.start;
  end = d.end;
}

unfoldable pub sectioned_at : List ℕ → ℕ → Endian → Three → Three → Outcome Header
sectioned_at f version o t u = do
  d ← section_at f o
  answer (joined f version o t u d)

-- "Tables in order: strings, types, protos, fields, methods, classes"
unfoldable pub tables_at : List ℕ → ℕ → Endian → Outcome Header
tables_at f version o = do
  t ← three_at f o strings_shape types_shape protos_shape 56
  u ← three_at f o fields_shape methods_shape classes_shape 80
  sectioned_at f version o t u

-- "header size not 112, or file size not the buffer's length"
unfoldable pub body_of : ℕ → ℕ → ℕ → Outcome Header → Outcome Header
body_of len header_size file_size rest =
    given (eqb header_size 112) wrong_sizes
    (given (eqb file_size len) wrong_sizes
    rest)

unfoldable pub body_at : List ℕ → ℕ → Endian → Outcome Header
body_at f version o = body_of (length f) (u32_at o f 36) (u32_at o f 32) (tables_at f version o)

unfoldable pub versioned_at : List ℕ → Outcome Header
versioned_at f = given (ltb 0 (version_at f)) wrong_magic (order_at f >>= body_at f (version_at f))

-- "under 112 bytes"; "over 67,108,864 bytes"; "first four bytes not 64 65 78 0a"
unfoldable pub header_at : List ℕ → Outcome Header
header_at f =
    given (leb 112 (length f)) file_too_short
    (given (leb (length f) 67108864) file_too_long
    (given (four f 0 0x64 0x65 0x78 0x0a) wrong_magic
    (versioned_at f)))

-- the file up to the data section's end: what data items are read from
unfoldable pub up_to_end : List ℕ → Header → List ℕ
up_to_end f header = take header.end f

-- what items are read against in a file with this header and so many method handles
abbrev pub frame_of : Header → ℕ → Frame
frame_of header handles = record {
  order = header.order;
  start = header.start;
  strings = header.strings.count;
  types = header.types.count;
  protos = header.protos.count;
  fields = header.fields.count;
  methods = header.methods.count;
  handles = handles;
}

-- the same where handles play no part: records, lists, class data, code and debug information hold no index of a handle
abbrev pub plain_frame : Header → Frame
plain_frame header = frame_of header 0
