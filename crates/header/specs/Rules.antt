-- The header as a rule: what stands where, with no order of tests.
use Rattle.std.specs.Prelude.{ℕ, ◌+◌, ◌*◌, ◌%◌, ◌≤◌, ◌<◌, ◌≡◌, List, length, get_or}
use Rattle.word.specs.Words.{u32_at}
use Rattle.word.specs.declared.Endian.{Endian}
use Rattle.word.specs.declared.Endian.TheVariants.{Little, Big}
use Rattle.header.specs.declared.Table.{Table}
use Rattle.header.specs.declared.Header.{Header}
use Rattle.header.specs.declared.Shape.{Shape}
use Rattle.header.specs.Header.{strings_shape, types_shape, protos_shape, fields_shape, methods_shape, classes_shape}

-- these four bytes stand at p
pub record Four (f : List ℕ) (p a b c d : ℕ) : Type 0 where
  pub first : get_or f p 0 ≡ a
  pub second : get_or f (p + 1) 0 ≡ b
  pub third : get_or f (p + 2) 0 ≡ c
  pub fourth : get_or f (p + 3) 0 ≡ d

-- "next four not 035, 037, 038 or 039 and a zero byte": the four bytes of each version, at 4
pub data VersionRule (f : List ℕ) : ℕ → Type 0 where
  version_035 : Four f 4 0x30 0x33 0x35 0 → VersionRule f 35
  version_037 : Four f 4 0x30 0x33 0x37 0 → VersionRule f 37
  version_038 : Four f 4 0x30 0x33 0x38 0 → VersionRule f 38
  version_039 : Four f 4 0x30 0x33 0x39 0 → VersionRule f 39

-- the endian tag
abbrev pub Tagged : List ℕ → Endian → Type 0
Tagged f Little = Four f 40 0x78 0x56 0x34 0x12
Tagged f Big = Four f 40 0x12 0x34 0x56 0x78

-- where a table of so many records may lie in a file of len bytes
pub record TableRule (len : ℕ) (shape : Shape) (t : Table) : Type 0 where
  pub none_at_0 : t.count ≡ 0 → t.offset ≡ 0
  pub after_header : 0 < t.count → 112 ≤ t.offset
  pub multiple : 0 < t.count → t.offset % 4 ≡ 0
  pub inside : 0 < t.count → t.offset + shape.width * t.count ≤ len
  pub few : 0 < t.count → t.count ≤ shape.most

-- the table whose count and offset stand at p of the header
pub record TableAt (f : List ℕ) (o : Endian) (shape : Shape) (p : ℕ) (t : Table) : Type 0 where
  pub count : u32_at o f p ≡ t.count
  pub offset : u32_at o f (p + 4) ≡ t.offset
  pub rule : TableRule (length f) shape t

pub record HeaderRule (f : List ℕ) (header : Header) : Type 0 where
  pub long : 112 ≤ length f
  pub short : length f ≤ 67108864
  pub magic : Four f 0 0x64 0x65 0x78 0x0a
  pub version : VersionRule f header.version
  pub tag : Tagged f header.order
  pub header_size : u32_at header.order f 36 ≡ 112
  pub file_size : u32_at header.order f 32 ≡ length f
  pub checksum : u32_at header.order f 8 ≡ header.checksum
  pub map : u32_at header.order f 52 ≡ header.map
  pub strings : TableAt f header.order strings_shape 56 header.strings
  pub types : TableAt f header.order types_shape 64 header.types
  pub protos : TableAt f header.order protos_shape 72 header.protos
  pub fields : TableAt f header.order fields_shape 80 header.fields
  pub methods : TableAt f header.order methods_shape 88 header.methods
  pub classes : TableAt f header.order classes_shape 96 header.classes
  pub start : u32_at header.order f 108 ≡ header.start
  pub end : u32_at header.order f 108 + u32_at header.order f 104 ≡ header.end
  pub section_after : 112 ≤ header.start
  pub section_inside : header.end ≤ length f
