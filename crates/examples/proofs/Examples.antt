-- Document 01's byte examples marked P, proved together, as one statement over a list of cases.
-- Assumes nothing.
use Prim.Native.Nat.{ℕ}
use mathlib.Core.Path.{◌≡◌, refl}
use mathlib.Core.Bool.{false}
use mathlib.Core.List.{List, [], ◌∷◌}
use lib.IntN.{ℤ, pos, negsuc}
use lib.Ieee.{of_bits, binary32}
use Rattle.refusal.specs.Outcome.{Outcome, answer, refused, ◌>>=◌, given}
use Rattle.refusal.specs.Rows.{Found, collect}
use Rattle.word.specs.Bytes.{stretch}
use Rattle.leb128.specs.Leb.{bytes_at, weight, scale, signed, uleb_at, sleb_at}
use Rattle.value_heads.specs.declared.Walk.{Walk}
use Rattle.value_heads.specs.Kinds.{arguments, allowed_head, bytes_of, is_index, in_range}
use Rattle.value_heads.specs.Numbers as N
use Rattle.encoded_value.specs.Tree.{rest_of, plain_of}
use Rattle.encoded_value.specs.Depth.{deepest_value}
use Rattle.value_heads.specs.Readings.{head_byte_at, number_at, checked_at}
use Rattle.encoded_value.specs.Readings.{plain_at, kind_with, value_with, value_at}
use Rattle.decoded_value.specs.Shown.{Shown, is, integer, natural, floating}
use Rattle.decoded_value.specs.Readings.{decoded_at}
use Rattle.class_members.specs.declared.Member.{Member}
use Rattle.class_members.specs.Members as M

-- the indices of members
pub indices : List Member → List ℕ
indices [] = []
indices (m ∷ l) = m.index ∷ indices l

pub numbered : Found (List Member) M.Run → Outcome (List ℕ)
numbered r = answer (indices r.item)

-- bytes, and what they are, read at 0 for the item at 7
pub data Case : Type 0 where
  unsigned : List ℕ → Outcome (Found ℕ ℕ) → Case
  as_signed : List ℕ → Outcome (Found ℤ ℕ) → Case
  value : List ℕ → Outcome (Found Shown ℕ) → Case
  members : List ℕ → Outcome (List ℕ) → Case

abbrev pub item : Walk
item = record { item = 7; strings = 0; types = 0; protos = 0; fields = 0; methods = 0; handles = 0 }

-- three fields of eight
abbrev pub three : List ℕ → Outcome (List ℕ)
three s = M.members_at s (record { limit = 8; code = false; start = 0 }) 7 0 3 >>= numbered

abbrev pub Holds : Case → Type 0
Holds (unsigned s o) = uleb_at s 7 0 ≡ o
Holds (as_signed s o) = sleb_at s 7 0 ≡ o
Holds (value s o) = decoded_at s item deepest_value 0 ≡ o
Holds (members s o) = three s ≡ o

abbrev pub All : List Case → Type 0
All [] = Unit
All (c ∷ cs) = Holds c × All cs

abbrev pub to : {A : Type 0} → A → ℕ → Outcome (Found A ℕ)
to v n = answer (record { item = v; next = n })

abbrev pub broken : {A : Type 0} → ℕ → Outcome A
broken n = refused (record { number = n; place = 7 })

abbrev pub cases : List Case
cases =
    -- "7f is 127 unsigned, -1 signed; 80 7f is 16256 and -128; 80 00 is 0."
    unsigned (0x7f ∷ []) (to 127 1)
    ∷ as_signed (0x7f ∷ []) (to (negsuc 0) 1)
    ∷ unsigned (0x80 ∷ 0x7f ∷ []) (to 16256 2)
    ∷ as_signed (0x80 ∷ 0x7f ∷ []) (to (negsuc 127) 2)
    ∷ unsigned (0x80 ∷ 0x00 ∷ []) (to 0 2)
    ∷ as_signed (0x80 ∷ 0x00 ∷ []) (to (pos 0) 2)
    -- "ff ff ff ff 0f is 4294967295; 80 80 80 80 10 is refused with 10."
    ∷ unsigned (0xff ∷ 0xff ∷ 0xff ∷ 0xff ∷ 0x0f ∷ []) (to 4294967295 5)
    ∷ unsigned (0x80 ∷ 0x80 ∷ 0x80 ∷ 0x80 ∷ 0x10 ∷ []) (broken 10)
    -- "signed 80 80 80 80 78 is -2147483648."
    ∷ as_signed (0x80 ∷ 0x80 ∷ 0x80 ∷ 0x80 ∷ 0x78 ∷ []) (to (negsuc 2147483647) 5)
    -- "00 ff is byte -1; 24 00 80 is int -32768; 23 00 80 is char 32768."
    ∷ value (0x00 ∷ 0xff ∷ []) (to (is 0x00 (integer (negsuc 0))) 2)
    ∷ value (0x24 ∷ 0x00 ∷ 0x80 ∷ []) (to (is 0x04 (integer (negsuc 32767))) 3)
    ∷ value (0x23 ∷ 0x00 ∷ 0x80 ∷ []) (to (is 0x03 (natural 32768)) 3)
    -- "30 80 3f is the float with bits 3f800000; 90 and 5f are refused with 12."
    ∷ value (0x30 ∷ 0x80 ∷ 0x3f ∷ []) (to (is 0x10 (floating 0x3f800000 (of_bits binary32 0x3f800000))) 3)
    ∷ value (0x90 ∷ []) (broken 12)
    ∷ value (0x5f ∷ []) (broken 12)
    -- "differences 5, 1, 1 are indices 5, 6, 7."
    ∷ members (5 ∷ 0 ∷ 1 ∷ 0 ∷ 1 ∷ 0 ∷ []) (answer (5 ∷ 6 ∷ 7 ∷ []))
    ∷ []

pub examples : All cases
unfolding indices numbered bytes_at weight scale signed uleb_at sleb_at arguments allowed_head bytes_of is_index in_range N.little N.signed N.raised rest_of plain_of stretch head_byte_at number_at checked_at plain_at kind_with value_with value_at decoded_at M.members_at M.step_at M.member_at M.rest_at M.code_at M.apart collect given ◌>>=◌
examples = (refl, (refl, (refl, (refl, (refl, (refl, (refl, (refl, (refl, (refl, (refl, (refl, (refl, (refl, (refl, (refl, tt))))))))))))))))
