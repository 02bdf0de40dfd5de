-- An answer as a C program finds it: twenty words of 64 bits. Word 0 says which: 0 an answer, whose words follow; 1 none; 2 a refusal, whose
-- number and place follow. The words that are left are 0.
use Rattle.std.specs.Prelude.{ℕ, zero, suc, ◌-◌, ◌^◌, Bool, cond, List, [], ◌∷◌, ℤ, pos, negsuc, Some, None}
use Rattle.std.proofs.Math.Option.{Option, none, some}
use Rattle.refusal.specs.declared.Refusal.{Refusal}
use Rattle.refusal.specs.Outcome.{Outcome, answer, refused}
use Rattle.word.specs.declared.Endian as E
use Rattle.header.specs.declared.Header.{Header}
use Rattle.map_list.specs.declared.MapEntry.{MapEntry}
use Rattle.text.specs.Text.{Extent}
use Rattle.ids.specs.declared.Proto.{Proto}
use Rattle.ids.specs.declared.MemberId.{MemberId}
use Rattle.ids.specs.declared.Handle.{Handle}
use Rattle.class_ids.specs.declared.Class.{Class}
use Rattle.std.specs.Prelude as S
use Rattle.decoded_value.specs.Shown.{Shown, Content, integer, natural, floating, row_number, body, nothing, truth}
use Rattle.value_bodies.specs.Bodies.{ShownElement}
use Rattle.value_readers.specs.Bodies.{ArraySize, NotedSize}
use Rattle.static_fields.specs.Pairing.{StaticField, WrongKind}
use Rattle.class_data.specs.declared.Counts.{Counts}
use Rattle.class_members.specs.declared.Member as D
use Rattle.code_item.specs.declared.Outline.{Outline}
use Rattle.code_item.specs.Code.{Linked, Handed}
use Rattle.handlers.specs.declared.Pair.{Pair}
use Rattle.debug_info.specs.Debug as B
use Rattle.annotation_directories.specs.declared.DirectoryHead as H
use Rattle.annotation_directories.specs.Directories as N
use Rattle.annotation_items.specs.Items.{Summary}

abbrev pub padded : ℕ → List ℕ → List ℕ
padded zero ws = []
padded (suc n) [] = 0 ∷ padded n []
padded (suc n) (w ∷ ws) = w ∷ padded n ws

abbrev pub row : List ℕ → List ℕ
row ws = padded 20 ws

abbrev pub refusal_row : Refusal → List ℕ
refusal_row r = row (2 ∷ r.number ∷ r.place ∷ [])

-- what an outcome is in words, by the words of its answer
abbrev pub told : {A : Type 0} → (A → List ℕ) → Outcome A → List ℕ
told words (answer a) = row (0 ∷ words a)
told words (refused r) = refusal_row r

-- the same where the answer may be none
abbrev pub told_if : {A : Type 0} → (A → List ℕ) → Outcome (Option A) → List ℕ
told_if words (answer (some a)) = row (0 ∷ words a)
told_if words (answer none) = row (1 ∷ [])
told_if words (refused r) = refusal_row r

-- none inside an answer: no number of the format is as large
abbrev pub no_number : ℕ
no_number = 18446744073709551615

abbrev pub number_words : ℕ → List ℕ
number_words n = n ∷ []

abbrev pub order_word : E.Endian → ℕ
order_word E.TheVariants.Little = 0
order_word E.TheVariants.Big = 1

unfoldable pub ordered_words : Header → ℕ → List ℕ
ordered_words header order =
    header.version ∷ order ∷ header.checksum ∷ header.map
    ∷ header.strings.count ∷ header.strings.offset ∷ header.types.count ∷ header.types.offset ∷ header.protos.count ∷ header.protos.offset
    ∷ header.fields.count ∷ header.fields.offset ∷ header.methods.count ∷ header.methods.offset ∷ header.classes.count ∷ header.classes.offset
    ∷ header.start ∷ header.end ∷ []

unfoldable pub header_words : Header → List ℕ
header_words header = ordered_words header (order_word header.order)

abbrev pub entry_words : MapEntry → List ℕ
entry_words e = e.kind ∷ e.size ∷ e.offset ∷ []

abbrev pub text_words : Extent → List ℕ
text_words t = t.start ∷ t.length ∷ t.units ∷ []

abbrev pub proto_words : Proto → List ℕ
proto_words p = p.shorty ∷ p.return_type ∷ p.parameters ∷ []

abbrev pub member_words : MemberId → List ℕ
member_words m = m.class ∷ m.kind ∷ m.name ∷ []

abbrev pub handle_words : Handle → List ℕ
handle_words h = h.kind ∷ h.number ∷ []

abbrev pub maybe_word : S.Option ℕ → ℕ
maybe_word (Some n) = n
maybe_word None = no_number

unfoldable pub joined_words : Class → ℕ → ℕ → List ℕ
joined_words c superclass source = c.class ∷ c.flags ∷ superclass ∷ c.interfaces ∷ source ∷ c.directory ∷ c.«data» ∷ c.values ∷ []

unfoldable pub class_words : Class → List ℕ
class_words c = joined_words c (maybe_word c.superclass) (maybe_word c.source)

-- a part of the file: its place and its length
abbrev pub signature_words : Header → List ℕ
signature_words header = 12 ∷ 20 ∷ []

-- an integer as 64 bits, two's complement
abbrev pub bits_of : ℤ → ℕ
bits_of (pos n) = n
bits_of (negsuc n) = 18446744073709551615 - n

abbrev pub truth_word : Bool → ℕ
truth_word b = cond b 1 0

abbrev pub first_word : Content → ℕ
first_word (integer z) = bits_of z
first_word (natural n) = n
first_word (floating bits x) = bits
first_word (row_number n) = n
first_word (body offset length) = offset
first_word nothing = 0
first_word (truth b) = truth_word b

abbrev pub second_word : Content → ℕ
second_word (integer z) = 0
second_word (natural n) = 0
second_word (floating bits x) = 0
second_word (row_number n) = 0
second_word (body offset length) = length
second_word nothing = 0
second_word (truth b) = 0

-- a value: its kind, its number (a float's bits, a body's place), and a body's length
abbrev pub value_words : Shown → List ℕ
value_words v = v.kind ∷ first_word v.content ∷ second_word v.content ∷ []

-- an element: its value, then its name
abbrev pub named_words : Shown → ℕ → List ℕ
named_words v name = v.kind ∷ first_word v.content ∷ second_word v.content ∷ name ∷ []

abbrev pub element_words : ShownElement → List ℕ
element_words e = named_words e.value e.name

abbrev pub array_words : ArraySize → List ℕ
array_words a = a.count ∷ a.length ∷ []

abbrev pub body_words : NotedSize → List ℕ
body_words b = b.type_index ∷ b.count ∷ b.length ∷ []

-- a static field: its value, then the field's number, its flags, and 1 where the value is stored
abbrev pub static_words : StaticField → List ℕ
static_words a = a.value.kind ∷ first_word a.value.content ∷ second_word a.value.content ∷ a.field ∷ a.flags ∷ truth_word a.stored ∷ []

-- its number in the class's list, and the field's
abbrev pub wrong_words : WrongKind → List ℕ
wrong_words a = a.number ∷ a.field ∷ []

-- nothing but that there is an answer
abbrev pub no_words : {A : Type 0} → A → List ℕ
no_words a = []

-- a number or none, inside an answer
abbrev pub option_word : Option ℕ → ℕ
option_word (some n) = n
option_word none = no_number

abbrev pub option_words : Option ℕ → List ℕ
option_words o = option_word o ∷ []

abbrev pub counts_words : Counts → List ℕ
counts_words c = c.statics ∷ c.instances ∷ c.directs ∷ c.virtuals ∷ []

abbrev pub found_words : D.Member → List ℕ
found_words m = m.index ∷ m.flags ∷ m.code ∷ []

unfoldable pub outline_words : Outline → List ℕ
outline_words o =
    o.head.registers ∷ o.head.ins ∷ o.head.outs ∷ o.head.tries ∷ o.head.debug ∷ o.head.units
    ∷ o.handlers ∷ o.from ∷ o.base ∷ o.end ∷ []

abbrev pub try_words : Linked → List ℕ
try_words t = t.attempt.start ∷ t.attempt.count ∷ t.attempt.handler ∷ t.number ∷ []

abbrev pub handler_words : Handed → List ℕ
handler_words h = h.offset ∷ h.pairs ∷ option_word h.all ∷ []

abbrev pub pair_words : Pair → List ℕ
pair_words p = p.kind ∷ p.address ∷ []

abbrev pub debug_words : B.Extent → List ℕ
debug_words d = d.line ∷ d.names ∷ d.start ∷ d.length ∷ []

abbrev pub directory_words : H.DirectoryHead → List ℕ
directory_words h = h.set ∷ h.fields ∷ h.methods ∷ h.parameters ∷ []

abbrev pub place_words : N.DirectoryEntry → List ℕ
place_words e = e.index ∷ e.offset ∷ []

abbrev pub annotation_words : Summary → List ℕ
annotation_words a = a.visibility ∷ a.type_index ∷ a.count ∷ []
