-- The refusals, each made here alone: its number beside document 01's sentence, and where its place is. "The place is the offset of the item whose rule broke: a table
-- record, a data item, or 0 for the header and for 1 to 7, 19 and 20."
use Rattle.std.specs.Prelude.{ℕ}
use Rattle.refusal.specs.declared.Refusal.{Refusal}

-- "1: under 112 bytes"
abbrev pub file_too_short : Refusal
file_too_short = record { number = 1; place = 0 }

-- "2: over 67,108,864 bytes"
abbrev pub file_too_long : Refusal
file_too_long = record { number = 2; place = 0 }

-- "3: first four bytes not 64 65 78 0a, or next four not 035, 037, 038 or 039 and a zero byte"
abbrev pub wrong_magic : Refusal
wrong_magic = record { number = 3; place = 0 }

-- "4: endian tag is neither order of 0x12345678"
abbrev pub wrong_tag : Refusal
wrong_tag = record { number = 4; place = 0 }

-- "5: header size not 112, or file size not the buffer's length"
abbrev pub wrong_sizes : Refusal
wrong_sizes = record { number = 5; place = 0 }

-- "6: a table or the data section breaks its bounds"
abbrev pub out_of_bounds : Refusal
out_of_bounds = record { number = 6; place = 0 }

-- "7: the caller asks for a number that is not there, or a body place outside the data section"
abbrev pub not_there : Refusal
not_there = record { number = 7; place = 0 }

-- "8: an item offset outside the data section, or not a multiple of 4 where that is required"
abbrev pub wrong_offset : ℕ → Refusal
wrong_offset holder = record { number = 8; place = holder }

-- "9: an item runs past the data section's end"
abbrev pub runs_past : ℕ → Refusal
runs_past item = record { number = 9; place = item }

-- "10: a LEB128 number is malformed"
abbrev pub malformed_number : ℕ → Refusal
malformed_number item = record { number = 10; place = item }

-- "11: an index in the file is out of range"
abbrev pub wrong_index : ℕ → Refusal
wrong_index holder = record { number = 11; place = holder }

-- "12: a value's code or size argument is not allowed"
abbrev pub wrong_value : ℕ → Refusal
wrong_value item = record { number = 12; place = item }

-- "13: bodies nested deeper than 64"
abbrev pub nested_too_deep : ℕ → Refusal
nested_too_deep item = record { number = 13; place = item }

-- "14: text malformed, or its length wrong"
abbrev pub malformed_text : ℕ → Refusal
malformed_text item = record { number = 14; place = item }

-- "15: order or repetition"
abbrev pub out_of_order : ℕ → Refusal
out_of_order later = record { number = 15; place = later }

-- "16: map list rule"
abbrev pub wrong_map : ℕ → Refusal
wrong_map map = record { number = 16; place = map }

-- "17: code item rule"
abbrev pub wrong_code : ℕ → Refusal
wrong_code item = record { number = 17; place = item }

-- "18: visibility over 2 or method handle type over 8"
abbrev pub unknown_kind : ℕ → Refusal
unknown_kind place = record { number = 18; place = place }

-- "19: a lent output is shorter than the whole answer"
abbrev pub no_room : Refusal
no_room = record { number = 19; place = 0 }

-- "20: program only: input over 65,536 bytes"
abbrev pub input_too_long : Refusal
input_too_long = record { number = 20; place = 0 }

-- request 1: "the list may not be longer than the static fields; such a file is now refused with a new number 21 at the class record"
abbrev pub too_many_values : ℕ → Refusal
too_many_values holder = record { number = 21; place = holder }
