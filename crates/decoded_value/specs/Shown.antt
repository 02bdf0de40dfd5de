-- "A value read out is one of these kinds with its number, floats included, or a nested body's offset and length in bytes."
use Rattle.std.specs.Prelude.{ℕ, ◌-◌, Bool, ℤ, Float}
use Rattle.std.specs.Float.Ieee.{of_bits}
use Rattle.std.specs.Float.{binary32, binary64}
use Rattle.encoded_value.specs.Tree.{Tree, byte, short, char, int, long, float, double, index, null, boolean, array, annotation}
use Rattle.decoded_value.specs.declared.Value as Code

pub data Content : Type 0 where
  integer : ℤ → Content
  natural : ℕ → Content
  floating : ℕ → Float → Content
  row_number : ℕ → Content
  body : ℕ → ℕ → Content
  nothing : Content
  truth : Bool → Content

-- document 01's number of the kind, and what is read out
pub record Shown : Type 0 where
  pub kind : ℕ
  pub content : Content

abbrev pub is : ℕ → Content → Shown
is k c = record { kind = k; content = c }

-- what a value of a tree is when read out: a float's bits and the float of those bits, a body's place and length
abbrev pub shown : Tree → Shown
shown (byte z) = is 0x00 (integer z)
shown (short z) = is 0x02 (integer z)
shown (char n) = is 0x03 (natural n)
shown (int z) = is 0x04 (integer z)
shown (long z) = is 0x06 (integer z)
shown (float b) = is 0x10 (floating b (of_bits binary32 b))
shown (double b) = is 0x11 (floating b (of_bits binary64 b))
shown (index k n) = is k (row_number n)
shown null = is 0x1e nothing
shown (boolean b) = is 0x1f (truth b)
shown (array p q vs) = is 0x1c (body p (q - p))
shown (annotation p q t es) = is 0x1d (body p (q - p))

-- what a value of the code is
abbrev pub value_shown : Code.Value → Shown
value_shown (Code.TheVariants.Byte z) = is 0x00 (integer z)
value_shown (Code.TheVariants.Short z) = is 0x02 (integer z)
value_shown (Code.TheVariants.Char n) = is 0x03 (natural n)
value_shown (Code.TheVariants.Int z) = is 0x04 (integer z)
value_shown (Code.TheVariants.Long z) = is 0x06 (integer z)
value_shown (Code.TheVariants.Float b x) = is 0x10 (floating b x)
value_shown (Code.TheVariants.Double b x) = is 0x11 (floating b x)
value_shown (Code.TheVariants.Index k n) = is k (row_number n)
value_shown (Code.TheVariants.Array o l) = is 0x1c (body o l)
value_shown (Code.TheVariants.Annotation o l) = is 0x1d (body o l)
value_shown Code.TheVariants.Null = is 0x1e nothing
value_shown (Code.TheVariants.Boolean b) = is 0x1f (truth b)
