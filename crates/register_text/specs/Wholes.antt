-- docs/REGISTER.md, "Kinds": "where it is a whole number of at most 2^24 (float) or 2^53 (double) either way, that number".
-- A float has a sign bit, 8 bits of exponent and 23 of fraction; a double has 1, 11 and 52. Its number is (2^23 + fraction) * 2^(exponent - 150), that of a double
-- (2^52 + fraction) * 2^(exponent - 1075), but for exponent 0, whose numbers are 0 and less than 1, and the highest, which has infinities and what is no number.
use Rattle.std.specs.Prelude.{ℕ, zero, suc, ◌+◌, ◌-◌, ◌/◌, ◌%◌, Bool, false, cond, ltb, leb, eqb}

-- a number that was halved
pub data Halves : Type 0 where
  exactly : ℕ → Halves
  broken : Halves

-- what a float is worth as a whole number: its sign and its magnitude
pub data Worth : Type 0 where
  whole : Bool → ℕ → Worth
  not_whole : Worth

-- halved so many times, where it stays whole each time
unfoldable pub halved_by : ℕ → ℕ → Halves
halved_by zero n = exactly n
halved_by (suc k) n = cond (eqb (n % 2) 0) (halved_by k (n / 2)) broken

abbrev pub with_sign : Bool → Halves → Worth
with_sign negative (exactly n) = whole negative n
with_sign negative broken = not_whole

unfoldable pub scaled_of : Bool → ℕ → ℕ → Worth
scaled_of negative significand times = with_sign negative (halved_by times significand)

-- 8388608 is 2^23, 2147483648 is 2^31, 16777216 is 2^24, whose bits without the sign are 1266679808: exponent 151 and no fraction
unfoldable pub float_worth : ℕ → Worth
float_worth bits =
    cond (eqb (bits % 2147483648) 0) (whole false 0)
    (cond (ltb (bits / 8388608 % 256) 127) not_whole
    (cond (leb (bits / 8388608 % 256) 150) (scaled_of (leb 2147483648 bits) (8388608 + bits % 8388608) (150 - bits / 8388608 % 256))
    (cond (eqb (bits % 2147483648) 1266679808) (whole (leb 2147483648 bits) 16777216) not_whole)))

-- 4503599627370496 is 2^52, 9223372036854775808 is 2^63, 9007199254740992 is 2^53, whose bits without the sign are 4845873199050653696: exponent 1076 and no fraction
unfoldable pub double_worth : ℕ → Worth
double_worth bits =
    cond (eqb (bits % 9223372036854775808) 0) (whole false 0)
    (cond (ltb (bits / 4503599627370496 % 2048) 1023) not_whole
    (cond (leb (bits / 4503599627370496 % 2048) 1075) (scaled_of (leb 9223372036854775808 bits) (4503599627370496 + bits % 4503599627370496) (1075 - bits / 4503599627370496 % 2048))
    (cond (eqb (bits % 9223372036854775808) 4845873199050653696) (whole (leb 9223372036854775808 bits) 9007199254740992) not_whole)))
