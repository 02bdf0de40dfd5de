-- docs/REGISTER.md, "Kinds": numbers in decimal with a minus before a negative one, and bits in hexadecimal digits.
use Rattle.std.specs.Prelude.{ℕ, zero, suc, ◌/◌, ◌%◌, Bool, cond, List, [], ◌∷◌, ◌++◌, ℤ, pos, negsuc, true, false}
use Rattle.report.specs.Decimal.{decimal}
use Rattle.register_text.specs.Escapes.{hex}

-- a magnitude with its sign
unfoldable pub signed : Bool → ℕ → List ℕ
signed negative n = cond negative (45 ∷ decimal n) (decimal n)

-- a signed number
unfoldable pub integer : ℤ → List ℕ
integer (pos n) = signed false n
integer (negsuc n) = signed true (suc n)

-- so many digits of a number, the highest first
unfoldable pub hexadecimal : ℕ → ℕ → List ℕ
hexadecimal zero n = []
hexadecimal (suc k) n = hexadecimal k (n / 16) ++ (hex (n % 16) ∷ [])
