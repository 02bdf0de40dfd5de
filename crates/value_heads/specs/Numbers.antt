-- The numbers of a value's bytes: "bytes are low first in files of either order".
use Rattle.std.specs.Prelude.{ℕ, ◌+◌, ◌-◌, ◌*◌, ◌^◌, cond, List, [], ◌∷◌, ltb, ℤ, pos, negsuc}

unfoldable pub little : List ℕ → ℕ
little [] = 0
little (b ∷ bs) = b + 256 * little bs

-- "signed": the number of n bytes, less 256 to the n where the highest bit is set
unfoldable pub signed : ℕ → ℕ → ℤ
signed n x = cond (ltb x (2 ^ (8 * n - 1))) (pos x) (negsuc (2 ^ (8 * n) - 1 - x))

-- "given bytes are the highest, zeros below": the number of n bytes as that of w
unfoldable pub raised : ℕ → ℕ → ℕ → ℕ
raised w n x = x * 2 ^ (8 * (w - n))
