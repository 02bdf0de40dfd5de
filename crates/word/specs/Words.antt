-- Words of two and four bytes, by the weights of their bytes.
use Rattle.std.specs.Prelude.{ℕ, ◌+◌, ◌*◌, List, get_or}
use Rattle.word.specs.declared.Endian.{Endian}
use Rattle.word.specs.declared.Endian.TheVariants.{Little, Big}

unfoldable pub u16_of : Endian → ℕ → ℕ → ℕ
u16_of Little a b = a + 256 * b
u16_of Big a b = 256 * a + b

unfoldable pub u32_of : Endian → ℕ → ℕ → ℕ → ℕ → ℕ
u32_of Little a b c d = a + 256 * b + 65536 * c + 16777216 * d
u32_of Big a b c d = 16777216 * a + 65536 * b + 256 * c + d

-- the word at a place
unfoldable pub u16_at : Endian → List ℕ → ℕ → ℕ
u16_at o slice p = u16_of o (get_or slice p 0) (get_or slice (p + 1) 0)

unfoldable pub u32_at : Endian → List ℕ → ℕ → ℕ
u32_at o slice p = u32_of o (get_or slice p 0) (get_or slice (p + 1) 0) (get_or slice (p + 2) 0) (get_or slice (p + 3) 0)
