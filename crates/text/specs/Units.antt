-- Modified UTF-8: a text is a list of 16-bit units, and these are its bytes.
use Rattle.std.specs.Prelude.{ℕ, ◌+◌, ◌/◌, ◌%◌, cond, ◌&&◌, List, [], ◌∷◌, ◌++◌, ltb}

-- 110..... and 10......
abbrev pub two : ℕ → List ℕ
two u = (0xc0 + u / 64) ∷ (0x80 + u % 64) ∷ []

-- 1110...., 10...... and 10......
abbrev pub three : ℕ → List ℕ
three u = (0xe0 + u / 4096) ∷ (0x80 + u / 64 % 64) ∷ (0x80 + u % 64) ∷ []

-- "One, two or three byte forms, each shortest, except U+0000, which is c0 80. Surrogates are encoded singly"
unfoldable pub form : ℕ → List ℕ
form u = cond (ltb 0 u && ltb u 0x80) (u ∷ []) (cond (ltb u 0x800) (two u) (three u))

-- all units' forms in a row
unfoldable pub encode : List ℕ → List ℕ
encode [] = []
encode (u ∷ us) = form u ++ encode us
