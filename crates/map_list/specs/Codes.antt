-- "The type codes are one fixed table: 0x0000 to 0x0008, 0x1000 to 0x1003, 0x2000 to 0x2006, 0xF000."
use Rattle.std.specs.Prelude.{ℕ, suc, cond, List, [], ◌∷◌, eqb}

unfoldable pub codes : List ℕ
codes =
    0x0000 ∷ 0x0001 ∷ 0x0002 ∷ 0x0003 ∷ 0x0004 ∷ 0x0005 ∷ 0x0006 ∷ 0x0007 ∷ 0x0008
    ∷ 0x1000 ∷ 0x1001 ∷ 0x1002 ∷ 0x1003
    ∷ 0x2000 ∷ 0x2001 ∷ 0x2002 ∷ 0x2003 ∷ 0x2004 ∷ 0x2005 ∷ 0x2006
    ∷ 0xf000 ∷ []

-- the number of the first x in a list, its length where there is none
unfoldable pub place_in : List ℕ → ℕ → ℕ
place_in [] x = 0
place_in (c ∷ l) x = cond (eqb c x) 0 (suc (place_in l x))

-- the number of a code in the table, 21 where it is not there
unfoldable pub map_code_number : ℕ → ℕ
map_code_number kind = place_in codes kind
