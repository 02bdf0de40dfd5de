-- LEB128 numbers as readings. `s` ends where the data section ends, `item` is the place of the item that the number is read for.
use Rattle.std.specs.Prelude.{ℕ, zero, suc, ◌+◌, ◌-◌, ◌*◌, ◌%◌, ◌^◌, cond, ◌||◌, List, [], ◌∷◌, length, get_or, ltb, leb, ℤ, pos, negsuc}
use Rattle.std.proofs.Math.Option.{Option, none, some}
use Rattle.refusal.specs.Refusals.{malformed_number, runs_past}
use Rattle.refusal.specs.Outcome.{Outcome, answer, refused, ◌>>=◌, given}
use Rattle.refusal.specs.Rows.{Found, in_front}

-- the bytes of a number, up to the first below 128: "At most five bytes", "data ending earlier is 9"
unfoldable pub bytes_at : ℕ → List ℕ → ℕ → ℕ → Outcome (Found (List ℕ) ℕ)
bytes_at zero s item p = refused (malformed_number item)
bytes_at (suc most) s item p =
    given (ltb p (length s)) (runs_past item)
    (cond (ltb (get_or s p 0) 128)
    (answer (record { item = get_or s p 0 ∷ []; next = p + 1 }))
    (bytes_at most s item (p + 1) >>= in_front (get_or s p 0)))

-- the low seven bits of each byte, the first byte's the lowest
unfoldable pub weight : List ℕ → ℕ
weight [] = 0
weight (b ∷ bs) = b % 128 + 128 * weight bs

-- 128 to the count of the bytes
unfoldable pub scale : List ℕ → ℕ
scale bs = 128 ^ length bs

-- the fifth byte, 0 where there is none
abbrev pub fifth : List ℕ → ℕ
fifth bs = get_or bs 4 0

-- "A fifth byte is at most 0x0f unsigned; .. Anything else in the fifth byte is 10"
unfoldable pub uleb_at : List ℕ → ℕ → ℕ → Outcome (Found ℕ ℕ)
uleb_at s item p = do
  n ← bytes_at 5 s item p
  given (leb (fifth n.item) 0x0f) (malformed_number item) (answer (record { item = weight n.item; next = n.next }))

-- the weight, less the scale where the highest bit read is set
unfoldable pub signed : List ℕ → ℤ
signed bs = cond (ltb (2 * weight bs) (scale bs)) (pos (weight bs)) (negsuc (scale bs - weight bs - 1))

-- "signed, 0x00 to 0x07 or 0x78 to 0x7f"
unfoldable pub sleb_at : List ℕ → ℕ → ℕ → Outcome (Found ℤ ℕ)
sleb_at s item p = do
  n ← bytes_at 5 s item p
  given (leb (fifth n.item) 0x07 || leb 0x78 (fifth n.item)) (malformed_number item) (answer (record { item = signed n.item; next = n.next }))

-- "A plus-one number is none when 0, otherwise one less."
unfoldable pub less_one : ℕ → Option ℕ
less_one zero = none
less_one (suc n) = some n

unfoldable pub plus_one_at : List ℕ → ℕ → ℕ → Outcome (Found (Option ℕ) ℕ)
plus_one_at s item p = do
  n ← uleb_at s item p
  answer (record { item = less_one n.item; next = n.next })

-- a stage of the code: what it keeps of the bytes
pub record Weighing : Type 0 where
  pub value : ℕ
  pub full : ℕ
  pub next : ℕ

abbrev pub weighing : Found (List ℕ) ℕ → Outcome Weighing
weighing n = answer (record { value = weight n.item; full = scale n.item; next = n.next })

unfoldable pub weighed_at : List ℕ → ℕ → ℕ → Outcome Weighing
weighed_at s item p = bytes_at 5 s item p >>= weighing
