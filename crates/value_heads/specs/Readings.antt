-- The parts of a value as readings. `s` is the file up to the data section's end; every fault is at the item that holds the bodies.
use Rattle.std.specs.Prelude.{ℕ, ◌+◌, ◌%◌, List, length, get_or, ltb, leb}
use Rattle.refusal.specs.Refusals.{runs_past, wrong_index, wrong_value}
use Rattle.refusal.specs.Outcome.{Outcome, answer, ◌>>=◌, given}
use Rattle.refusal.specs.Rows.{Found}
use Rattle.word.specs.Bytes.{stretch}
use Rattle.leb128.specs.Leb.{uleb_at}
use Rattle.value_heads.specs.declared.Walk.{Walk}
use Rattle.value_heads.specs.Kinds.{allowed_head, bytes_of, in_range}
use Rattle.value_heads.specs.Numbers.{little}

-- the head byte of a value: 9 where it is missing, 12 where it is not allowed
unfoldable pub head_byte_at : List ℕ → ℕ → ℕ → Outcome ℕ
head_byte_at s item p = given (ltb p (length s)) (runs_past item) (given (allowed_head (get_or s p 0)) (wrong_value item) (answer (get_or s p 0)))

-- the number of n bytes
unfoldable pub number_at : List ℕ → ℕ → ℕ → ℕ → Outcome (Found ℕ ℕ)
number_at s item p n = given (leb (p + n) (length s)) (runs_past item) (answer (record { item = little (stretch s p n); next = p + n }))

-- a LEB128 number that is an index below a count
unfoldable pub index_at : List ℕ → ℕ → ℕ → ℕ → Outcome (Found ℕ ℕ)
index_at s item count p = do
  n ← uleb_at s item p
  given (ltb n.item count) (wrong_index item) (answer n)

module _ (s : List ℕ) (w : Walk) where
  -- the number of a value that is no body, behind its head byte h: "then the bytes (9); then the index (11)"
  unfoldable pub checked_at : ℕ → ℕ → Outcome (Found ℕ ℕ)
  checked_at h p = do
    n ← number_at s w.item p (bytes_of h)
    given (in_range w (h % 32) n.item) (wrong_index w.item) (answer n)
