-- What is known of a value's number where it is read out.
use Rattle.std.specs.Prelude.{ℕ, ◌%◌, ◌/◌, ◌*◌, ◌^◌, ◌≤◌, ◌<◌, get_or}
use Rattle.value_heads.specs.Kinds.{arguments, bytes_of}

-- n bytes, 1 to `most`, and their number
pub record Sized (most n x : ℕ) : Type 0 where
  pub some_byte : 1 ≤ n
  pub few : n ≤ most
  pub small : x < 2 ^ (8 * n)

-- an allowed head byte and the number of the bytes behind it
pub record Fitting (head x : ℕ) : Type 0 where
  pub known : head / 32 < get_or arguments (head % 32) 0
  pub small : x < 2 ^ (8 * bytes_of head)
