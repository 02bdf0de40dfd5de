-- What a register comes to.
use Rattle.std.specs.Prelude.{◌≡◌, ℕ, ◌≤◌}

-- of an accepted file: 0, unless something could not be read or written
pub data Ended (n : ℕ) : Type 0 where
  whole : n ≡ 0 → Ended n
  broken : 2 ≤ n → Ended n
