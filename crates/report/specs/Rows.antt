-- What the functions inside say of lines: each takes at most 32 bytes, so that the room for all of them is known beforehand.
use Rattle.std.specs.Prelude.{ℕ, ◌+◌, ◌*◌, ◌≤◌, List, length}
use Rattle.report.specs.Lines.{Line, lines}
use Rattle.report.specs.Stored.{Stored}

-- a name of at most 8 bytes, and room for a line
pub record Named (name : List ℕ) (at : ℕ) (out : List ℕ) : Type 0 where
  pub few : length name ≤ 8
  pub room : at + 32 ≤ length out

-- three names, and room for their lines
pub record ThreeNamed (x y z : List ℕ) (at : ℕ) (out : List ℕ) : Type 0 where
  pub first : length x ≤ 8
  pub second : length y ≤ 8
  pub third : length z ≤ 8
  pub room : at + 96 ≤ length out

-- lines were stored from a place on
pub record Rows (ls : List Line) (at : ℕ) (before after : List ℕ) (next : ℕ) : Type 0 where
  pub stored : Stored (lines ls) at before after next
  pub few : next ≤ at + 32 * length ls
