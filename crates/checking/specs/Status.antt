-- What an input comes to, the worse the higher: 0 accepted, 1 refused, 2 without a report, 3 a write that failed.
use Rattle.std.specs.Prelude.{ℕ, ◌+◌, ◌≤◌, min, ◌≡◌, List}
use Rattle.refusal.specs.Outcome.{Outcome}
use Rattle.header.specs.declared.Header.{Header}
use Rattle.file_report.specs.Input.{input_at}
use Rattle.named_report.specs.Output.{status}

-- the exit status as an ASCII digit: 2 stands for what was not read and for what was not written
abbrev pub digit : ℕ → ℕ
digit n = 48 + min n 2

-- what an input with this verdict comes to: what the verdict says, unless that could not be written
pub data Tells (o : Outcome Header) (n : ℕ) : Type 0 where
  said : n ≡ status o → Tells o n
  unsaid : 2 ≤ n → Tells o n

-- what an input comes to whose bytes these are
pub record Comes (f : List ℕ) (n : ℕ) : Type 0 where
  pub tells : Tells (input_at f) n

-- what was read lies in the rooms that were lent for it
pub record Within (name size path room : ℕ) : Type 0 where
  pub named : name ≤ path
  pub sized : size ≤ room
