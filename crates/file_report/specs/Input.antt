-- What a program says of its input.
use Rattle.std.specs.Prelude.{List, ℕ, length, leb}
use Rattle.refusal.specs.Refusals.{input_too_long}
use Rattle.refusal.specs.Outcome.{Outcome, given}
use Rattle.header.specs.declared.Header.{Header}
use Rattle.whole_check.specs.File.{verdict_at}

-- "20: program only: input over 65,536 bytes"
unfoldable pub input_at : List ℕ → Outcome Header
input_at f = given (leb (length f) 65536) input_too_long (verdict_at f)
