-- "Lists of fixed-width entries check their length first (9)": a count of four bytes at a list's own place, and so many entries of one width behind it.
use Rattle.std.specs.Prelude.{ℕ, ◌+◌, ◌*◌, List, length, leb}
use Rattle.refusal.specs.Refusals.{runs_past}
use Rattle.refusal.specs.Outcome.{Outcome, answer, given}
use Rattle.word.specs.Words.{u32_at}
use Rattle.word.specs.declared.Endian.{Endian}

unfoldable pub counted : List ℕ → Endian → ℕ → ℕ → Outcome ℕ
counted s order p width =
    given (leb (p + 4) (length s)) (runs_past p)
    (given (leb (p + 4 + width * u32_at order s p) (length s)) (runs_past p)
    (answer (u32_at order s p)))
