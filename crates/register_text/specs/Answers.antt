-- What the answers of the code say.
use Rattle.std.specs.Prelude.{ℕ, Option, Some, None}
use Rattle.register_text.specs.Wholes.{Halves, exactly, broken, Worth, whole, not_whole}
use Rattle.register_text.specs.declared.WholeNumber.{WholeNumber}

abbrev pub half_worth : Option ℕ → Halves
half_worth (Some n) = exactly n
half_worth None = broken

abbrev pub whole_worth : Option WholeNumber → Worth
whole_worth (Some w) = whole w.negative w.magnitude
whole_worth None = not_whole
