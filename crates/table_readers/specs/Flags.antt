-- The access flags of a class as readings: the record first, "then 19".
use Rattle.std.specs.Prelude.{ℕ, true, List}
use Rattle.refusal.specs.Outcome.{Outcome, answer, refused, ◌>>=◌}
use Rattle.access_flags.specs.Flags.{written, content}
use Rattle.class_ids.specs.declared.Class.{Class}
use Rattle.table_readers.specs.Tables.{class_number}

unfoldable pub class_flags : List ℕ → ℕ → ℕ → Outcome ℕ
class_flags f n room = do
  c ← class_number f n
  written true c.flags room

-- what the output holds afterwards: as it was where the answer is a refusal
unfoldable pub content_of : Outcome Class → List ℕ → List ℕ
content_of (answer c) out = content true c.flags out
content_of (refused r) out = out

unfoldable pub class_content : List ℕ → ℕ → List ℕ → List ℕ
class_content f n out = content_of (class_number f n) out
