-- vectors/questions.py: "A question: its reader's number (1 byte), which words of the answer are written (3 bytes, bit k for word k), the width of its numbers
-- (1 byte: 1, 2 or 4), the length of what follows them (1 byte), five numbers, then a path or a text."
use Rattle.std.specs.Prelude.{ℕ, ◌+◌, ◌*◌, cond, List, get_or, eqb}
use Rattle.word.specs.Words.{u16_at, u32_at}
use Rattle.word.specs.declared.Endian.TheVariants.{Little}
use Rattle.asking.specs.declared.Question.{Question}

-- "low first, as all numbers here"
unfoldable pub number_at : ℕ → List ℕ → ℕ → ℕ
number_at width bytes at = cond (eqb width 1) (get_or bytes at 0) (cond (eqb width 2) (u16_at Little bytes at) (u32_at Little bytes at))

-- the question whose numbers have a width
unfoldable pub question_by : ℕ → List ℕ → Question
question_by width bytes = record {
  reader = get_or bytes 0 0;
  mask = u16_at Little bytes 1 + 65536 * get_or bytes 3 0;
  a = number_at width bytes 6;
  b = number_at width bytes (6 + width);
  c = number_at width bytes (6 + 2 * width);
  d = number_at width bytes (6 + 3 * width);
  e = number_at width bytes (6 + 4 * width);
  size = 6 + 5 * width;
  more = get_or bytes 5 0;
}

-- the question that these bytes begin with
unfoldable pub question_of : List ℕ → Question
question_of bytes = question_by (get_or bytes 4 0) bytes
