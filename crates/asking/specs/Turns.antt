-- Cases one after the other. vectors/questions.py: "the length of what follows its head (4 bytes), the length of its label and of its bytes (2 bytes
-- each); then the label, for an item what it is read against (16 bytes ..), the bytes, and the questions"
use Rattle.std.specs.Prelude.{ℕ, ◌+◌, ◌-◌, ◌*◌, List}
use Rattle.word.specs.Words.{u16_at, u32_at}
use Rattle.word.specs.declared.Endian.TheVariants.{Little}
use Rattle.asking.specs.declared.Turn.{Turn}

-- a case's first question, by its head, where `left` cases follow it and its bytes have so many more in front
unfoldable pub turn_of : List ℕ → ℕ → ℕ → Turn
turn_of head left front = record {
  left = left;
  start = u16_at Little head 4;
  length = front + u16_at Little head 6;
  at = u16_at Little head 4 + (front + u16_at Little head 6);
  end = u32_at Little head 0;
}

-- what is still to be read, weighed so that each question leaves less: a case's questions have fewer bytes than 4,294,967,296
abbrev pub to_go : Turn → ℕ
to_go t = 4294967296 * t.left + (t.end - t.at)
