-- The records of classes as readings: own rules in stored order, at the record.
use Rattle.std.specs.Prelude.{ℕ, ◌+◌, ◌*◌, Bool, true, false, cond, ◌||◌, Option, Some, None, List, ltb, eqb}
use Rattle.refusal.specs.Refusals.{wrong_index, wrong_offset}
use Rattle.refusal.specs.Outcome.{Outcome, answer, given}
use Rattle.word.specs.Words.{u32_at}
use Rattle.word.specs.declared.Endian.{Endian}
use Rattle.frame.specs.declared.Frame.{Frame}
use Rattle.frame.specs.Offsets.{allowed_or_absent}
use Rattle.class_ids.specs.declared.Class.{Class}
use Rattle.class_ids.specs.declared.ClassWords.{ClassWords}

-- "0xFFFFFFFF means none for superclass and source file only."
unfoldable pub index_or_none : ℕ → ℕ → Bool
index_or_none v count = eqb v 0xffffffff || ltb v count

unfoldable pub maybe_of : ℕ → Option ℕ
maybe_of v = cond (eqb v 0xffffffff) None (Some v)

abbrev pub words_at : List ℕ → Endian → ℕ → ℕ → ClassWords
words_at f o offset n = record {
  class = u32_at o f (offset + 32 * n);
  flags = u32_at o f (offset + 32 * n + 4);
  superclass = u32_at o f (offset + 32 * n + 8);
  interfaces = u32_at o f (offset + 32 * n + 12);
  source = u32_at o f (offset + 32 * n + 16);
  directory = u32_at o f (offset + 32 * n + 20);
  «data» = u32_at o f (offset + 32 * n + 24);
  values = u32_at o f (offset + 32 * n + 28);
}

abbrev pub class_of : ClassWords → Class
class_of w = record {
  class = w.class;
  flags = w.flags;
  superclass = maybe_of w.superclass;
  interfaces = w.interfaces;
  source = maybe_of w.source;
  directory = w.directory;
  «data» = w.«data»;
  values = w.values;
}

-- directory (8), class data (8), static values (8)
unfoldable pub places_of : ℕ → ℕ → ℕ → ClassWords → Outcome Class
places_of start end place w =
    given (allowed_or_absent start end true w.directory) (wrong_offset place)
    (given (allowed_or_absent start end false w.«data») (wrong_offset place)
    (given (allowed_or_absent start end false w.values) (wrong_offset place)
    (answer (class_of w))))

-- interfaces (8), source file (11 or none), then the places
unfoldable pub middle_of : Frame → ℕ → ℕ → ClassWords → Outcome Class
middle_of frame end place w =
    given (allowed_or_absent frame.start end true w.interfaces) (wrong_offset place)
    (given (index_or_none w.source frame.strings) (wrong_index place)
    (places_of frame.start end place w))

-- class (11), superclass (11 or none), then the others in stored order
unfoldable pub first_of : Frame → ℕ → ℕ → ClassWords → Outcome Class
first_of frame end place w =
    given (ltb w.class frame.types) (wrong_index place)
    (given (index_or_none w.superclass frame.types) (wrong_index place)
    (middle_of frame end place w))

unfoldable pub class_at : List ℕ → Frame → ℕ → ℕ → ℕ → Outcome Class
class_at f frame end offset n = first_of frame end (offset + 32 * n) (words_at f frame.order offset n)
