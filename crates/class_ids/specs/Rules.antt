-- The records of classes as a rule: what stands where, with no order of tests.
use Rattle.std.specs.Prelude.{ℕ, ◌<◌, ◌≡◌, ◌⊎◌, true, false, List}
use Rattle.frame.specs.declared.Frame.{Frame}
use Rattle.frame.specs.Offsets.{AllowedOrAbsent}
use Rattle.class_ids.specs.declared.Class.{Class}
use Rattle.class_ids.specs.declared.ClassWords.{ClassWords}
use Rattle.class_ids.specs.Classes.{words_at, class_of}

abbrev pub IndexOrNone : ℕ → ℕ → Type 0
IndexOrNone v count = (v ≡ 0xffffffff) ⊎ (v < count)

pub record ClassWordsRule (frame : Frame) (end : ℕ) (w : ClassWords) : Type 0 where
  pub class : w.class < frame.types
  pub superclass : IndexOrNone w.superclass frame.types
  pub interfaces : AllowedOrAbsent frame.start end true w.interfaces
  pub source : IndexOrNone w.source frame.strings
  pub directory : AllowedOrAbsent frame.start end true w.directory
  pub class_data_lem : AllowedOrAbsent frame.start end false w.«data»
  pub values : AllowedOrAbsent frame.start end false w.values

pub record ClassRule (f : List ℕ) (frame : Frame) (end offset n : ℕ) (c : Class) : Type 0 where
  pub stands : class_of (words_at f frame.order offset n) ≡ c
  pub rule : ClassWordsRule frame end (words_at f frame.order offset n)
