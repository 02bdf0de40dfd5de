-- A class's reading finds exactly what the rule allows.
-- Assumes nothing.
use Prim.Native.Nat.{ℕ, ◌+◌, ◌*◌}
use mathlib.Core.Path.{◌≡◌}
use mathlib.Core.Bool.{true, false}
use mathlib.Core.List.{List}
use Rattle.refusal.specs.Refusals.{wrong_index, wrong_offset}
use Rattle.refusal.specs.Exact.{Exact, Decides}
use Rattle.refusal.proofs.Exact.{same, answer_exact, given_exact, exact_iff, below, equal, one_of}
use Rattle.frame.specs.declared.Frame.{Frame}
use Rattle.frame.proofs.Laws.{or_absent_decides}
use Rattle.class_ids.specs.declared.Class.{Class}
use Rattle.class_ids.specs.declared.ClassWords.{ClassWords}
use Rattle.class_ids.specs.Classes.{index_or_none, words_at, class_of, places_of, middle_of, first_of, class_at}
use Rattle.class_ids.specs.Rules.{IndexOrNone, ClassWordsRule, ClassRule}

or_none_decides : (v count : ℕ) → Decides (index_or_none v count) (IndexOrNone v count)
unfolding index_or_none
or_none_decides v count = one_of (equal v 0xffffffff) (below v count)

words_exact : (r : Frame) (end place : ℕ) (w : ClassWords) → Exact (first_of r end place w) (λ (c : Class). ClassWordsRule r end w × (class_of w ≡ c))
unfolding first_of middle_of places_of
words_exact r end place w =
    exact_iff
    (given_exact (wrong_index place) (below w.class r.types) (given_exact (wrong_index place) (or_none_decides w.superclass r.types) (given_exact (wrong_offset place) (or_absent_decides r.start end true w.interfaces)
    (given_exact (wrong_index place) (or_none_decides w.source r.strings) (given_exact (wrong_offset place) (or_absent_decides r.start end true w.directory) (given_exact (wrong_offset place) (or_absent_decides r.start end false w.«data»)
    (given_exact (wrong_offset place) (or_absent_decides r.start end false w.values) (answer_exact _))))))))
    (λ c h. (record { class = h.0; superclass = h.1.0; interfaces = h.1.1.0; source = h.1.1.1.0; directory = h.1.1.1.1.0; class_data_lem = h.1.1.1.1.1.0; values = h.1.1.1.1.1.1.0 }, h.1.1.1.1.1.1.1))
    (λ c h. let w = h.0 in (w.class, (w.superclass, (w.interfaces, (w.source, (w.directory, (w.class_data_lem, (w.values, h.1))))))))

pub class_exact : (f : List ℕ) (r : Frame) (end offset n : ℕ) → Exact (class_at f r end offset n) (ClassRule f r end offset n)
unfolding class_at
class_exact f r end offset n =
    exact_iff (words_exact r end (offset + 32 * n) (words_at f r.order offset n))
    (λ c h. record { stands = h.1; rule = h.0 })
    (λ c h. (h.rule, h.stands))

pub class_same : (f : List ℕ) (r : Frame) (end offset n : ℕ) (a b : Class) → ClassRule f r end offset n a → ClassRule f r end offset n b → a ≡ b
class_same f r end offset n = same (class_exact f r end offset n)
