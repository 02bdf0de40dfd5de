-- What the functions' proofs cite.
-- Assumes nothing.
use Prim.Native.Nat.{ℕ, ◌+◌, ◌*◌}
use mathlib.Core.Path.{◌≡◌, ap, ◌∙◌}
use mathlib.Core.Bool.{true}
use mathlib.Core.List.{List}
use lib.Dec.{ltb}
use borrow.Author.Rules.{rules}
use borrow.Author.Tests.{eq-eqb, ne_eqb}
use Rattle.refusal.specs.Outcome.{Outcome}
use Rattle.refusal.proofs.Laws.{tests, calls}
use Rattle.word.specs.Words.{u32_at}
use Rattle.word.specs.declared.Endian.{Endian}
use Rattle.frame.specs.declared.Frame.{Frame}
use Rattle.std.specs.Prelude.{Option, Some, None}
use Rattle.class_ids.specs.declared.Class.{Class}
use Rattle.class_ids.specs.declared.ClassWords.{ClassWords}
use Rattle.class_ids.specs.Classes.{index_or_none, maybe_of, words_at, class_of, first_of, class_at}

module _ (v : ℕ) where
  pub none_allowed : (count : ℕ) → v ≡ 0xffffffff → true ≡ index_or_none v count
  unfolding index_or_none
  none_allowed count e = rw (eq-eqb v 0xffffffff e)

  pub index_allowed : (count : ℕ) → (v ≡ 0xffffffff → ⊥) → ltb v count ≡ index_or_none v count
  unfolding index_or_none
  index_allowed count e = rw (ne_eqb v 0xffffffff e)

  pub maybe_none : v ≡ 0xffffffff → None ≡ maybe_of v
  unfolding maybe_of
  maybe_none e = rw (eq-eqb v 0xffffffff e)

  pub maybe_some : (v ≡ 0xffffffff → ⊥) → Some v ≡ maybe_of v
  unfolding maybe_of
  maybe_some e = rw (ne_eqb v 0xffffffff e)

pub words_by : (f : List ℕ) (o : Endian) (offset n : ℕ) {a b c d e g h k : ℕ}
    → a ≡ u32_at o f (offset + 32 * n) → b ≡ u32_at o f (offset + 32 * n + 4) → c ≡ u32_at o f (offset + 32 * n + 8) → d ≡ u32_at o f (offset + 32 * n + 12)
    → e ≡ u32_at o f (offset + 32 * n + 16) → g ≡ u32_at o f (offset + 32 * n + 20) → h ≡ u32_at o f (offset + 32 * n + 24) → k ≡ u32_at o f (offset + 32 * n + 28)
    → record { class = a; flags = b; superclass = c; interfaces = d; source = e; directory = g; «data» = h; values = k } ≡ words_at f o offset n
words_by f o offset n p q r s t u v w = λ i. record { class = p i; flags = q i; superclass = r i; interfaces = s i; source = t i; directory = u i; «data» = v i; values = w i }

pub class_by : (w : ClassWords) {a b : Option ℕ} → a ≡ maybe_of w.superclass → b ≡ maybe_of w.source
    → record { class = w.class; flags = w.flags; superclass = a; interfaces = w.interfaces; source = b; directory = w.directory; «data» = w.«data»; values = w.values } ≡ class_of w
class_by w p q = λ i. record { class = w.class; flags = w.flags; superclass = p i; interfaces = w.interfaces; source = q i; directory = w.directory; «data» = w.«data»; values = w.values }

pub at_by : (f : List ℕ) (r : Frame) (end offset n : ℕ) {w : ClassWords} {y : Outcome Class} → w ≡ words_at f r.order offset n → y ≡ first_of r end (offset + 32 * n) w → y ≡ class_at f r end offset n
unfolding class_at
at_by f r end offset n e h = h ∙ ap (first_of r end (offset + 32 * n)) e

pub ruleset own_laws = (none_allowed, index_allowed, maybe_none, maybe_some, words_by, class_by, at_by, calls, tests, rules)
