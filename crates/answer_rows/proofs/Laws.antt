-- What the proofs of rows and of exported functions cite.
-- Assumes nothing.
use Prim.Native.Nat.{ℕ}
use mathlib.Core.Path.{◌≡◌, ap, ◌∙◌}
use mathlib.Core.List.{List, ◌∷◌}
use borrow.Author.Rules.{rules}
use Rattle.header.specs.declared.Header.{Header}
use Rattle.class_ids.specs.declared.Class.{Class}
use Rattle.answer_rows.specs.Words.{class_words, joined_words, maybe_word, header_words, order_word, ordered_words, row}

-- ---- the larger rows
pub ordered : (h : Header) {o : ℕ} {y : List ℕ} → o ≡ order_word h.order → y ≡ row (0 ∷ ordered_words h o) → y ≡ row (0 ∷ header_words h)
unfolding header_words
ordered h e q = q ∙ ap (λ (o : ℕ). row (0 ∷ ordered_words h o)) e

pub joined : (c : Class) {s f : ℕ} {y : List ℕ} → s ≡ maybe_word c.superclass → f ≡ maybe_word c.source → y ≡ row (0 ∷ joined_words c s f) → y ≡ row (0 ∷ class_words c)
unfolding class_words
joined c e g q = q ∙ λ i. row (0 ∷ joined_words c (e i) (g i))

pub ruleset heads = (ordered, joined, rules)
