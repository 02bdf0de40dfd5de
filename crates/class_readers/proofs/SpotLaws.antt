-- What the proofs of all these readers cite: an item that lies somewhere or is absent, and an item that was read in the file up to the
-- data section's end, s, against the file's counts, r.
-- Assumes nothing.
use Prim.Native.Nat.{ℕ}
use mathlib.Core.Path.{◌≡◌, refl, ◌∙◌}
use mathlib.Core.Option.{Option, none, some}
use mathlib.Core.List.{List}
use borrow.Author.Rules.{rules}
use Rattle.refusal.specs.Outcome.{Outcome, answer}
use Rattle.refusal.specs.Rows.{Found}
use Rattle.refusal.proofs.Laws.{tests, calls}
use Rattle.frame.specs.declared.Frame.{Frame}
use Rattle.header.specs.declared.Header.{Header}
use Rattle.header.specs.Header.{up_to_end, plain_frame}
use Rattle.class_data.specs.declared.Counts.{Counts}
use Rattle.class_members.specs.declared.Member.{Member}
use Rattle.class_data.specs.Data.{extent_at, member_of_list}
use Rattle.code_item.specs.declared.Outline.{Outline}
use Rattle.code_item.specs.Code.{outline_at}
use Rattle.class_readers.specs.Spots.{onward}

-- none stays none, and otherwise there is more to read
pub stays_none : {A B : Type 0} (k : A → Outcome (Option B)) → answer none ≡ onward k none
unfolding onward
stays_none k = refl

pub goes_onward : {A B : Type 0} {a : A} {y : Outcome (Option B)} (k : A → Outcome (Option B)) → y ≡ k a → y ≡ onward k (some a)
unfolding onward
goes_onward k h = h

-- what a call said of such an item
module _ (f : List ℕ) (h : Header) (p : ℕ) {s : List ℕ} {r : Frame} (e : s ≡ up_to_end f h) (g : r ≡ plain_frame h) where
  pub data_framed : {y : Outcome (Found Counts ℕ)} → y ≡ extent_at s r p → y ≡ extent_at (up_to_end f h) (plain_frame h) p
  data_framed q = q ∙ (λ i. extent_at (e i) (g i) p)

  pub member_framed : (list n : ℕ) {y : Outcome Member} → y ≡ member_of_list s r p list n → y ≡ member_of_list (up_to_end f h) (plain_frame h) p list n
  member_framed list n q = q ∙ (λ i. member_of_list (e i) (g i) p list n)

  pub code_framed : {y : Outcome Outline} → y ≡ outline_at s r p → y ≡ outline_at (up_to_end f h) (plain_frame h) p
  code_framed q = q ∙ (λ i. outline_at (e i) (g i) p)

-- a reader that begins where an item lies, and one of what lies there
pub ruleset laws = (stays_none, goes_onward, calls, tests, rules)

pub ruleset under_laws = (data_framed, member_framed, code_framed, calls, tests, rules)
