-- What the proofs of the functions outside the cycle cite: the ways through a value that is no body.
-- Assumes nothing.
use Prim.Native.Nat.{ℕ, ◌+◌, ◌%◌}
use mathlib.Core.Path.{◌≡◌, refl, ap, sym, ◌∙◌}
use mathlib.Core.Bool.{Bool, true, false}
use mathlib.Core.List.{List}
use lib.ListN.{length}
use lib.Dec.{leb}
use borrow.Author.Rules.{rules}
use Rattle.refusal.specs.Refusals.{runs_past, wrong_index}
use Rattle.refusal.specs.declared.Refusal.{Refusal}
use Rattle.refusal.specs.Outcome.{Outcome, answer, refused, ◌>>=◌, given}
use Rattle.refusal.specs.Rows.{Found, past}
use Rattle.refusal.proofs.Laws.{tests, calls, handed_on, bind_answer, bind_refused}
use Rattle.value_heads.specs.declared.Walk.{Walk}
use Rattle.value_heads.specs.Kinds.{bytes_of, is_index, in_range}
use Rattle.value_heads.specs.Readings.{number_at, checked_at, index_at}
use Rattle.word.proofs.Laws.{room_fits}
use Rattle.value_heads.proofs.Laws.{number_got, number_short, range_other}
use Rattle.encoded_value.specs.Readings.{plain_at}
use Rattle.encoded_value.specs.Stages.{index_past}

-- ---- the bytes behind a head byte
module _ (s : List ℕ) (item at h : ℕ) {n : ℕ} (size : n ≡ bytes_of h) {t : Bool} (room : t ≡ leb (at + n) (length s)) where
  pub bytes_there : t ≡ true → answer (at + n) ≡ (number_at s item at (bytes_of h) >>= past)
  bytes_there m = sym (bind_answer past (sym (number_got s item at h size room m refl)))

  pub bytes_short : {r : Refusal} → t ≡ false → r ≡ runs_past item → refused r ≡ (number_at s item at (bytes_of h) >>= past)
  bytes_short m made = sym (bind_refused past (sym (number_short s item at h size room m made)))

-- ---- a value that is no body, gone over
-- what is made of a thing leaves the place as it is
pub past_made : {A B S : Type 0} (make : Found A S → B) (o : Outcome (Found A S))
    → (o >>= past) ≡ ((o >>= λ (n : Found A S). answer (record { item = make n; next = n.next })) >>= past)
unfolding ◌>>=◌
past_made make (answer n) = refl
past_made make (refused r) = refl

-- a test that always holds
always : (test : ℕ → Bool) (place : ℕ) (o : Outcome (Found ℕ ℕ)) → ((x : ℕ) → test x ≡ true) → o ≡ (o >>= λ (n : Found ℕ ℕ). given (test n.item) (wrong_index place) (answer n))
unfolding ◌>>=◌ given
always test place (answer n) h = rw (h n.item)
always test place (refused r) h = refl

module _ (s : List ℕ) (w : Walk) (h at : ℕ) where
  pub plain_got : {v n : ℕ} → answer (record { item = v; next = n }) ≡ checked_at s w h at → answer n ≡ (plain_at s w h at >>= past)
  unfolding plain_at
  plain_got e = sym (bind_answer past (sym e)) ∙ past_made _ (checked_at s w h at)

  pub plain_refused : {r : Refusal} → refused r ≡ checked_at s w h at → refused r ≡ (plain_at s w h at >>= past)
  unfolding plain_at
  plain_refused e = sym (bind_refused past (sym e)) ∙ past_made _ (checked_at s w h at)

  pub plain_other : {i : Bool} {y : Outcome ℕ} → i ≡ is_index (h % 32) → i ≡ false → y ≡ (number_at s w.item at (bytes_of h) >>= past) → y ≡ (plain_at s w h at >>= past)
  unfolding plain_at checked_at
  plain_other e t k =
      k ∙ ap (λ (o : Outcome (Found ℕ ℕ)). o >>= past) (always (in_range w (h % 32)) w.item (number_at s w.item at (bytes_of h)) (λ x. sym (range_other w (h % 32) x e t)))
      ∙ past_made _ (checked_at s w h at)

-- what the functions outside the cycle are searched with
pub ruleset bytes_laws = (bytes_there, bytes_short, room_fits, rules)

pub ruleset plain_laws = (handed_on, plain_got, plain_refused, plain_other, rules)

-- an index that is there in an annotation alone
module _ (s : List ℕ) (item count p : ℕ) {named : Bool} where
  pub index_none : named ≡ false → answer p ≡ index_past s item named count p
  unfolding index_past
  index_none e = rw e

  pub index_named : {y : Outcome ℕ} → named ≡ true → y ≡ (index_at s item count p >>= past) → y ≡ index_past s item named count p
  unfolding index_past
  index_named e h = rw e h

pub ruleset index_laws = (index_none, index_named, calls, rules)

pub ruleset start_laws = (calls, tests, rules)
