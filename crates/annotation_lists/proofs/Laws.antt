-- What the proofs of the lists of offsets cite: words, the loop over offsets, and the stages of a list.
-- Assumes nothing.
use Prim.Native.Nat.{ℕ, ◌+◌, ◌*◌, ◌<◌, ◌≤◌}
use mathlib.Core.Path.{◌≡◌, refl, ap, sym, ◌∙◌}
use mathlib.Core.Bool.{Bool, true, false}
use mathlib.Core.List.{List}
use lib.ListN.{length}
use lib.Dec.{leb}
use borrow.Author.Rules.{rules}
use native.Mathlib.Omega.{arith}
use mir.Syntax.{w64}
use mir.Val.{Fits}
use Rattle.refusal.specs.Refusals.{not_there, runs_past}
use Rattle.refusal.specs.declared.Refusal.{Refusal}
use Rattle.refusal.specs.Outcome.{Outcome, answer, refused, ◌>>=◌, given}
use Rattle.refusal.proofs.Laws.{calls, tests, handed_on, bind_answer, bind_refused, refused_by}
use Rattle.refusal.proofs.Kept.{accepted_answer, accepted_refused, part_answer, part_refused}
use Rattle.word.specs.Words.{u32_at}
use Rattle.frame.specs.Counted.{counted}
use Rattle.frame.proofs.Laws.{counted_is, behind_fits, behind_count}
use Rattle.frame.specs.declared.Frame.{Frame}
use Rattle.value_bodies.proofs.Picks.{pick_none}
use Rattle.annotation_lists.specs.Fixed.{entries_from, fixed_at}
use Rattle.annotation_lists.specs.Offsets.{word_at, offset_of, offset_at, offsets_at, offset_count, offset_number, offsets_pass}
use Rattle.annotation_lists.specs.Rules.{OffsetRule, OffsetsRule}
use Rattle.annotation_lists.proofs.Fixed.{along_first, along_next, along_stop, along_done, along_four, entries_exact, fixed_kth}
use Rattle.annotation_lists.proofs.Exactly.{word_exact, offset_exact, offsets_exact}

-- a word that was read lies inside
pub word_inside : (s : List ℕ) (f : Frame) (item p : ℕ) {v : ℕ} → answer v ≡ word_at s f item p → p + 4 ≤ length s
word_inside s f item p {v} e = ((word_exact s f item p).sound v (sym e)).0

pub offset_by : (s : List ℕ) (f : Frame) (item : ℕ) (absent four : Bool) (p : ℕ) {v : ℕ} {y : Outcome ℕ}
    → v ≡ u32_at f.order s p → y ≡ offset_of s f item absent four v → y ≡ offset_at s f item absent four p
unfolding offset_at
offset_by s f item absent four p e h = rw (← e) h

-- ---- the stages of a list
module _ (s : List ℕ) (f : Frame) (item : ℕ) (absent four : Bool) where
  after_count : offsets_at s f item absent four ≡ (counted s f.order item 4 >>= entries_from (offset_at s f item absent four) 4 (item + 4))
  unfolding offsets_at word_at fixed_at given ◌>>=◌
  after_count = go (leb (item + 4) (length s)) ∙ behind_count s f.order item 4 (entries_from (offset_at s f item absent four) 4 (item + 4))
    where
      rest : ℕ → Outcome (List ℕ)
      rest = fixed_at s item (offset_at s f item absent four) 4 (item + 4)

      go : (b : Bool) → (given b (runs_past item) (answer (u32_at f.order s item)) >>= rest) ≡ given b (runs_past item) (rest (u32_at f.order s item))
      go true = refl
      go false = refl

  pub count_unread : {r : Refusal} → refused r ≡ counted s f.order item 4 → refused r ≡ offset_count s f item absent four
  unfolding offset_count
  count_unread e = sym (bind_refused _ (after_count ∙ bind_refused _ (sym e)))

  module _ {n : ℕ} (e : answer n ≡ counted s f.order item 4) where
    pub count_inside : item + 4 + 4 * n ≤ length s
    count_inside = (counted_is s f.order item 4 e).room

    entered : offsets_at s f item absent four ≡ entries_from (offset_at s f item absent four) 4 (item + 4) n
    entered = after_count ∙ bind_answer _ (sym e)

    pub count_stop : {r : Refusal} → refused r ≡ offsets_pass s f item absent four (item + 4) n → refused r ≡ offset_count s f item absent four
    unfolding offset_count
    count_stop g = sym (bind_refused _ (entered ∙ accepted_refused _ g))

    pub count_done : answer tt ≡ offsets_pass s f item absent four (item + 4) n → answer n ≡ offset_count s f item absent four
    unfolding offset_count
    count_done g =
        let all = accepted_answer _ g in
        let each = (entries_exact (offset_at s f item absent four) 4 (item + 4) n (OffsetRule s f item absent four) (offset_exact s f item absent four)).sound all.0 all.1 in
        sym (bind_answer _ (entered ∙ all.1) ∙ ap answer each.count)

  pub number_unread : (k : ℕ) {r : Refusal} → refused r ≡ offset_count s f item absent four → refused r ≡ offset_number s f item absent four k
  unfolding offset_number offset_count
  number_unread k e = sym (bind_refused _ (part_refused length (offsets_at s f item absent four) (sym e)))

  module _ {n : ℕ} (e : answer n ≡ offset_count s f item absent four) where
    whole : (l : List ℕ) × ((offsets_at s f item absent four ≡ answer l) × (length l ≡ n))
    unfolding offset_count
    whole = part_answer length (offsets_at s f item absent four) (sym e)

    rule : OffsetsRule s f item absent four whole.0
    rule = (offsets_exact s f item absent four).sound whole.0 whole.1.0

    -- a list whose size was read lies inside
    pub count_room : item + 4 + 4 * n ≤ length s
    count_room = let a = whole.1.1 in let b = rule.offsets.entries.count in let c = rule.offsets.room in omega arith

    module _ (k : ℕ) where
      pub number_none : {r : Refusal} → n ≤ k → r ≡ not_there → refused r ≡ offset_number s f item absent four k
      unfolding offset_number
      number_none h made = let z = whole.1.1 in refused_by made ∙ sym (bind_answer _ whole.1.0 ∙ pick_none whole.0 k (omega arith))

      module _ (h : k < n) where
        below_count : k < u32_at f.order s item
        below_count = let a = whole.1.1 in let b = rule.offsets.entries.count in omega arith

        pub number_inside : item + 4 + 4 * k ≤ length s
        number_inside = let a = below_count in let b = rule.offsets.room in omega arith

        pub number_fits : Fits w64 (length s) → Fits w64 (item + 4 + 4 * k)
        number_fits z = let a = number_inside in omega arith

        pub number_head : Fits w64 (length s) → Fits w64 (item + 4)
        number_head z = let a = rule.room in omega arith

        pub number_kth : {z : Outcome ℕ} → z ≡ offset_at s f item absent four (item + 4 + 4 * k) → z ≡ offset_number s f item absent four k
        unfolding offset_number
        number_kth g =
            g ∙ fixed_kth (offset_at s f item absent four) 4 (item + 4) (u32_at f.order s item) (OffsetRule s f item absent four) (offset_exact s f item absent four) k rule.offsets below_count
            ∙ sym (bind_answer _ whole.1.0)

pub ruleset word_laws = (offset_by, tests, calls, rules)

pub ruleset offset_laws = (along_first, along_next, along_stop, along_done, along_four, handed_on, rules)

pub ruleset count_laws = (count_unread, count_inside, count_stop, count_done, behind_fits, handed_on, rules)

pub ruleset number_laws = (number_unread, number_none, number_kth, number_fits, number_head, handed_on, rules)
