-- What the proofs of the going over tables cite: items by their numbers, types in turn, and a record of which nothing is kept.
-- Assumes nothing.
use Prim.Native.Nat.{ℕ, ◌+◌, ◌*◌, ◌<◌, ◌≤◌}
use mathlib.Core.Path.{◌≡◌, refl, ap, sym, ◌∙◌}
use mathlib.Core.Bool.{Bool, true, false}
use mathlib.Core.Option.{Option}
use mathlib.Core.List.{List}
use lib.Dec.{ltb}
use borrow.Author.Rules.{rules}
use Rattle.refusal.specs.Refusals.{out_of_order}
use Rattle.refusal.specs.declared.Refusal.{Refusal}
use Rattle.refusal.specs.Outcome.{Outcome, answer, refused, ◌>>=◌, accepted}
use Rattle.refusal.specs.Rows.{every, follows}
use Rattle.refusal.proofs.Laws.{calls, refused_by}
use Rattle.refusal.proofs.Kept.{accepted_answer, accepted_refused}
use Rattle.refusal.proofs.Loops.{Numbers, numbers_first, numbers_next, numbers_stop, numbers_done, Turns, turns_first, turns_next, turns_stop, turns_fail, turns_done}
use Rattle.frame.specs.declared.Frame.{Frame}
use Rattle.header.specs.declared.Header.{Header}
use Rattle.header.specs.Header.{plain_frame}
use Rattle.ids.specs.declared.Proto.{Proto}
use Rattle.ids.specs.Records.{type_at, types_at, proto_at}
use Rattle.type_list.specs.Below.{types_below}
use Rattle.whole_check.specs.File.{ProtoBelow, proto_below}
use Rattle.whole_check.specs.Passes.{last_of, rising}

-- ---- items by their numbers, of which only that there is an answer is kept: number k is next
module _ {A : Type 0} {entry : ℕ → Outcome A} {count k : ℕ} (h : Numbers entry count k) where
  pub counting_next : k < count → answer tt ≡ (entry k >>= accepted) → Numbers entry count (k + 1)
  counting_next l e = numbers_next h l (sym (accepted_answer (entry k) e).1)

  pub counting_stop : {r : Refusal} → k < count → refused r ≡ (entry k >>= accepted) → refused r ≡ (every entry count >>= accepted)
  counting_stop l e = numbers_stop h accepted l (sym (accepted_refused (entry k) e))

-- ---- types in turn
pub record Typing (f : List ℕ) (r : Frame) (offset count k : ℕ) (later : Bool) (last : ℕ) : Type 0 where
  turns : Turns (type_at f r offset) ltb (λ (n : ℕ). out_of_order (offset + 4 * n)) count k (record { number = k; last = last_of later last })

pub typing_first : (f : List ℕ) (r : Frame) (offset count : ℕ) → Typing f r offset count 0 false 0
typing_first f r offset count = record { turns = turns_first (type_at f r offset) ltb (λ (n : ℕ). out_of_order (offset + 4 * n)) count }

module _ {f : List ℕ} {r : Frame} {offset count k : ℕ} {later : Bool} {last : ℕ} (h : Typing f r offset count k later last) where
  pub typing_done : count ≤ k → answer tt ≡ (types_at f r offset count >>= accepted)
  unfolding types_at
  typing_done l = turns_done h.turns l

  pub typing_stop : {a : Refusal} → k < count → refused a ≡ type_at f r offset k → refused a ≡ (types_at f r offset count >>= accepted)
  unfolding types_at
  typing_stop l e = turns_stop h.turns accepted l e

  module _ {n : ℕ} {b : Bool} (l : k < count) (e : answer n ≡ type_at f r offset k) (g : b ≡ rising later last n) where
    pub typing_next : b ≡ true → Typing f r offset count (k + 1) true n
    typing_next u = record { turns = turns_next h.turns l e (sym g ∙ u) }

    pub typing_fail : {a : Refusal} {p : ℕ} → b ≡ false → a ≡ out_of_order p → p ≡ offset + 4 * k → refused a ≡ (types_at f r offset count >>= accepted)
    unfolding types_at
    typing_fail u made q = refused_by made ∙ ap (λ (x : ℕ). refused (out_of_order x)) q ∙ turns_fail h.turns accepted l e (sym g ∙ u)

pub rises_later : {later : Bool} (last string : ℕ) → later ≡ true → ltb last string ≡ rising later last string
unfolding follows
rises_later last string e = rw e

pub rises_first : {later : Bool} (last string : ℕ) → later ≡ false → true ≡ rising later last string
unfolding follows
rises_first last string e = rw e

-- ---- a proto with its parameters
module _ (f : List ℕ) (h : Header) (n : ℕ) where
  pub proto_by : {r : Frame} {y : Outcome Unit} → r ≡ plain_frame h
      → y ≡ (proto_at f r h.end h.protos.offset n >>= λ (p : Proto). types_below f h p.parameters >>= accepted) → y ≡ (proto_below f h n >>= accepted)
  unfolding proto_below ◌>>=◌
  proto_by {r} g e = e ∙ (λ i. proto_at f (g i) h.end h.protos.offset n >>= λ (p : Proto). types_below f h p.parameters >>= accepted) ∙ go (proto_at f (plain_frame h) h.end h.protos.offset n)
    where
      made : Proto → Option (List ℕ) → Outcome ProtoBelow
      made p l = answer (record { own = p; parameters = l })

      inner : (p : Proto) (o : Outcome (Option (List ℕ))) → (o >>= accepted) ≡ ((o >>= made p) >>= accepted)
      inner p (answer l) = refl
      inner p (refused r) = refl

      go : (o : Outcome Proto) → (o >>= λ (p : Proto). types_below f h p.parameters >>= accepted)
          ≡ ((o >>= λ (p : Proto). types_below f h p.parameters >>= made p) >>= accepted)
      go (answer p) = inner p (types_below f h p.parameters)
      go (refused r) = refl

pub ruleset counting = (numbers_first, counting_next, counting_stop, numbers_done, rules)

pub ruleset typing = (typing_first, typing_next, typing_stop, typing_fail, typing_done, rules)

pub ruleset laws = (rises_later, rises_first, proto_by, calls, rules)
