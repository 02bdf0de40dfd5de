-- What the functions' proofs cite: the loops of `names_at` and `zero_at`, the stages of the whole, and where it lies.
-- Assumes nothing.
use Prim.Native.Nat.{ℕ, zero, suc, ◌+◌, ◌-◌, ◌<◌, ◌≤◌}
use mathlib.Core.Path.{◌≡◌, refl, ap, sym, ◌∙◌}
use mathlib.Core.Bool.{Bool, true, false, cond}
use mathlib.Core.Option.{Option, none, some}
use mathlib.Core.List.{List}
use lib.ListN.{length, get_or}
use lib.Dec.{ltb, eqb}
use borrow.Author.Rules.{rules}
use borrow.Author.Tests.{lt-ltb, le-ltb}
use native.Mathlib.Omega.{arith}
use Rattle.std.specs.Prelude.{Some, None}
use Rattle.std.specs.Prelude as S
use Rattle.refusal.specs.Refusals.{not_there, runs_past, wrong_index}
use Rattle.refusal.specs.declared.Refusal.{Refusal}
use Rattle.refusal.specs.Outcome.{Outcome, answer, refused, ◌>>=◌, given}
use Rattle.refusal.specs.Rows.{Found, past, collect}
use Rattle.refusal.specs.Exact.{Row, empty, first}
use Rattle.refusal.proofs.Laws.{tests, calls, bind_answer, bind_refused, refused_by, passes, fails, picks, leaves}
use Rattle.refusal.proofs.Rows.{bind_assoc, past_answer}
use Rattle.refusal.proofs.Loops.{Ending, ending_first, ending_next, ending_stop, ending_full, ending_done}
use Rattle.refusal.proofs.Choose.{Choosing, choosing_first, choosing_next, choosing_stop, choosing_done, chosen_by}
use Rattle.leb128.specs.Leb.{uleb_at, less_one, plus_one_at}
use Rattle.leb128.proofs.Laws.{uleb_span, plus_one_span}
use Rattle.leb128.proofs.Exactly.{uleb_exact, plus_one_exact}
use Rattle.debug_info.specs.Debug.{named, name_at, opcode_at, program_at, Debug, debug_at, Extent, extent_at, name_of, kept_names, zero_at, Held, body_at, kept_debug_at}
use Rattle.debug_info.specs.Rules.{NameRule}
use Rattle.debug_info.specs.Answers.{name_meant}
use Rattle.debug_info.proofs.Exactly.{program_exact, debug_exact}

-- ---- a name that is a string, or none
pub named_none : (strings : ℕ) → named strings none ≡ true
unfolding named
named_none strings = refl

pub named_below : (strings v : ℕ) → v < strings → named strings (some v) ≡ true
unfolding named
named_below strings v h = lt-ltb v strings h

pub named_past : (strings v : ℕ) → strings ≤ v → named strings (some v) ≡ false
unfolding named
named_past strings v h = le-ltb v strings h

-- ---- a name as it is read, by the number v that stands there: none where that is 0, or else one less
abbrev read : Option ℕ → ℕ → Outcome (Found (Option ℕ) ℕ)
read o q = answer (record { item = o; next = q })

module _ (s : List ℕ) (strings item p : ℕ) where
  judged : ℕ → ℕ → Outcome (Found (Option ℕ) ℕ)
  judged v q = given (named strings (less_one v)) (wrong_index item) (read (less_one v) q)

  judged_none : (k q : ℕ) → k ≡ 0 → read none q ≡ judged k q
  unfolding judged less_one
  judged_none zero q z = passes (wrong_index item) (named_none strings) refl
  judged_none (suc k) q z = absurd (omega arith)

  judged_below : (k q : ℕ) → 0 < k → k ≤ strings → read (some (k - 1)) q ≡ judged k q
  unfolding judged less_one
  judged_below zero q h l = absurd (omega arith)
  judged_below (suc k) q h l = let back : suc k - 1 ≡ k = omega arith in passes (wrong_index item) (named_below strings k (omega arith)) (rw back)

  judged_past : (k q : ℕ) {r : Refusal} → r ≡ wrong_index item → strings < k → refused r ≡ judged k q
  unfolding judged less_one
  judged_past zero q made h = absurd (omega arith)
  judged_past (suc k) q made h = fails (read (some k) q) made (named_past strings k (omega arith))

  module _ {v q : ℕ} (e : answer (record { item = v; next = q }) ≡ uleb_at s item p) where
    name_read : name_at s strings item p ≡ judged v q
    unfolding name_at plus_one_at judged
    name_read = bind_answer _ (bind_answer _ (sym e))

    pub name_none : v ≡ 0 → read none q ≡ name_at s strings item p
    name_none z = judged_none v q z ∙ sym name_read

    pub name_below : 0 < v → v ≤ strings → read (some (v - 1)) q ≡ name_at s strings item p
    name_below h l = judged_below v q h l ∙ sym name_read

    pub name_past : {r : Refusal} → r ≡ wrong_index item → strings < v → refused r ≡ name_at s strings item p
    name_past made h = judged_past v q made h ∙ sym name_read

  pub name_unread : {r : Refusal} → refused r ≡ uleb_at s item p → refused r ≡ name_at s strings item p
  unfolding name_at plus_one_at
  name_unread e = sym (bind_refused _ (bind_refused _ (sym e)))

-- ---- the loop of `names_at` at its head
pub record Names (s : List ℕ) (strings item from count k p i : ℕ) (kept : S.Option ℕ) : Type 0 where
  pub choosing : Choosing (name_at s strings item) count from none k p i (name_meant kept)

pub names_first : (s : List ℕ) (strings item from count k : ℕ) → Names s strings item from count k from 0 None
names_first s strings item from count k = record { choosing = choosing_first (name_at s strings item) count from none k }

module _ {s : List ℕ} {strings item from count k p i : ℕ} {kept : S.Option ℕ} (h : Names s strings item from count k p i kept) where
  pub names_next : (a : S.Option ℕ) {new : S.Option ℕ} {n : ℕ} → i < count → answer (record { item = name_meant a; next = n }) ≡ name_at s strings item p → new ≡ cond (eqb i k) a kept
      → Names s strings item from count k n (i + 1) new
  names_next a l e w = record { choosing = choosing_next h.choosing l e (ap name_meant w ∙ go (eqb i k)) }
    where
      go : (b : Bool) → name_meant (cond b a kept) ≡ cond b (name_meant a) (name_meant kept)
      go true = refl
      go false = refl

  pub names_stop : {r : Refusal} → i < count → refused r ≡ name_at s strings item p → refused r ≡ kept_names s strings item from count k
  unfolding kept_names
  names_stop l e = choosing_stop h.choosing l e

  pub names_done : count ≤ i → answer (record { item = name_meant kept; next = p }) ≡ kept_names s strings item from count k
  unfolding kept_names
  names_done l = choosing_done h.choosing l

-- ---- the loop of `zero_at` at its head: there are steps enough to reach the end
pub record Head (s : List ℕ) (item start p : ℕ) : Type 0 where
  left : ℕ
  enough : length s ≤ p + left
  ending : Ending (opcode_at s item) (runs_past item) (program_at s item start) (λ (l : List ℕ). Unit) left p

pub head_first : (s : List ℕ) (item start : ℕ) → Head s item start start
unfolding program_at
head_first s item start = record { left = length s - start; enough = omega arith; ending = ending_first (opcode_at s item) (runs_past item) (λ (l : List ℕ). Unit) (length s - start) start tt }

module _ {s : List ℕ} {item start p : ℕ} (h : Head s item start p) where
  pub head_next : p < length s → (get_or s p 0 ≡ 0 → ⊥) → Head s item start (p + 1)
  unfolding opcode_at
  head_next i q =
      let g = h.enough in
      record {
        left = h.left - 1;
        enough = omega arith;
        ending = ending_next h.ending (λ (l : List ℕ). Unit) (omega arith) (passes (runs_past item) (lt-ltb p (length s) i) (picks _ (lt-ltb 0 (get_or s p 0) (omega arith)) refl)) (λ l k. tt);
      }

  pub head_done : p < length s → get_or s p 0 ≡ 0 → answer p ≡ zero_at s item start
  unfolding zero_at opcode_at
  head_done i q =
      let g = h.enough in
      let d = ending_done h.ending (omega arith) (passes (runs_past item) (lt-ltb p (length s) i) (leaves _ (le-ltb 0 (get_or s p 0) (omega arith)) refl)) in
      sym (bind_answer past (sym d.1.1))

  pub head_end : {r : Refusal} → length s ≤ p → r ≡ runs_past item → refused r ≡ zero_at s item start
  unfolding zero_at opcode_at
  head_end i made = refused_by made ∙ go h.left h.ending
    where
      go : (n : ℕ) → Ending (opcode_at s item) (runs_past item) (program_at s item start) (λ (l : List ℕ). Unit) n p → refused (runs_past item) ≡ zero_at s item start
      go zero e = sym (bind_refused past (sym (ending_full e (omega arith))))
      go (suc n) e = sym (bind_refused past (sym (ending_stop e (omega arith) (fails _ refl (le-ltb p (length s) i)))))

-- a program's zero byte is not before its start
pub zero_after : (s : List ℕ) (item p : ℕ) {z : ℕ} → answer z ≡ zero_at s item p → p ≤ z
unfolding zero_at
zero_after s item p e =
    let r = past_answer (program_at s item p) e in
    let rule = (program_exact s item p).sound r.0 (sym r.1.0) in
    let here = rule.stands.ends in
    let there = r.1.1 in
    omega arith

-- ---- the stages: of the whole one name and the places are kept
abbrev holding : ℕ → Debug → Outcome Held
holding k d = answer (record { line = d.line; names = length d.names; name = get_or d.names k none; start = d.start; length = length d.program })

module _ (s : List ℕ) (strings item : ℕ) where
  program_size : (p : ℕ) {B : Type 0} (f : Found (List ℕ) ℕ → Outcome B) (g : ℕ → Outcome B)
      → ((r : Found (List ℕ) ℕ) → p + length r.item ≡ r.next → f r ≡ g r.next) → (program_at s item p >>= f) ≡ (zero_at s item p >>= g)
  unfolding zero_at ◌>>=◌
  program_size p {B} f g h = go (program_at s item p) refl
    where
      go : (o : Outcome (Found (List ℕ) ℕ)) → program_at s item p ≡ o → (o >>= f) ≡ ((o >>= past) >>= g)
      go (answer r) e = h r ((program_exact s item p).sound r e).stands.ends
      go (refused r) e = refl

  -- the names and the program, from what was read before
  bodied : (k line count from : ℕ) → ((collect count (name_at s strings item) from >>= λ (ns : Found (List (Option ℕ)) ℕ). program_at s item ns.next >>= λ (z : Found (List ℕ) ℕ).
      answer (record { line = line; names = ns.item; start = ns.next; program = z.item })) >>= holding k) ≡ body_at s strings item line from count k
  unfolding body_at kept_names ◌>>=◌
  bodied k line count from =
      bind_assoc (collect count (name_at s strings item) from) _ (holding k)
      ∙ chosen_by count (name_at s strings item) none k from _ _
      (λ ns size. bind_assoc (program_at s item ns.next) _ (holding k)
      ∙ program_size ns.next _ _ (λ z ends. goes_on ns size z ends))
    where
      goes_on : (ns : Found (List (Option ℕ)) ℕ) → length ns.item ≡ count → (z : Found (List ℕ) ℕ) → ns.next + length z.item ≡ z.next
          → (answer (record { line = line; names = ns.item; start = ns.next; program = z.item }) >>= holding k)
          ≡ answer (record { line = line; names = count; name = get_or ns.item k none; start = ns.next; length = z.next - ns.next })
      goes_on ns size z e =
          let long : length z.item ≡ z.next - ns.next = omega arith in
          λ i. answer (record { line = line; names = size i; name = get_or ns.item k none; start = ns.next; length = long i })

  pub kept_whole : (k : ℕ) → kept_debug_at s strings item k ≡ (debug_at s strings item >>= holding k)
  unfolding kept_debug_at debug_at
  kept_whole k =
      sym (bind_assoc (uleb_at s item item) _ (holding k)
      ∙ (λ i. uleb_at s item item >>= λ (l : Found ℕ ℕ). (bind_assoc (uleb_at s item l.next) _ (holding k) ∙ (λ j. uleb_at s item l.next >>= λ (n : Found ℕ ℕ). bodied k l.item n.item n.next j)) i))

  -- the two readings from what is kept
  pub extent_by : {y : Outcome Extent} → y ≡ (kept_debug_at s strings item 0 >>= λ (h : Held). answer (record { line = h.line; names = h.names; start = h.start; length = h.length })) → y ≡ extent_at s strings item
  unfolding extent_at ◌>>=◌
  extent_by e = e ∙ ap (λ (o : Outcome Held). o >>= λ (h : Held). answer (record { line = h.line; names = h.names; start = h.start; length = h.length })) (kept_whole 0) ∙ bind_assoc (debug_at s strings item) (holding 0) _

  pub name_by : (k : ℕ) {y : Outcome (Option ℕ)} → y ≡ (kept_debug_at s strings item k >>= λ (h : Held). given (ltb k h.names) not_there (answer h.name)) → y ≡ name_of s strings item k
  unfolding name_of ◌>>=◌
  name_by k e = e ∙ ap (λ (o : Outcome Held). o >>= λ (h : Held). given (ltb k h.names) not_there (answer h.name)) (kept_whole k) ∙ bind_assoc (debug_at s strings item) (holding k) _

-- ---- where debug information that was read lies: its program after its place, and with the zero byte inside the slice
pub record Lies (s : List ℕ) (item start size : ℕ) : Type 0 where
  pub after_item : item < start
  pub inside : start + size < length s

pub debug_lies : (s : List ℕ) (strings item : ℕ) (d : Debug) → debug_at s strings item ≡ answer d → Lies s item d.start (length d.program)
debug_lies s strings item d e =
    let h = (debug_exact s strings item).sound d e in
    let line = (uleb_span s item item ((uleb_exact s item item).complete _ h.line)).after_place in
    let size = (uleb_span s item h.after_line ((uleb_exact s item h.after_line).complete _ h.size)).after_place in
    let names = names_on h.names in
    let last = h.program.stands.ends in
    let room = h.program.room in
    record { after_item = omega arith; inside = omega arith }
  where
    names_on : {n p q : ℕ} {l : List (Option ℕ)} → Row (NameRule s strings) n p l q → p ≤ q
    names_on empty = omega arith
    names_on (first {from = p} {t = t} a r) =
        let here = (plus_one_span s item p ((plus_one_exact s item p).complete _ a.number)).after_place in
        let rest = names_on r in
        omega arith

-- ---- what this crate's functions are searched with
pub ruleset found_laws = (name_none, name_below, name_past, name_unread, rules)

pub ruleset names_laws = (names_first, names_next, names_stop, names_done, rules)

pub ruleset zero_laws = (head_first, head_next, head_done, head_end, rules)

pub ruleset stage_laws = (zero_after, extent_by, name_by, calls, tests, rules)
