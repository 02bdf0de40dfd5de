-- What the proofs of the directory cite: its head, the loop over entries, the three lists in turn, and entry k of one of them.
-- Assumes nothing.
use Prim.Native.Nat.{ℕ, ◌+◌, ◌*◌, ◌<◌, ◌≤◌}
use mathlib.Core.Path.{◌≡◌, refl, ap, sym, subst, ◌∙◌}
use mathlib.Core.Bool.{Bool, true, false, cond}
use mathlib.Core.List.{List, []}
use lib.ListN.{length}
use lib.Dec.{leb, eqb}
use borrow.Author.Rules.{rules}
use native.Mathlib.Omega.{arith}
use mir.Syntax.{w64}
use mir.Val.{Fits}
use Rattle.refusal.specs.Refusals.{not_there, runs_past}
use Rattle.refusal.specs.declared.Refusal.{Refusal}
use Rattle.refusal.specs.Outcome.{Outcome, answer, refused, ◌>>=◌, accepted}
use Rattle.refusal.specs.Rows.{Found, past}
use Rattle.refusal.proofs.Laws.{calls, tests, handed_on, bind_answer, bind_refused, refused_by, passes, fails}
use Rattle.refusal.proofs.Each.{at_below}
use Rattle.refusal.proofs.Kept.{accepted_answer, accepted_refused, part_answer, part_refused}
use Rattle.word.specs.Words.{u32_at}
use Rattle.frame.specs.declared.Frame.{Frame}
use Rattle.word.proofs.Laws.{room_there, room_fits}
use Rattle.value_bodies.proofs.Picks.{pick_none}
use Rattle.annotation_lists.specs.Fixed.{entries_from, fixed_at, Fixed}
use Rattle.annotation_lists.specs.Offsets.{word_at}
use Rattle.annotation_directories.specs.Directories.{DirectoryEntry, Directory, head_at, entry_of, entry_at, list_at, entries_pass, list_past, lists_at, lists_pass, directory_at, directory_head, list_of, directory_entry, count_of, before_of, limit_of}
use Rattle.annotation_directories.specs.Rules.{DirectoryEntryRule, DirectoryRule}
use Rattle.annotation_directories.specs.declared.DirectoryHead.{DirectoryHead}
use Rattle.annotation_lists.proofs.Fixed.{Along, along_first, along_next, along_stop, along_done, along_eight, fixed_kth}
use Rattle.annotation_directories.proofs.Exactly.{head_exact, entry_exact, lists_exact, directory_exact}
use Rattle.annotation_lists.proofs.Laws.{word_inside}

-- ---- the head
module _ (s : List ℕ) (f : Frame) (item : ℕ) {v : ℕ} where
  pub after_eight : answer v ≡ word_at s f item (item + 4) → Fits w64 (length s) → Fits w64 (item + 8)
  after_eight e h = let z = word_inside s f item (item + 4) e in omega arith

  pub after_twelve : answer v ≡ word_at s f item (item + 8) → Fits w64 (length s) → Fits w64 (item + 12)
  after_twelve e h = let z = word_inside s f item (item + 8) e in omega arith

pub four_fits : (s : List ℕ) (item : ℕ) → item + 4 ≤ length s → Fits w64 (length s) → Fits w64 (item + 4)
four_fits s item h z = omega arith

pub sixteen_fits : (s : List ℕ) (item : ℕ) → item + 16 ≤ length s → Fits w64 (length s) → Fits w64 (item + 16)
sixteen_fits s item h z = omega arith

pub head_inside : (s : List ℕ) (f : Frame) (item : ℕ) {h : DirectoryHead} → answer h ≡ head_at s f item → item + 16 ≤ length s
head_inside s f item {h} e = ((head_exact s f item).sound h (sym e)).room

-- ---- an entry
pub entry_by : (s : List ℕ) (f : Frame) (item limit p : ℕ) {i o : ℕ} {y : Outcome DirectoryEntry} → i ≡ u32_at f.order s p → o ≡ u32_at f.order s (p + 4)
    → y ≡ entry_of s f item limit i o → y ≡ entry_at s f item limit p
unfolding entry_at
entry_by s f item limit p a b h = rw (← a, ← b) h

pub eight_fits : (s : List ℕ) (p : ℕ) → p + 8 ≤ length s → Fits w64 (length s) → Fits w64 (p + 4)
eight_fits s p h z = omega arith

-- ---- one of the three lists
module _ (s : List ℕ) (f : Frame) (item limit from count : ℕ) {b : Bool} (room : b ≡ leb (from + 8 * count) (length s)) where
  pub list_long : {r : Refusal} → b ≡ false → r ≡ runs_past item → refused r ≡ list_past s f item limit from count
  unfolding list_at fixed_at
  list_long q made = sym (bind_refused past (bind_refused _ (sym (fails _ made (sym room ∙ q)))))

  entered : b ≡ true → fixed_at s item (entry_at s f item limit) 8 from count ≡ entries_from (entry_at s f item limit) 8 from count
  unfolding fixed_at
  entered q = sym (passes (runs_past item) (sym room ∙ q) refl)

  module _ (q : b ≡ true) where
    pub list_stop : {r : Refusal} → refused r ≡ entries_pass s f item limit from count → refused r ≡ list_past s f item limit from count
    unfolding list_at
    list_stop g = sym (bind_refused past (bind_refused _ (entered q ∙ accepted_refused _ g)))

    pub list_done : answer tt ≡ entries_pass s f item limit from count → answer (from + 8 * count) ≡ list_past s f item limit from count
    unfolding list_at
    list_done g = sym (bind_answer past (bind_answer _ (entered q ∙ (accepted_answer _ g).1)))

-- ---- the three lists in turn: what code goes on with is where each ends
then : {A : Type 0} {B : Type 0} (o : Outcome (Found A ℕ)) (k : Found A ℕ → Outcome B) (g : ℕ → Outcome Unit)
    → ((r : Found A ℕ) → (k r >>= accepted) ≡ g r.next) → ((o >>= k) >>= accepted) ≡ ((o >>= past) >>= g)
unfolding ◌>>=◌
then (answer r) k g h = h r
then (refused r) k g h = refl

module _ (s : List ℕ) (f : Frame) (item : ℕ) where
  -- where the three lists end, one after the other
  unfoldable pub lists_past : DirectoryHead → Outcome Unit
  lists_past h = do
    m ← list_past s f item f.fields (item + 16) h.fields
    p ← list_past s f item f.methods m h.methods
    q ← list_past s f item f.methods p h.parameters
    answer tt

  pub lists_by : (h : DirectoryHead) {y : Outcome Unit} → y ≡ lists_past h → y ≡ lists_pass s f item h
  unfolding lists_at lists_past ◌>>=◌
  lists_by h e =
      e ∙ sym (then (list_at s f item f.fields (item + 16) h.fields) _ _ (λ a.
      then (list_at s f item f.methods a.next h.methods) _ _ (λ b.
      then (list_at s f item f.methods b.next h.parameters) _ _ (λ c. refl))))

  -- head, then the lists
  unfoldable pub head_kept : Outcome DirectoryHead
  head_kept = do
    h ← head_at s f item
    u ← lists_pass s f item h
    answer h

  keeps : (h : DirectoryHead) → (lists_at s f item h >>= λ (d : Directory). answer d.head) ≡ (lists_pass s f item h >>= λ (u : Unit). answer h)
  unfolding ◌>>=◌
  keeps h = go (lists_at s f item h) refl
    where
      go : (o : Outcome Directory) → lists_at s f item h ≡ o → (o >>= λ (d : Directory). answer d.head) ≡ ((o >>= accepted) >>= λ (u : Unit). answer h)
      go (answer d) e = ap answer (sym ((lists_exact s f item h).sound d e).head)
      go (refused r) e = refl

  pub directory_by : {y : Outcome DirectoryHead} → y ≡ head_kept → y ≡ directory_head s f item
  unfolding directory_head directory_at head_kept ◌>>=◌
  directory_by e = e ∙ sym (go (head_at s f item))
    where
      go : (o : Outcome DirectoryHead) → ((o >>= lists_at s f item) >>= λ (d : Directory). answer d.head) ≡ (o >>= λ (h : DirectoryHead). lists_pass s f item h >>= λ (u : Unit). answer h)
      go (answer h) = keeps h
      go (refused r) = refl

-- ---- entry k of a list
module _ (s : List ℕ) (f : Frame) (item : ℕ) where
  abbrev One : Directory → ℕ → Type 0
  One d list = Fixed s (DirectoryEntryRule s f item (limit_of f list)) 8 (item + 16 + 8 * before_of d.head list) (count_of d.head list) (list_of d list)

  -- every list of a directory obeys the rule of its number; any other list is empty
  one_list : (d : Directory) → DirectoryRule s f item d → (list : ℕ) → One d list
  unfolding limit_of before_of count_of list_of
  one_list d r list = go (eqb list 0) (eqb list 1) (eqb list 2)
    where
      h : DirectoryHead
      h = d.head

      behind : item + 16 + 8 * d.head.fields + 8 * d.head.methods ≡ item + 16 + 8 * (d.head.fields + d.head.methods)
      behind = omega arith

      go : (a b c : Bool) → Fixed s (DirectoryEntryRule s f item (cond a f.fields f.methods)) 8 (item + 16 + 8 * cond a 0 (cond b d.head.fields (d.head.fields + d.head.methods)))
          (cond a d.head.fields (cond b d.head.methods (cond c d.head.parameters 0))) (cond a d.fields (cond b d.methods (cond c d.parameters [])))
      go true b c = let z : item + 16 ≡ item + 16 + 8 * 0 = omega arith in subst (λ (p : ℕ). Fixed s (DirectoryEntryRule s f item f.fields) 8 p d.head.fields d.fields) z r.fields
      go false true c = r.methods
      go false false true = subst (λ (p : ℕ). Fixed s (DirectoryEntryRule s f item f.methods) 8 p d.head.parameters d.parameters) behind r.parameters
      go false false false = record {
        room = let z = r.methods.room in omega arith;
        entries = record { count = refl; each = λ m. absurd (let z = at_below m in omega arith) };
      }

  pub entry_unread : (list k : ℕ) {r : Refusal} → refused r ≡ directory_head s f item → refused r ≡ directory_entry s f item list k
  unfolding directory_entry directory_head
  entry_unread list k e = sym (bind_refused _ (part_refused (λ (d : Directory). d.head) (directory_at s f item) (sym e)))

  module _ {h : DirectoryHead} (e : answer h ≡ directory_head s f item) where
    whole : (d : Directory) × ((directory_at s f item ≡ answer d) × (d.head ≡ h))
    unfolding directory_head
    whole = part_answer (λ (d : Directory). d.head) (directory_at s f item) (sym e)

    obeys : DirectoryRule s f item whole.0
    obeys = (directory_exact s f item).sound whole.0 whole.1.0

    -- the three lists of a directory whose head was read lie inside
    pub directory_room : item + 16 + 8 * h.fields + 8 * h.methods + 8 * h.parameters ≤ length s
    directory_room = subst (λ (g : DirectoryHead). item + 16 + 8 * g.fields + 8 * g.methods + 8 * g.parameters ≤ length s) whole.1.1 obeys.parameters.room

    module _ (list k : ℕ) where
      rule : Fixed s (DirectoryEntryRule s f item (limit_of f list)) 8 (item + 16 + 8 * before_of h list) (count_of h list) (list_of whole.0 list)
      rule = subst (λ (g : DirectoryHead). Fixed s (DirectoryEntryRule s f item (limit_of f list)) 8 (item + 16 + 8 * before_of g list) (count_of g list) (list_of whole.0 list)) whole.1.1
          (one_list whole.0 obeys list)

      module _ {n : ℕ} (size : n ≡ count_of h list) where
        pub entry_none : {r : Refusal} → n ≤ k → r ≡ not_there → refused r ≡ directory_entry s f item list k
        unfolding directory_entry
        entry_none q made = let z = rule.entries.count in refused_by made ∙ sym (bind_answer _ whole.1.0 ∙ pick_none (list_of whole.0 list) k (omega arith))

        module _ (q : k < n) {b : ℕ} (start : b ≡ before_of h list) where
          pub entry_inside : item + 16 + 8 * (b + k) + 8 ≤ length s
          entry_inside = let z = rule.room in omega arith

          pub entry_fits : Fits w64 (length s) → Fits w64 (item + 16 + 8 * (b + k))
          entry_fits z = let y = entry_inside in omega arith

          pub entry_head : Fits w64 (length s) → Fits w64 (item + 16)
          entry_head z = let y = entry_inside in omega arith

          pub entry_behind : Fits w64 (length s) → Fits w64 (8 * (b + k))
          entry_behind z = let y = entry_inside in omega arith

          pub entry_number : Fits w64 (length s) → Fits w64 (b + k)
          entry_number z = let y = entry_inside in omega arith

          pub entry_kth : {l : ℕ} {z : Outcome DirectoryEntry} → l ≡ limit_of f list → z ≡ entry_at s f item l (item + 16 + 8 * (b + k)) → z ≡ directory_entry s f item list k
          unfolding directory_entry
          entry_kth {l} {z} a g =
              let there : item + 16 + 8 * (b + k) ≡ item + 16 + 8 * before_of h list + 8 * k = omega arith in
              g ∙ (λ i. entry_at s f item (a i) (there i))
              ∙ fixed_kth (entry_at s f item (limit_of f list)) 8 (item + 16 + 8 * before_of h list) (count_of h list) (DirectoryEntryRule s f item (limit_of f list)) (entry_exact s f item (limit_of f list)) k rule (omega arith)
              ∙ sym (bind_answer _ whole.1.0)

pub ruleset head_laws = (word_inside, after_eight, after_twelve, four_fits, calls, tests, rules)

pub ruleset entry_laws = (entry_by, eight_fits, calls, tests, rules)

pub ruleset entries_laws = (along_first, along_next, along_stop, along_done, along_eight, rules)

pub ruleset list_laws = (list_long, list_stop, list_done, room_there, room_fits, handed_on, rules)

pub ruleset lists_laws = (lists_by, sixteen_fits, calls, rules)

pub ruleset directory_laws = (directory_by, head_inside, calls, rules)

pub ruleset number_laws = (tests, rules)

pub ruleset kth_laws = (entry_unread, entry_none, entry_kth, entry_inside, entry_fits, entry_head, entry_behind, entry_number, handed_on, rules)
