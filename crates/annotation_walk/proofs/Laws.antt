-- What the proofs of the going over cite: the loops over offsets and entries, and the stages of sets, reference lists and directories.
-- Assumes nothing.
use Prim.Native.Nat.{ℕ, zero, suc, ◌+◌, ◌*◌, ◌<◌, ◌≤◌}
use mathlib.Core.Path.{◌≡◌, refl, ap, sym, ◌∙◌}
use mathlib.Core.Bool.{Bool, true, false}
use mathlib.Core.Option.{Option}
use mathlib.Core.List.{List}
use lib.ListN.{length}
use borrow.Author.Rules.{rules}
use native.Mathlib.Omega.{arith}
use mir.Syntax.{w64}
use mir.Val.{Fits}
use Rattle.refusal.specs.declared.Refusal.{Refusal}
use Rattle.refusal.specs.Outcome.{Outcome, answer, refused, ◌>>=◌, present, accepted}
use Rattle.refusal.specs.Rows.{Found, in_front, collect, numbered, every}
use Rattle.refusal.proofs.Laws.{calls, tests, absent_there, present_there}
use Rattle.refusal.proofs.Exact.{never}
use Rattle.refusal.proofs.Kept.{accepted_answer, accepted_refused, part_answer, part_refused, kept_part, kept_on, made_kept, unit_kept, absent_kept, present_kept}
use Rattle.word.specs.Words.{u32_at}
use Rattle.frame.specs.declared.Frame.{Frame}
use Rattle.annotation_directories.specs.declared.DirectoryHead.{DirectoryHead}
use Rattle.annotation_lists.specs.Fixed.{entries_from}
use Rattle.annotation_lists.specs.Offsets.{offsets_at, offset_count}
use Rattle.annotation_directories.specs.Directories.{Directory, directory_at, directory_head}
use Rattle.annotation_items.specs.Items.{AnnotationItem, item_at, item_visibility}
use Rattle.annotation_lists.proofs.Fixed.{Along, along_first, along_next, along_stop, along_done, along_four, along_eight}
use Rattle.annotation_lists.proofs.Laws.{count_room}
use Rattle.annotation_directories.proofs.Laws.{directory_room}
use Rattle.annotation_walk.specs.Below.{item_from, set_below, set_from, references_below, entry_from, head_below, directory_below, items_pass, own_accepted, sets_pass, one_below, one_from, below_pass, lists_below}

-- ---- the loops
-- what the word at a place leads to, by the word that was read
module _ (s : List ℕ) (f : Frame) {v : ℕ} (p : ℕ) where
  at_item : v ≡ u32_at f.order s p → item_at s f v ≡ item_from s f p
  unfolding item_from
  at_item read = ap (item_at s f) read

  at_set : v ≡ u32_at f.order s p → present v (set_below s f v) ≡ set_from s f p
  unfolding set_from
  at_set read = ap (λ (q : ℕ). present q (set_below s f q)) read

  at_one : (parameter : Bool) → v ≡ u32_at f.order s (p + 4) → one_below s f parameter v ≡ one_from s f parameter p
  unfolding one_from
  at_one parameter read = ap (one_below s f parameter) read

module _ (s : List ℕ) (f : Frame) {from count k at : ℕ} where
  -- over annotation items
  module _ (h : Along (item_from s f) s 4 from count k at) {v : ℕ} (l : k < count) (read : v ≡ u32_at f.order s at) where
    pub item_next : {n : ℕ} → answer n ≡ item_visibility s f v → Along (item_from s f) s 4 from count (k + 1) (at + 4)
    unfolding item_visibility
    item_next e = along_next h l (sym (part_answer (λ (a : AnnotationItem). a.visibility) (item_at s f v) (sym e)).1.0 ∙ at_item s f at read)

    pub item_stop : {B : Type 0} {r : Refusal} (g : List AnnotationItem → Outcome B) → refused r ≡ item_visibility s f v → refused r ≡ (entries_from (item_from s f) 4 from count >>= g)
    unfolding item_visibility
    item_stop g e = along_stop h g l (sym (part_refused (λ (a : AnnotationItem). a.visibility) (item_at s f v) (sym e)) ∙ at_item s f at read)

  -- over sets, absent ones too
  module _ (h : Along (set_from s f) s 4 from count k at) {v : ℕ} (l : k < count) (read : v ≡ u32_at f.order s at) where
    pub set_next : answer tt ≡ own_accepted s f v → Along (set_from s f) s 4 from count (k + 1) (at + 4)
    set_next e = along_next h l (sym (accepted_answer (present v (set_below s f v)) e).1 ∙ at_set s f at read)

    pub set_stop : {B : Type 0} {r : Refusal} (g : List (Option (List AnnotationItem)) → Outcome B) → refused r ≡ own_accepted s f v → refused r ≡ (entries_from (set_from s f) 4 from count >>= g)
    set_stop g e = along_stop h g l (sym (accepted_refused (present v (set_below s f v)) e) ∙ at_set s f at read)

  -- over what entries lead to
  module _ (parameter : Bool) (h : Along (one_from s f parameter) s 8 from count k at) {v : ℕ} (l : k < count) (read : v ≡ u32_at f.order s (at + 4)) where
    pub one_next : answer tt ≡ one_below s f parameter v → Along (one_from s f parameter) s 8 from count (k + 1) (at + 8)
    one_next e = along_next h l (e ∙ at_one s f at parameter read)

    pub one_stop : {B : Type 0} {r : Refusal} (g : List Unit → Outcome B) → refused r ≡ one_below s f parameter v → refused r ≡ (entries_from (one_from s f parameter) 8 from count >>= g)
    one_stop g e = along_stop h g l (e ∙ at_one s f at parameter read)

pub one_fits : {s : List ℕ} {A : Type 0} {entry : ℕ → Outcome A} {from count k at : ℕ} → Along entry s 8 from count k at → k < count → Fits w64 (length s) → Fits w64 (at + 4)
one_fits h l z = let y = along_eight h l in omega arith

-- ---- only that there is an answer is kept
-- of entries that are accepted alike
module _ {A B : Type 0} (x : ℕ → Outcome A) (y : ℕ → Outcome B) (alike : (p : ℕ) → (x p >>= accepted) ≡ (y p >>= accepted)) where
  collect_alike : (n k : ℕ) (at : ℕ → ℕ) → (collect n (numbered (λ (i : ℕ). x (at i))) k >>= accepted) ≡ (collect n (numbered (λ (i : ℕ). y (at i))) k >>= accepted)
  unfolding collect numbered ◌>>=◌
  collect_alike zero k at = refl
  collect_alike (suc n) k at = go (x (at k)) (y (at k)) (alike (at k)) (collect_alike n (k + 1) at)
    where
      left_step : ℕ → Outcome (Found A ℕ)
      left_step = numbered (λ (i : ℕ). x (at i))

      right_step : ℕ → Outcome (Found B ℕ)
      right_step = numbered (λ (i : ℕ). y (at i))

      go : (o : Outcome A) (p : Outcome B) → (o >>= accepted) ≡ (p >>= accepted) → (collect n left_step (k + 1) >>= accepted) ≡ (collect n right_step (k + 1) >>= accepted)
          → (((o >>= λ (a : A). answer (record { item = a; next = k + 1 })) >>= λ (r : Found A ℕ). collect n left_step r.next >>= in_front r.item) >>= accepted)
          ≡ (((p >>= λ (b : B). answer (record { item = b; next = k + 1 })) >>= λ (r : Found B ℕ). collect n right_step r.next >>= in_front r.item) >>= accepted)
      go (answer a) (answer b) h ih = made_kept _ (collect n left_step (k + 1)) ∙ ih ∙ sym (made_kept _ (collect n right_step (k + 1)))
      go (answer a) (refused q) h ih = absurd (never (sym h))
      go (refused r) (answer b) h ih = absurd (never h)
      go (refused r) (refused q) h ih = h

  entries_alike : (width from count : ℕ) → (entries_from x width from count >>= accepted) ≡ (entries_from y width from count >>= accepted)
  unfolding entries_from every
  entries_alike width from count = made_kept (λ (r : Found (List A) ℕ). r.item) _ ∙ collect_alike count 0 (λ (k : ℕ). from + width * k) ∙ sym (made_kept (λ (r : Found (List B) ℕ). r.item) _)

-- ---- the stages
module _ (s : List ℕ) (f : Frame) where
  pub set_by : (item : ℕ) {y : Outcome Unit} → y ≡ (offset_count s f item false false >>= λ (n : ℕ). items_pass s f (item + 4) n) → y ≡ (set_below s f item >>= accepted)
  unfolding set_below offset_count
  set_by item e = e ∙ sym (kept_part (offsets_at s f item false false) length _ (λ (n : ℕ). items_pass s f (item + 4) n) (λ l t. refl))

  pub references_by : (item : ℕ) {y : Outcome Unit} → y ≡ (offset_count s f item true true >>= λ (n : ℕ). sets_pass s f (item + 4) n) → y ≡ (references_below s f item >>= accepted)
  unfolding references_below offset_count
  references_by item e = e ∙ sym (kept_part (offsets_at s f item true true) length _ (λ (n : ℕ). sets_pass s f (item + 4) n) (λ l t. refl))

  -- what an entry leads to
  entry_alike : {B : Type 0} (below : ℕ → Outcome B) (parameter : Bool) → ((p : ℕ) → (below p >>= accepted) ≡ one_below s f parameter p)
      → (p : ℕ) → (entry_from s f below p >>= accepted) ≡ (one_from s f parameter p >>= accepted)
  unfolding entry_from one_from
  entry_alike below parameter h p = made_kept _ (below (u32_at f.order s (p + 4))) ∙ h (u32_at f.order s (p + 4)) ∙ unit_kept (one_below s f parameter (u32_at f.order s (p + 4)))

  -- the three lists: the class's set, then what the entries lead to
  unfoldable pub lists_gone_over : ℕ → DirectoryHead → Outcome Unit
  lists_gone_over item h = do
    u ← own_accepted s f h.set
    u ← below_pass s f false (item + 16) h.fields
    u ← below_pass s f false (item + 16 + 8 * h.fields) h.methods
    below_pass s f true (item + 16 + 8 * h.fields + 8 * h.methods) h.parameters

  below_sets : (from count : ℕ) → (entries_from (entry_from s f (set_below s f)) 8 from count >>= accepted) ≡ below_pass s f false from count
  unfolding one_below
  below_sets from count = entries_alike _ _ (entry_alike (set_below s f) false (λ p. refl)) 8 from count

  below_references : (from count : ℕ) → (entries_from (entry_from s f (references_below s f)) 8 from count >>= accepted) ≡ below_pass s f true from count
  unfolding one_below
  below_references from count = entries_alike _ _ (entry_alike (references_below s f) true (λ p. refl)) 8 from count

  pub lists_by : (item : ℕ) (h : DirectoryHead) {y : Outcome Unit} → y ≡ lists_gone_over item h → y ≡ lists_below s f item h
  unfolding head_below lists_gone_over
  lists_by item h e =
      e ∙ sym (kept_on (present h.set (set_below s f h.set)) _ _ _ refl (λ o t.
      kept_on (entries_from (entry_from s f (set_below s f)) 8 (item + 16) h.fields) _ _ _ (below_sets (item + 16) h.fields) (λ x t.
      kept_on (entries_from (entry_from s f (set_below s f)) 8 (item + 16 + 8 * h.fields) h.methods) _ _ _ (below_sets (item + 16 + 8 * h.fields) h.methods) (λ y t.
      made_kept _ (entries_from (entry_from s f (references_below s f)) 8 (item + 16 + 8 * h.fields + 8 * h.methods) h.parameters)
      ∙ below_references (item + 16 + 8 * h.fields + 8 * h.methods) h.parameters))))

  pub directory_by : (item : ℕ) {y : Outcome Unit} → y ≡ (directory_head s f item >>= λ (h : DirectoryHead). lists_below s f item h) → y ≡ (directory_below s f item >>= accepted)
  unfolding directory_below directory_head
  directory_by item e = e ∙ sym (kept_part (directory_at s f item) (λ (d : Directory). d.head) _ (λ (h : DirectoryHead). lists_below s f item h) (λ d t. refl))

-- ---- what code adds up fits
pub four_fits : (s : List ℕ) (f : Frame) (item : ℕ) (absent four : Bool) {n : ℕ} → answer n ≡ offset_count s f item absent four → Fits w64 (length s) → Fits w64 (item + 4)
four_fits s f item absent four e z = let h = count_room s f item absent four e in omega arith

module _ (s : List ℕ) (item : ℕ) (h : DirectoryHead) (room : item + 16 + 8 * h.fields + 8 * h.methods + 8 * h.parameters ≤ length s) where
  pub fields_room : item + 16 + 8 * h.fields ≤ length s
  fields_room = omega arith

  pub methods_room : item + 16 + 8 * h.fields + 8 * h.methods ≤ length s
  methods_room = omega arith

  pub head_fits : Fits w64 (length s) → Fits w64 (item + 16)
  head_fits z = omega arith

  pub fields_fits : Fits w64 (length s) → Fits w64 (item + 16 + 8 * h.fields)
  fields_fits z = omega arith

  pub methods_fits : Fits w64 (length s) → Fits w64 (item + 16 + 8 * h.fields + 8 * h.methods)
  methods_fits z = omega arith

pub ruleset item_laws = (along_first, item_next, item_stop, along_done, along_four, rules)

pub ruleset set_laws = (along_first, set_next, set_stop, along_done, along_four, rules)

pub ruleset one_laws = (along_first, one_next, one_stop, along_done, along_eight, one_fits, rules)

pub ruleset stage_laws = (set_by, references_by, directory_by, absent_kept, present_kept, count_room, directory_room, four_fits, calls, tests, rules)

pub ruleset list_laws = (lists_by, fields_room, methods_room, head_fits, fields_fits, methods_fits, calls, rules)
