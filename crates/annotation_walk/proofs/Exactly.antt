-- What lies below sets, reference lists and directories is read exactly where the rules allow it, and there is one answer.
-- Assumes nothing.
use Prim.Native.Nat.{ℕ, ◌+◌, ◌*◌}
use mathlib.Core.Path.{◌≡◌, refl, subst}
use mathlib.Core.Logic.{◌↔◌}
use mathlib.Core.Option.{Option}
use mathlib.Core.List.{List}
use lib.ListN.{length}
use Rattle.refusal.specs.Outcome.{Outcome, answer, ◌>>=◌, accepted}
use Rattle.refusal.specs.Exact.{Exact, Present, Each}
use Rattle.refusal.proofs.Exact.{same, answer_exact, bind_exact, exact_iff, present_exact, accepted_iff}
use Rattle.word.specs.Words.{u32_at}
use Rattle.frame.specs.declared.Frame.{Frame}
use Rattle.annotation_items.specs.Items.{AnnotationItem}
use Rattle.annotation_lists.specs.Rules.{SetRule, ReferencesRule}
use Rattle.annotation_items.specs.Rules.{AnnotationItemRule}
use Rattle.annotation_lists.specs.Fixed.{entries_from}
use Rattle.annotation_lists.proofs.Fixed.{entries_exact}
use Rattle.annotation_lists.proofs.Exactly.{set_exact, references_exact}
use Rattle.annotation_directories.proofs.Exactly.{directory_exact}
use Rattle.annotation_items.proofs.Exactly.{item_exact}
use Rattle.annotation_walk.specs.Below.{Under, Annotated, item_from, set_below, set_from, references_below, entry_from, head_below, directory_below}
use Rattle.annotation_walk.specs.Rules.{SetBelow, ReferencesBelow, EntryBelow, DirectoryBelow}

module _ (s : List ℕ) (f : Frame) where
  -- what the word at a place leads to
  abbrev word : ℕ → ℕ
  word p = u32_at f.order s p

  item_from_exact : (p : ℕ) → Exact (item_from s f p) (AnnotationItemRule s f (word p))
  unfolding item_from
  item_from_exact p = item_exact s f (word p)

  pub set_below_exact : (item : ℕ) → Exact (set_below s f item) (SetBelow s f item)
  unfolding set_below
  set_below_exact item =
      exact_iff (bind_exact (SetRule s f item) (λ (o : List ℕ). Each (λ (k : ℕ). AnnotationItemRule s f (word (item + 4 + 4 * k))) (length o)) (set_exact s f item)
      (λ o. entries_exact (item_from s f) 4 (item + 4) (length o) (λ (p : ℕ). AnnotationItemRule s f (word p)) item_from_exact))
      (λ l h. record { offsets = h.0; rule = h.1.0; items = h.1.1 })
      (λ l h. (h.offsets, (h.rule, h.items)))

  set_from_exact : (p : ℕ) → Exact (set_from s f p) (Present (SetBelow s f (word p)) (word p))
  unfolding set_from
  set_from_exact p = present_exact (word p) (set_below_exact (word p))

  pub references_below_exact : (item : ℕ) → Exact (references_below s f item) (ReferencesBelow s f item)
  unfolding references_below
  references_below_exact item =
      exact_iff (bind_exact (ReferencesRule s f item) (λ (o : List ℕ). Each (λ (k : ℕ). Present (SetBelow s f (word (item + 4 + 4 * k))) (word (item + 4 + 4 * k))) (length o)) (references_exact s f item)
      (λ o. entries_exact (set_from s f) 4 (item + 4) (length o) (λ (p : ℕ). Present (SetBelow s f (word p)) (word p)) set_from_exact))
      (λ l h. record { offsets = h.0; rule = h.1.0; sets = h.1.1 })
      (λ l h. (h.offsets, (h.rule, h.sets)))

  entry_from_exact : {B : Type 0} (below : ℕ → Outcome B) (Below : ℕ → B → Type 0) → ((p : ℕ) → Exact (below p) (Below p)) → (p : ℕ) → Exact (entry_from s f below p) (EntryBelow s f Below p)
  unfolding entry_from
  entry_from_exact {B} below Below exact p =
      exact_iff (bind_exact (Below (word (p + 4))) (λ (b : B) (u : Under B). record { index = word p; offset = word (p + 4); below = b } ≡ u) (exact (word (p + 4))) (λ b. answer_exact _))
      (λ u h. subst (EntryBelow s f Below p) h.1.1 (record { index = refl; offset = refl; below = h.1.0 }))
      (λ u h. (u.below, (h.below, λ i. record { index = h.index i; offset = h.offset i; below = u.below })))

  -- the entries of one of the three lists
  abbrev BelowList : {B : Type 0} → (ℕ → B → Type 0) → ℕ → ℕ → List (Under B) → Type 0
  BelowList {B} Below from count = Each (λ (k : ℕ) (u : Under B). EntryBelow s f Below (from + 8 * k) u) count

  below_list_exact : {B : Type 0} (below : ℕ → Outcome B) (Below : ℕ → B → Type 0) (exact : (p : ℕ) → Exact (below p) (Below p)) (from count : ℕ)
      → Exact (entries_from (entry_from s f below) 8 from count) (BelowList Below from count)
  below_list_exact below Below exact from count = entries_exact (entry_from s f below) 8 from count (EntryBelow s f Below) (entry_from_exact below Below exact)

  pub directory_below_exact : (item : ℕ) → Exact (directory_below s f item) (DirectoryBelow s f item)
  unfolding directory_below head_below
  directory_below_exact item =
      exact_iff (bind_exact _ _ (directory_exact s f item) (λ d. let h = d.head in
      bind_exact _ _ (present_exact h.set (set_below_exact h.set)) (λ o.
      bind_exact _ _ (below_list_exact (set_below s f) (SetBelow s f) set_below_exact (item + 16) h.fields) (λ x.
      bind_exact _ _ (below_list_exact (set_below s f) (SetBelow s f) set_below_exact (item + 16 + 8 * h.fields) h.methods) (λ y.
      bind_exact _ _ (below_list_exact (references_below s f) (ReferencesBelow s f) references_below_exact (item + 16 + 8 * h.fields + 8 * h.methods) h.parameters) (λ z.
      answer_exact (record { set = h.set; own = o; fields = x; methods = y; parameters = z })))))))
      (λ a p. subst (DirectoryBelow s f item) p.1.1.1.1.1.1.1.1.1.1
      (record { directory = p.0; rule = p.1.0; set = refl; own = p.1.1.1.0; fields = p.1.1.1.1.1.0; methods = p.1.1.1.1.1.1.1.0; parameters = p.1.1.1.1.1.1.1.1.1.0 }))
      (λ a p. (p.directory, (p.rule, (a.own, (p.own, (a.fields, (p.fields, (a.methods, (p.methods, (a.parameters, (p.parameters, λ i. record { set = p.set i; own = a.own; fields = a.fields; methods = a.methods; parameters = a.parameters })))))))))))

  -- one answer
  pub set_below_same : (item : ℕ) (a b : List AnnotationItem) → SetBelow s f item a → SetBelow s f item b → a ≡ b
  set_below_same item = same (set_below_exact item)

  pub references_below_same : (item : ℕ) (a b : List (Option (List AnnotationItem))) → ReferencesBelow s f item a → ReferencesBelow s f item b → a ≡ b
  references_below_same item = same (references_below_exact item)

  pub directory_below_same : (item : ℕ) (a b : Annotated) → DirectoryBelow s f item a → DirectoryBelow s f item b → a ≡ b
  directory_below_same item = same (directory_below_exact item)

  -- code that only checks accepts exactly where the rules hold of something
  pub set_accepted_iff : (item : ℕ) → ((set_below s f item >>= accepted) ≡ answer tt) ↔ ((l : List AnnotationItem) × SetBelow s f item l)
  set_accepted_iff item = accepted_iff (set_below_exact item)

  pub references_accepted_iff : (item : ℕ) → ((references_below s f item >>= accepted) ≡ answer tt) ↔ ((l : List (Option (List AnnotationItem))) × ReferencesBelow s f item l)
  references_accepted_iff item = accepted_iff (references_below_exact item)

  pub directory_accepted_iff : (item : ℕ) → ((directory_below s f item >>= accepted) ≡ answer tt) ↔ ((a : Annotated) × DirectoryBelow s f item a)
  directory_accepted_iff item = accepted_iff (directory_below_exact item)
