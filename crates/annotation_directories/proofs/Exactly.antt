-- The readings of the annotation directory find exactly what the rules allow, and no two things at one place.
-- Assumes nothing.
use Prim.Native.Nat.{ℕ, ◌+◌, ◌*◌, ◌<◌}
use mathlib.Core.Path.{◌≡◌, refl, ap, sym, subst, ◌∙◌}
use mathlib.Core.Bool.{true}
use mathlib.Core.List.{List}
use lib.ListN.{length}
use native.Mathlib.Omega.{arith}
use Rattle.refusal.specs.Refusals.{wrong_index, wrong_offset}
use Rattle.refusal.specs.Rows.{Found}
use Rattle.refusal.specs.Exact.{Exact}
use Rattle.refusal.proofs.Exact.{same, answer_exact, given_exact, bind_exact, exact_iff, below}
use Rattle.word.specs.Words.{u32_at}
use Rattle.frame.specs.declared.Frame.{Frame}
use Rattle.frame.specs.Offsets.{Allowed, AllowedOrAbsent}
use Rattle.frame.proofs.Laws.{allowed_decides, or_absent_decides}
use Rattle.annotation_directories.specs.declared.DirectoryHead.{DirectoryHead}
use Rattle.annotation_lists.specs.Fixed.{Fixed}
use Rattle.annotation_directories.specs.Directories.{DirectoryEntry, Directory, counts_at, head_at, entry_of, entry_at, list_at, lists_at, directory_at}
use Rattle.annotation_directories.specs.Rules.{DirectoryHeadRule, DirectoryEntryRule, DirectoryRule}
use Rattle.annotation_lists.proofs.Fixed.{fixed_exact}
use Rattle.annotation_lists.proofs.Exactly.{Stands, word_exact}

module _ (s : List ℕ) (f : Frame) (item : ℕ) where
  -- what the three counts say
  abbrev Counts : ℕ → DirectoryHead → Type 0
  Counts set h =
      (x : ℕ) × (Stands s f (item + 4) x
      × ((y : ℕ) × (Stands s f (item + 8) y
      × ((z : ℕ) × (Stands s f (item + 12) z
      × (record { set = set; fields = x; methods = y; parameters = z } ≡ h))))))

  counts_exact : (set : ℕ) → Exact (counts_at s f item set) (Counts set)
  unfolding counts_at
  counts_exact set =
      bind_exact _ _ (word_exact s f item (item + 4)) (λ x.
      bind_exact _ _ (word_exact s f item (item + 8)) (λ y.
      bind_exact _ _ (word_exact s f item (item + 12)) (λ z. answer_exact (record { set = set; fields = x; methods = y; parameters = z }))))

  Raw : ℕ → DirectoryHead → Type 0
  Raw set h = Stands s f item set × (AllowedOrAbsent f.start (length s) true set × Counts set h)

  pub head_exact : Exact (head_at s f item) (DirectoryHeadRule s f item)
  unfolding head_at Raw
  head_exact =
      exact_iff (bind_exact (Stands s f item) (λ (set : ℕ) (h : DirectoryHead). AllowedOrAbsent f.start (length s) true set × Counts set h) (word_exact s f item item)
      (λ set. given_exact (wrong_offset item) (or_absent_decides f.start (length s) true set) (counts_exact set)))
      (λ h p. there p.0 h p.1)
      (λ h p. (
        h.set,
        (
          (let z = p.room in omega arith, p.set),
          (
            p.allows,
            (
              h.fields,
              (
                (let z = p.room in omega arith, p.fields),
                (
                  h.methods,
                  (
                    (let z = p.room in omega arith, p.methods),
                    (h.parameters, ((let z = p.room in omega arith, p.parameters), refl)),
                  ),
                ),
              ),
            ),
          ),
        ),
      ))
    where
      there : (set : ℕ) (h : DirectoryHead) → Raw set h → DirectoryHeadRule s f item h
      there set h p = subst (DirectoryHeadRule s f item) p.1.1.1.1.1.1.1.1
          (record {
            room = let z = p.1.1.1.1.1.1.1.0.0 in omega arith;
            set = p.0.1;
            allows = p.1.0;
            fields = p.1.1.1.0.1;
            methods = p.1.1.1.1.1.0.1;
            parameters = p.1.1.1.1.1.1.1.0.1;
          })

  pub entry_exact : (limit p : ℕ) → Exact (entry_at s f item limit p) (DirectoryEntryRule s f item limit p)
  unfolding entry_at entry_of
  entry_exact limit p =
      let i = u32_at f.order s p in
      let o = u32_at f.order s (p + 4) in
      exact_iff (given_exact (wrong_index item) (below i limit) (given_exact (wrong_offset item) (allowed_decides f.start (length s) true o) (answer_exact (record { index = i; offset = o }))))
      (λ e h. subst (DirectoryEntryRule s f item limit p) h.1.1 (record { index = refl; offset = refl; below = h.0; allows = h.1.0 }))
      (λ e h. (
        subst (λ (x : ℕ). x < limit) (sym h.index) h.below,
        (subst (Allowed f.start (length s) true) (sym h.offset) h.allows, λ i. record { index = h.index i; offset = h.offset i }),
      ))

  abbrev ListRule : ℕ → ℕ → ℕ → List DirectoryEntry → Type 0
  ListRule limit from count l = Fixed s (DirectoryEntryRule s f item limit) 8 from count l

  list_exact : (limit from count : ℕ) → Exact (list_at s f item limit from count) (λ (r : Found (List DirectoryEntry) ℕ). ListRule limit from count r.item × (from + 8 * count ≡ r.next))
  unfolding list_at
  list_exact limit from count =
      exact_iff (bind_exact (ListRule limit from count) (λ (l : List DirectoryEntry) (r : Found (List DirectoryEntry) ℕ). record { item = l; next = from + 8 * count } ≡ r)
      (fixed_exact (entry_at s f item limit) 8 from count (DirectoryEntryRule s f item limit) (entry_exact limit) s item) (λ l. answer_exact _))
      (λ r h. subst (λ (x : Found (List DirectoryEntry) ℕ). ListRule limit from count x.item × (from + 8 * count ≡ x.next)) h.1.1 (h.1.0, refl))
      (λ r h. (r.item, (h.0, λ i. record { item = r.item; next = h.1 i })))

  -- the three lists of a directory with this head
  pub record Lists (h : DirectoryHead) (d : Directory) : Type 0 where
    pub head : h ≡ d.head
    pub fields : ListRule f.fields (item + 16) h.fields d.fields
    pub methods : ListRule f.methods (item + 16 + 8 * h.fields) h.methods d.methods
    pub parameters : ListRule f.methods (item + 16 + 8 * h.fields + 8 * h.methods) h.parameters d.parameters

  pub lists_exact : (h : DirectoryHead) → Exact (lists_at s f item h) (Lists h)
  unfolding lists_at
  lists_exact h =
      exact_iff
      (bind_exact _ _ (list_exact f.fields (item + 16) h.fields) (λ a.
      bind_exact _ _ (list_exact f.methods a.next h.methods) (λ b.
      bind_exact _ _ (list_exact f.methods b.next h.parameters) (λ c.
      answer_exact (record { head = h; fields = a.item; methods = b.item; parameters = c.item })))))
      (λ d p. let a = p.1.0 in let b = p.1.1.1.0 in let c = p.1.1.1.1.1.0 in
      subst (Lists h) p.1.1.1.1.1.1
      (record {
        head = refl;
        fields = a.0;
        methods = subst (λ (q : ℕ). ListRule f.methods q h.methods p.1.1.0.item) (sym a.1) b.0;
        parameters = subst (λ (q : ℕ). ListRule f.methods q h.parameters p.1.1.1.1.0.item) (sym (ap (λ (q : ℕ). q + 8 * h.methods) a.1 ∙ b.1)) c.0;
      }))
      (λ d p. (
        record { item = d.fields; next = item + 16 + 8 * h.fields },
        (
          (p.fields, refl),
          (
            record { item = d.methods; next = item + 16 + 8 * h.fields + 8 * h.methods },
            (
              (p.methods, refl),
              (
                record { item = d.parameters; next = item + 16 + 8 * h.fields + 8 * h.methods + 8 * h.parameters },
                (
                  (p.parameters, refl),
                  λ i. record { head = p.head i; fields = d.fields; methods = d.methods; parameters = d.parameters },
                ),
              ),
            ),
          ),
        ),
      ))

  pub directory_exact : Exact (directory_at s f item) (DirectoryRule s f item)
  unfolding directory_at
  directory_exact =
      exact_iff (bind_exact (DirectoryHeadRule s f item) Lists head_exact lists_exact)
      (λ d p. there p.0 d p.1.0 p.1.1)
      (λ d p. (d.head, (p.head, record { head = refl; fields = p.fields; methods = p.methods; parameters = p.parameters })))
    where
      there : (h : DirectoryHead) (d : Directory) → DirectoryHeadRule s f item h → Lists h d → DirectoryRule s f item d
      there h d r l =
          let at = subst (λ (g : DirectoryHead). DirectoryHeadRule s f item g × Lists g d) l.head (r, l) in
          record { head = at.0; fields = at.1.fields; methods = at.1.methods; parameters = at.1.parameters }

  pub directory_same : (a b : Directory) → DirectoryRule s f item a → DirectoryRule s f item b → a ≡ b
  directory_same = same directory_exact
