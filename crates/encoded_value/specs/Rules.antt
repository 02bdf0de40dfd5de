-- Values as rules: which bytes at a place are the encoding of which tree. No walk, and no depth in them: that a top body is no deeper than 64 is a fact of its own.
use Rattle.std.specs.Prelude.{ℕ, zero, suc, ◌+◌, ◌%◌, ◌/◌, ◌≤◌, ◌<◌, ◌≡◌, List, [], ◌∷◌}
use Rattle.refusal.specs.Rows.{Found}
use Rattle.leb128.specs.Rules.{Uleb}
use Rattle.value_heads.specs.declared.Walk.{Walk}
use Rattle.value_heads.specs.Kinds.{bytes_of, count_of}
use Rattle.value_heads.specs.Rules.{HeadByteRule, NumberRule, IndexRule}
use Rattle.encoded_value.specs.Tree.{Named, Annotation, Tree, array, annotation, trees, elements_of, plain_of}
use Rattle.encoded_value.specs.Depth.{deepest, array_depth, annotation_depth}

module _ (s : List ℕ) (w : Walk) where
  -- a value that is no body, behind its head byte h
  pub record Plain (h p : ℕ) (v : Tree) (q : ℕ) : Type 0 where
    pub number : ℕ
    pub bytes : NumberRule s p (bytes_of h) (record { item = number; next = q })
    pub range : (0x15 ≤ h % 32) × (h % 32 < 0x1c) → number < count_of w (h % 32)
    pub value : plain_of (h % 32) (h / 32) number ≡ v

  mutual
    -- from p to q stands the value v: its head byte, then the body that it opens, or its bytes
    pub data Value : ℕ → Tree → ℕ → Type 0 where
      an_array : {h p q : ℕ} {vs : List Tree} {v : Tree} → HeadByteRule s p h → h % 32 ≡ 0x1c → ArrayBody (p + 1) vs q → array (p + 1) q (trees vs) ≡ v → Value p v q
      an_annotation : {h p q : ℕ} {a : Annotation} {v : Tree} → HeadByteRule s p h → h % 32 ≡ 0x1d → AnnotationBody (p + 1) a q
          → annotation (p + 1) q a.type_index (elements_of a.elements) ≡ v → Value p v q
      no_body : {h p q : ℕ} {v : Tree} → HeadByteRule s p h → (h % 32 ≡ 0x1c → ⊥) → (h % 32 ≡ 0x1d → ⊥) → Plain h (p + 1) v q → Value p v q

    -- "An array holds values": its size, and so many values
    pub data ArrayBody : ℕ → List Tree → ℕ → Type 0 where
      array_body : {p q : ℕ} {size : Found ℕ ℕ} {vs : List Tree} → Uleb s p size → ValueRow size.item size.next vs q → ArrayBody p vs q

    -- "an annotation holds named values": its type, its size, and so many named values
    pub data AnnotationBody : ℕ → Annotation → ℕ → Type 0 where
      annotation_body : {p q from : ℕ} {size : Found ℕ ℕ} {a : Annotation} → IndexRule s w.types p (record { item = a.type_index; next = from }) → Uleb s from size
          → NamedRow size.item size.next a.elements q → AnnotationBody p a q

    -- a name, and the value
    pub data NamedValue : ℕ → Named → ℕ → Type 0 where
      a_named : {p q from : ℕ} {e : Named} → IndexRule s w.strings p (record { item = e.name; next = from }) → Value from e.value q → NamedValue p e q

    -- n of them in a row, each from where the last one ended: as `Row` says it, which cannot be said of a type that is being declared
    pub data ValueRow : ℕ → ℕ → List Tree → ℕ → Type 0 where
      no_value : {p : ℕ} → ValueRow zero p [] p
      next_value : {n p q r : ℕ} {v : Tree} {vs : List Tree} → Value p v q → ValueRow n q vs r → ValueRow (suc n) p (v ∷ vs) r

    pub data NamedRow : ℕ → ℕ → List Named → ℕ → Type 0 where
      no_named : {p : ℕ} → NamedRow zero p [] p
      next_named : {n p q r : ℕ} {e : Named} {es : List Named} → NamedValue p e q → NamedRow n q es r → NamedRow (suc n) p (e ∷ es) r

-- "A top body is depth 1; depth 65 is 13": a body that lies in no other, or that is asked for by place
pub record ArrayRule (s : List ℕ) (w : Walk) (p : ℕ) (vs : List Tree) (q : ℕ) : Type 0 where
  pub body : ArrayBody s w p vs q
  pub shallow : array_depth vs ≤ deepest

pub record AnnotationRule (s : List ℕ) (w : Walk) (p : ℕ) (a : Annotation) (q : ℕ) : Type 0 where
  pub body : AnnotationBody s w p a q
  pub shallow : annotation_depth a ≤ deepest
