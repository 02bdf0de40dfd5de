-- The header's readings find exactly what the rules allow, so two readings of one header are equal.
-- Assumes nothing.
use Prim.Native.Nat.{ℕ, ◌+◌, ◌*◌, ◌%◌, ◌≤◌, ◌<◌}
use mathlib.Core.Path.{◌≡◌, refl, sym, subst, ◌∙◌}
use mathlib.Core.Logic.{◌⊎◌, inl, inr}
use mathlib.Core.Bool.{Bool, true, false, cond, ◌&&◌}
use mathlib.Core.List.{List}
use lib.ListN.{length, get_or}
use lib.Dec.{eqb, leb}
use native.Mathlib.Omega.{arith}
use Rattle.refusal.specs.Refusals.{file_too_long, file_too_short, out_of_bounds, wrong_magic, wrong_sizes, wrong_tag}
use Rattle.refusal.specs.Exact.{Exact, Decides}
use Rattle.refusal.proofs.Exact.{same, answer_exact, given_exact, bind_exact, either_exact, exact_iff, below, at_most, equal, both}
use Rattle.word.specs.Words.{u32_at}
use Rattle.word.specs.declared.Endian.{Endian}
use Rattle.word.specs.declared.Endian.TheVariants.{Little, Big}
use Rattle.header.specs.declared.Header.{Header}
use Rattle.header.specs.declared.Shape.{Shape}
use Rattle.header.specs.declared.Three.{Three}
use Rattle.header.specs.declared.Section.{Section}
use Rattle.header.specs.Header.{four_of, four, version_at, order_at, table_allowed, table_of, table_at, three_at, section_of, section_at, joined, sectioned_at, tables_at, body_of, body_at, versioned_at, header_at, strings_shape, types_shape, protos_shape, fields_shape, methods_shape, classes_shape}
use Rattle.header.specs.Rules.{Four, VersionRule, version_035, version_037, version_038, version_039, Tagged, TableRule, TableAt, HeaderRule}

four_decides : (f : List ℕ) (p a b c d : ℕ) → Decides (four f p a b c d) (Four f p a b c d)
unfolding four four_of
four_decides f p a b c d =
    let all = both (equal (get_or f p 0) a) (both (equal (get_or f (p + 1) 0) b) (both (equal (get_or f (p + 2) 0) c) (equal (get_or f (p + 3) 0) d))) in
    record {
      sound = λ t. let h = all.sound t in record { first = h.0; second = h.1.0; third = h.1.1.0; fourth = h.1.1.1 };
      complete = λ h. all.complete (h.first, (h.second, (h.third, h.fourth)));
    }

four_not : (f : List ℕ) (p a b c d : ℕ) → (Four f p a b c d → ⊥) → four f p a b c d ≡ false
four_not f p a b c d h = go (four f p a b c d) refl
  where
    go : (t : Bool) → four f p a b c d ≡ t → t ≡ false
    go true e = absurd (h ((four_decides f p a b c d).sound e))
    go false e = refl

module _ (f : List ℕ) where
  version_sound : 0 < version_at f → VersionRule f (version_at f)
  unfolding version_at
  version_sound = go _ _ _ _ (four_decides f 4 0x30 0x33 0x35 0) (four_decides f 4 0x30 0x33 0x37 0) (four_decides f 4 0x30 0x33 0x38 0) (four_decides f 4 0x30 0x33 0x39 0)
    where
      go : (w x y z : Bool) → Decides w (Four f 4 0x30 0x33 0x35 0) → Decides x (Four f 4 0x30 0x33 0x37 0) → Decides y (Four f 4 0x30 0x33 0x38 0) → Decides z (Four f 4 0x30 0x33 0x39 0)
          → 0 < cond w 35 (cond x 37 (cond y 38 (cond z 39 0))) → VersionRule f (cond w 35 (cond x 37 (cond y 38 (cond z 39 0))))
      go true x y z a b c d p = version_035 (a.sound refl)
      go false true y z a b c d p = version_037 (b.sound refl)
      go false false true z a b c d p = version_038 (c.sound refl)
      go false false false true a b c d p = version_039 (d.sound refl)
      go false false false false a b c d p = absurd (omega arith)

  -- the versions differ in their third byte
  other_version : {c : ℕ} (d : ℕ) → Four f 4 0x30 0x33 c 0 → (c ≡ d → ⊥) → four f 4 0x30 0x33 d 0 ≡ false
  other_version d h n = four_not f 4 0x30 0x33 d 0 λ k. n (sym h.third ∙ k.third)

  version_complete : (v : ℕ) → VersionRule f v → version_at f ≡ v
  unfolding version_at
  version_complete v (version_035 h) = rw ((four_decides f 4 0x30 0x33 0x35 0).complete h)
  version_complete v (version_037 h) = rw (other_version 0x35 h (λ e. omega arith), (four_decides f 4 0x30 0x33 0x37 0).complete h)
  version_complete v (version_038 h) = rw (other_version 0x35 h (λ e. omega arith), other_version 0x37 h (λ e. omega arith), (four_decides f 4 0x30 0x33 0x38 0).complete h)
  version_complete v (version_039 h) =
      rw (other_version 0x35 h (λ e. omega arith), other_version 0x37 h (λ e. omega arith), other_version 0x38 h (λ e. omega arith), (four_decides f 4 0x30 0x33 0x39 0).complete h)

  version_known : (v : ℕ) → VersionRule f v → 0 < v
  version_known v (version_035 h) = omega arith
  version_known v (version_037 h) = omega arith
  version_known v (version_038 h) = omega arith
  version_known v (version_039 h) = omega arith

-- the two tags differ in their first byte
order_exact : (f : List ℕ) → Exact (order_at f) (Tagged f)
unfolding order_at
order_exact f =
    exact_iff (either_exact (four_decides f 40 0x78 0x56 0x34 0x12) (answer_exact Little) (given_exact wrong_tag (four_decides f 40 0x12 0x34 0x56 0x78) (answer_exact Big)))
    there
    back
  where
    Ways : Endian → Type 0
    Ways o = (Four f 40 0x78 0x56 0x34 0x12 × (Little ≡ o)) ⊎ ((Four f 40 0x78 0x56 0x34 0x12 → ⊥) × (Four f 40 0x12 0x34 0x56 0x78 × (Big ≡ o)))

    there : (o : Endian) → Ways o → Tagged f o
    there o (inl h) = subst (Tagged f) h.1 h.0
    there o (inr h) = subst (Tagged f) h.1.1 h.1.0

    back : (o : Endian) → Tagged f o → Ways o
    back Little h = inl (h, refl)
    back Big h = inr (λ k. let a = h.first in let b = k.first in omega arith, (h, refl))

table_decides : (len : ℕ) (shape : Shape) (count offset : ℕ) → Decides (table_allowed len shape count offset) (TableRule len shape (record { count = count; offset = offset }))
unfolding table_allowed
table_decides len shape count offset = go (eqb count 0) refl
  where
    all : Decides (leb 112 offset && (eqb (offset % 4) 0 && (leb (offset + shape.width * count) len && leb count shape.most))) ((112 ≤ offset) × ((offset % 4 ≡ 0) × ((offset + shape.width * count ≤ len) × (count ≤ shape.most))))
    all = both (at_most 112 offset) (both (equal (offset % 4) 0) (both (at_most (offset + shape.width * count) len) (at_most count shape.most)))

    go : (b : Bool) → eqb count 0 ≡ b → Decides (cond b (eqb offset 0) (leb 112 offset && (eqb (offset % 4) 0 && (leb (offset + shape.width * count) len && leb count shape.most)))) (TableRule len shape (record { count = count; offset = offset }))
    go true t =
        let none : count ≡ 0 = (equal count 0).sound t in
        let zero = equal offset 0 in
        record {
          sound = λ e. record { none_at_0 = λ z. zero.sound e; after_header = λ p. absurd (omega arith); multiple = λ p. absurd (omega arith); inside = λ p. absurd (omega arith); few = λ p. absurd (omega arith) };
          complete = λ h. zero.complete (h.none_at_0 none);
        }
    go false t =
        let none : count ≡ 0 → ⊥ = λ z. let e : true ≡ false = sym ((equal count 0).complete z) ∙ t in let x : ◌≡◌ {A = ℕ} 0 1 = cc in omega arith in
        let some : 0 < count = omega arith in
        record {
          sound = λ e. let h = all.sound e in record { none_at_0 = λ z. absurd (none z); after_header = λ p. h.0; multiple = λ p. h.1.0; inside = λ p. h.1.1.0; few = λ p. h.1.1.1 };
          complete = λ h. all.complete (h.after_header some, (h.multiple some, (h.inside some, h.few some)));
        }

table_exact : (f : List ℕ) (o : Endian) (shape : Shape) (p : ℕ) → Exact (table_at f o shape p) (TableAt f o shape p)
unfolding table_at table_of
table_exact f o shape p =
    exact_iff (given_exact out_of_bounds (table_decides (length f) shape (u32_at o f p) (u32_at o f (p + 4))) (answer_exact _))
    (λ t h. subst (TableAt f o shape p) h.1 (record { count = refl; offset = refl; rule = h.0 }))
    (λ t h. let same : record { count = u32_at o f p; offset = u32_at o f (p + 4) } ≡ t = λ i. record { count = h.count i; offset = h.offset i } in
    (subst (TableRule (length f) shape) (sym same) h.rule, same))

-- three tables in a row
record ThreeAt (f : List ℕ) (o : Endian) (a b c : Shape) (p : ℕ) (t : Three) : Type 0 where
  first : TableAt f o a p t.first
  second : TableAt f o b (p + 8) t.second
  third : TableAt f o c (p + 16) t.third

three_exact : (f : List ℕ) (o : Endian) (a b c : Shape) (p : ℕ) → Exact (three_at f o a b c p) (ThreeAt f o a b c p)
unfolding three_at
three_exact f o a b c p =
    exact_iff (bind_exact _ _ (table_exact f o a p) (λ x. bind_exact _ _ (table_exact f o b (p + 8)) (λ y. bind_exact _ _ (table_exact f o c (p + 16)) (λ z. answer_exact (record { first = x; second = y; third = z })))))
    (λ t h. subst (ThreeAt f o a b c p) h.1.1.1.1.1.1 (record { first = h.1.0; second = h.1.1.1.0; third = h.1.1.1.1.1.0 }))
    (λ t h. (t.first, (h.first, (t.second, (h.second, (t.third, (h.third, refl)))))))

record SectionAt (f : List ℕ) (o : Endian) (d : Section) : Type 0 where
  after_header : 112 ≤ u32_at o f 108
  inside : u32_at o f 108 + u32_at o f 104 ≤ length f
  start : u32_at o f 108 ≡ d.start
  end : u32_at o f 108 + u32_at o f 104 ≡ d.end

section_exact : (f : List ℕ) (o : Endian) → Exact (section_at f o) (SectionAt f o)
unfolding section_at section_of
section_exact f o =
    exact_iff (given_exact out_of_bounds (at_most 112 (u32_at o f 108)) (given_exact out_of_bounds (at_most (u32_at o f 108 + u32_at o f 104) (length f)) (answer_exact _)))
    (λ d h. subst (SectionAt f o) h.1.1 (record { after_header = h.0; inside = h.1.0; start = refl; end = refl }))
    (λ d h. (h.after_header, (h.inside, λ i. record { start = h.start i; end = h.end i })))

-- what the tables and the section add to a header of this version and order
record TablesAt (f : List ℕ) (version : ℕ) (o : Endian) (h : Header) : Type 0 where
  t : Three
  u : Three
  d : Section
  three : ThreeAt f o strings_shape types_shape protos_shape 56 t
  others : ThreeAt f o fields_shape methods_shape classes_shape 80 u
  section : SectionAt f o d
  is : joined f version o t u d ≡ h

tables_exact : (f : List ℕ) (version : ℕ) (o : Endian) → Exact (tables_at f version o) (TablesAt f version o)
unfolding tables_at sectioned_at
tables_exact f version o =
    exact_iff (bind_exact _ _ (three_exact f o strings_shape types_shape protos_shape 56) (λ t. bind_exact _ _ (three_exact f o fields_shape methods_shape classes_shape 80) (λ u. bind_exact _ _ (section_exact f o) (λ d. answer_exact (joined f version o t u d)))))
    (λ h p. record { t = p.0; u = p.1.1.0; d = p.1.1.1.1.0; three = p.1.0; others = p.1.1.1.0; section = p.1.1.1.1.1.0; is = p.1.1.1.1.1.1 })
    (λ h p. (p.t, (p.three, (p.u, (p.others, (p.d, (p.section, p.is)))))))

-- rules 3 to 6 in the tests' own order
record Staged (f : List ℕ) (h : Header) : Type 0 where
  o : Endian
  tag : Tagged f o
  header_size : u32_at o f 36 ≡ 112
  file_size : u32_at o f 32 ≡ length f
  tables : TablesAt f (version_at f) o h

header_staged : (f : List ℕ) → Exact (header_at f) (λ (h : Header). (112 ≤ length f) × ((length f ≤ 67108864) × (Four f 0 0x64 0x65 0x78 0x0a × ((0 < version_at f) × Staged f h))))
unfolding header_at versioned_at body_at body_of
header_staged f =
    given_exact file_too_short (at_most 112 (length f)) (given_exact file_too_long (at_most (length f) 67108864) (given_exact wrong_magic (four_decides f 0 0x64 0x65 0x78 0x0a) (given_exact wrong_magic (below 0 (version_at f))
    (exact_iff (bind_exact _ _ (order_exact f) (λ o. given_exact wrong_sizes (equal (u32_at o f 36) 112) (given_exact wrong_sizes (equal (u32_at o f 32) (length f)) (tables_exact f (version_at f) o))))
    (λ h p. record { o = p.0; tag = p.1.0; header_size = p.1.1.0; file_size = p.1.1.1.0; tables = p.1.1.1.1 })
    (λ h p. (p.o, (p.tag, (p.header_size, (p.file_size, p.tables)))))))))

unstaged : (f : List ℕ) (h : Header) → 112 ≤ length f → length f ≤ 67108864 → Four f 0 0x64 0x65 0x78 0x0a → 0 < version_at f → Staged f h → HeaderRule f h
unstaged f h long short magic known s = subst (HeaderRule f) s.tables.is (record {
  long = long;
  short = short;
  magic = magic;
  version = version_sound f known;
  tag = s.tag;
  header_size = s.header_size;
  file_size = s.file_size;
  checksum = refl;
  map = refl;
  strings = s.tables.three.first;
  types = s.tables.three.second;
  protos = s.tables.three.third;
  fields = s.tables.others.first;
  methods = s.tables.others.second;
  classes = s.tables.others.third;
  start = s.tables.section.start;
  end = s.tables.section.end;
  section_after = subst (λ (x : ℕ). 112 ≤ x) s.tables.section.start s.tables.section.after_header;
  section_inside = subst (λ (x : ℕ). x ≤ length f) s.tables.section.end s.tables.section.inside;
})

staged : (f : List ℕ) (h : Header) → HeaderRule f h → Staged f h
staged f h r = record {
  o = h.order;
  tag = r.tag;
  header_size = r.header_size;
  file_size = r.file_size;
  tables = record {
    t = record { first = h.strings; second = h.types; third = h.protos };
    u = record { first = h.fields; second = h.methods; third = h.classes };
    d = record { start = h.start; end = h.end };
    three = record { first = r.strings; second = r.types; third = r.protos };
    others = record { first = r.fields; second = r.methods; third = r.classes };
    section = record {
      after_header = subst (λ (x : ℕ). 112 ≤ x) (sym r.start) r.section_after;
      inside = subst (λ (x : ℕ). x ≤ length f) (sym r.end) r.section_inside;
      start = r.start;
      end = r.end;
    };
    is = λ i. record {
      version = version_complete f h.version r.version i;
      order = h.order;
      checksum = r.checksum i;
      map = r.map i;
      strings = h.strings;
      types = h.types;
      protos = h.protos;
      fields = h.fields;
      methods = h.methods;
      classes = h.classes;
      start = h.start;
      end = h.end;
    };
  };
}

pub header_exact : (f : List ℕ) → Exact (header_at f) (HeaderRule f)
header_exact f =
    exact_iff (header_staged f)
    (λ h p. unstaged f h p.0 p.1.0 p.1.1.0 p.1.1.1.0 p.1.1.1.1)
    (λ h r. (r.long, (r.short, (r.magic, (subst (λ (x : ℕ). 0 < x) (sym (version_complete f h.version r.version)) (version_known f h.version r.version), staged f h r)))))

-- any two readings of a header are equal
pub header_same : (f : List ℕ) (a b : Header) → HeaderRule f a → HeaderRule f b → a ≡ b
header_same f = same (header_exact f)
