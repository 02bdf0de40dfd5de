-- What the functions' proofs cite: the sizes that the table allows, and the ways through a value that is read out.
-- Assumes nothing.
use Prim.Native.Nat.{ℕ, zero, suc, ◌+◌, ◌-◌, ◌*◌, ◌%◌, ◌/◌, ◌<◌, ◌≤◌}
use mathlib.Core.Path.{◌≡◌, refl, ap, sym, ◌∙◌}
use mathlib.Core.Logic.{◌⊎◌, inl, inr, ⊎_elim}
use mathlib.Core.Bool.{Bool, true, false, false≢true, ◌&&◌, ◌||◌}
use mathlib.Core.List.{List}
use lib.ListN.{length, get_or}
use lib.Dec.{leb, eqb}
use lib.Ieee.{Float, Format, of_bits}
use lib.Pow.{pow_mono}
use native.Mathlib.Decide.{dec_lt}
use native.Mathlib.Omega.{arith}
use borrow.Author.Rules.{rules}
use borrow.Author.Tests.{eq-eqb, ne_eqb}
use mir.Syntax.{w16, w32}
use mir.Val.{Fits}
use Rattle.refusal.specs.declared.Refusal.{Refusal}
use Rattle.refusal.specs.Outcome.{Outcome, answer, refused, ◌>>=◌}
use Rattle.refusal.specs.Rows.{Found, past}
use Rattle.refusal.proofs.Laws.{handed_on, bind_answer, bind_refused}
use Rattle.refusal.proofs.Exact.{equal, at_most, one_of}
use Rattle.refusal.proofs.Rows.{past_answer, past_refused}
use Rattle.value_heads.specs.declared.Walk.{Walk}
use Rattle.std.specs.Prelude.{Ok}
use Rattle.value_heads.specs.Kinds.{arguments, bytes_of}
use Rattle.value_heads.specs.Numbers.{signed, raised}
use Rattle.encoded_value.specs.Tree.{Tree, byte, short, char, int, long, float, double, index, null, boolean, rest_of, plain_of}
use Rattle.value_heads.specs.Readings.{head_byte_at, checked_at}
use Rattle.encoded_value.specs.Readings.{plain_at, kind_with, array_at, annotation_at, as_array, as_annotation}
use Rattle.value_heads.specs.Answers.{Small}
use Rattle.value_heads.proofs.Numbers.{size_some, size_most}
use Rattle.value_heads.proofs.Laws.{head_there, after_head}
use Rattle.encoded_value.proofs.Cycle.{value_kind, no_value, kind_array, kind_annotation, kind_plain}
use Rattle.encoded_value.proofs.Bounds.{array_ends, annotation_ends}
use Rattle.decoded_value.specs.Shown.{Shown, is, floating, body, shown}
use Rattle.decoded_value.specs.Sizes.{Sized, Fitting}
use Rattle.decoded_value.specs.Readings.{read_out, decoded_at, decoded_array, decoded_annotation}

-- ---- one computed test of the table
-- a test of each number below n
unfoldable pub all_below : ℕ → (ℕ → Bool) → Bool
all_below zero test = true
all_below (suc n) test = test n && all_below n test

both_true : (a b : Bool) → (a && b) ≡ true → (a ≡ true) × (b ≡ true)
both_true true b e = (refl, e)
both_true false b e = absurd (false≢true e)

last_or : (k n : ℕ) → k < suc n → (k ≡ n) ⊎ (k < n)
last_or k n l = go (dec_lt k n)
  where
    go : Dec (k < n) → (k ≡ n) ⊎ (k < n)
    go (yes p) = inr p
    go (no p) = inl (omega arith)

pub all_there : (n : ℕ) (test : ℕ → Bool) → all_below n test ≡ true → (k : ℕ) → k < n → test k ≡ true
unfolding all_below
all_there zero test e k l = absurd (omega arith)
all_there (suc n) test e k l =
    let b = both_true (test n) (all_below n test) e in
    ⊎_elim (λ (z : k ≡ n). ap test z ∙ b.0) (λ (z : k < n). all_there n test b.1 k z) (last_or k n l)

few_or : ℕ → Bool
few_or code = leb (get_or arguments code 0) 4 || (eqb code 0x06 || eqb code 0x11)

computed : all_below 32 few_or ≡ true
unfolding all_below few_or arguments
computed = refl

few_arguments : (code : ℕ) → code < 32 → (code ≡ 0x06 → ⊥) → (code ≡ 0x11 → ⊥) → get_or arguments code 0 ≤ 4
unfolding few_or
few_arguments code l n m =
    ⊎_elim (λ (z : get_or arguments code 0 ≤ 4). z) (λ (z : (code ≡ 0x06) ⊎ (code ≡ 0x11)). absurd (⊎_elim n m z))
    ((one_of (at_most (get_or arguments code 0) 4) (one_of (equal code 0x06) (equal code 0x11))).sound (all_there 32 few_or computed code l))

-- ---- the sizes that the table allows
module _ {h x : ℕ} (f : Fitting h x) where
  sized : (code : ℕ) → h % 32 ≡ code → code < 0x1c → Sized (get_or arguments code 0) (h / 32 + 1) x
  sized code e l =
      let k = rw e at f.known in
      let b : h / 32 + 1 ≡ bytes_of h = size_some h (omega arith) in
      record { some_byte = omega arith; few = omega arith; small = rw (← b) at f.small }

  pub byte_sized : h % 32 ≡ 0x00 → Sized 1 (h / 32 + 1) x
  unfolding arguments
  byte_sized e = sized 0x00 e (omega arith)

  pub short_sized : h % 32 ≡ 0x02 → Sized 2 (h / 32 + 1) x
  unfolding arguments
  short_sized e = sized 0x02 e (omega arith)

  char_sized : h % 32 ≡ 0x03 → Sized 2 (h / 32 + 1) x
  unfolding arguments
  char_sized e = sized 0x03 e (omega arith)

  pub int_sized : h % 32 ≡ 0x04 → Sized 4 (h / 32 + 1) x
  unfolding arguments
  int_sized e = sized 0x04 e (omega arith)

  pub long_sized : h % 32 ≡ 0x06 → Sized 8 (h / 32 + 1) x
  unfolding arguments
  long_sized e = sized 0x06 e (omega arith)

  pub float_sized : h % 32 ≡ 0x10 → Sized 4 (h / 32 + 1) x
  unfolding arguments
  float_sized e = sized 0x10 e (omega arith)

  pub double_sized : h % 32 ≡ 0x11 → Sized 8 (h / 32 + 1) x
  unfolding arguments
  double_sized e = sized 0x11 e (omega arith)

  pub char_fits : h % 32 ≡ 0x03 → Fits w16 x
  char_fits e =
      let z = char_sized e in
      let f = z.few in
      let s = z.small in
      omega (arith, pow_mono {i = 8 * (h / 32 + 1)} {j = 16} (omega arith))

  -- every code but 06 and 11 allows 4 arguments at most
  pub index_fits : (h % 32 ≡ 0x06 → ⊥) → (h % 32 ≡ 0x11 → ⊥) → Fits w32 x
  index_fits n m =
      let a = few_arguments (h % 32) (omega arith) n m in
      let k = f.known in
      let b = size_most h in
      let s = f.small in
      omega (arith, pow_mono {i = 8 * bytes_of h} {j = 32} (omega arith))

-- ---- the kinds
module _ (code argument x : ℕ) {y : Shown} where
  pub rest_float : code ≡ 0x10 → y ≡ shown (float (raised 4 (argument + 1) x)) → y ≡ shown (rest_of code argument x)
  unfolding rest_of
  rest_float e k = rw (eq-eqb code 0x10 e) k

  pub rest_double : code ≡ 0x11 → y ≡ shown (double (raised 8 (argument + 1) x)) → y ≡ shown (rest_of code argument x)
  unfolding rest_of
  rest_double e k = rw e k

  pub rest_null : code ≡ 0x1e → y ≡ shown null → y ≡ shown (rest_of code argument x)
  unfolding rest_of
  rest_null e k = rw e k

  pub rest_boolean : code ≡ 0x1f → y ≡ shown (boolean (eqb argument 1)) → y ≡ shown (rest_of code argument x)
  unfolding rest_of
  rest_boolean e k = rw e k

  pub rest_index : (code ≡ 0x10 → ⊥) → (code ≡ 0x11 → ⊥) → (code ≡ 0x1e → ⊥) → (code ≡ 0x1f → ⊥) → y ≡ shown (index code x) → y ≡ shown (rest_of code argument x)
  unfolding rest_of
  rest_index a b c d k = rw (ne_eqb code 0x10 a, ne_eqb code 0x11 b, ne_eqb code 0x1e c, ne_eqb code 0x1f d) k

  pub plain_byte : code ≡ 0x00 → y ≡ shown (byte (signed (argument + 1) x)) → y ≡ shown (plain_of code argument x)
  unfolding plain_of
  plain_byte e k = rw e k

  pub plain_short : code ≡ 0x02 → y ≡ shown (short (signed (argument + 1) x)) → y ≡ shown (plain_of code argument x)
  unfolding plain_of
  plain_short e k = rw e k

  pub plain_char : code ≡ 0x03 → y ≡ shown (char x) → y ≡ shown (plain_of code argument x)
  unfolding plain_of
  plain_char e k = rw e k

  pub plain_int : code ≡ 0x04 → y ≡ shown (int (signed (argument + 1) x)) → y ≡ shown (plain_of code argument x)
  unfolding plain_of
  plain_int e k = rw e k

  pub plain_long : code ≡ 0x06 → y ≡ shown (long (signed (argument + 1) x)) → y ≡ shown (plain_of code argument x)
  unfolding plain_of
  plain_long e k = rw e k

  pub plain_rest : (code ≡ 0x00 → ⊥) → (code ≡ 0x02 → ⊥) → (code ≡ 0x03 → ⊥) → (code ≡ 0x04 → ⊥) → (code ≡ 0x06 → ⊥)
      → y ≡ shown (rest_of code argument x) → y ≡ shown (plain_of code argument x)
  unfolding plain_of
  plain_rest a b c d e k = rw (ne_eqb code 0x00 a, ne_eqb code 0x02 b, ne_eqb code 0x03 c, ne_eqb code 0x04 d, ne_eqb code 0x06 e) k

-- a float by its bits
pub float_by : (f : Format) (k : ℕ) {b r : ℕ} {v : Float} → b ≡ r → v ≡ of_bits f b → is k (floating b v) ≡ is k (floating r (of_bits f r))
float_by f k e h = λ i. is k (floating (e i) ((h ∙ ap (of_bits f) e) i))

-- ---- a nested body, behind its head byte at p
module _ (s : List ℕ) (w : Walk) (left p : ℕ) where
  module _ {q : ℕ} (e : answer q ≡ (array_at s w left (p + 1) >>= past)) where
    pub array_after : p ≤ q
    array_after = let b = (array_ends s w left (p + 1) e).after_place in omega arith

    pub array_some : 1 ≤ q - p
    array_some = let b = (array_ends s w left (p + 1) e).after_place in omega arith

    pub array_read : answer (record { item = is 0x1c (body (p + 1) (q - p - 1)); next = q }) ≡ decoded_array s w left (p + 1)
    unfolding decoded_array
    array_read =
        let r = past_answer (array_at s w left (p + 1)) e in
        let end = r.1.1 in
        let long : q - p - 1 ≡ r.0.next - (p + 1) = omega arith in
        (λ i. answer (record { item = is 0x1c (body (p + 1) (long i)); next = sym end i })) ∙ sym (bind_answer read_out (bind_answer (as_array (p + 1)) (sym r.1.0)))

  pub array_unread : {r : Refusal} → refused r ≡ (array_at s w left (p + 1) >>= past) → refused r ≡ decoded_array s w left (p + 1)
  unfolding decoded_array
  array_unread e = sym (bind_refused read_out (bind_refused (as_array (p + 1)) (sym (past_refused (array_at s w left (p + 1)) e))))

  module _ {q : ℕ} (e : answer q ≡ (annotation_at s w left (p + 1) >>= past)) where
    pub annotation_after : p ≤ q
    annotation_after = let b = (annotation_ends s w left (p + 1) e).after_place in omega arith

    pub annotation_some : 1 ≤ q - p
    annotation_some = let b = (annotation_ends s w left (p + 1) e).after_place in omega arith

    pub annotation_read : answer (record { item = is 0x1d (body (p + 1) (q - p - 1)); next = q }) ≡ decoded_annotation s w left (p + 1)
    unfolding decoded_annotation
    annotation_read =
        let r = past_answer (annotation_at s w left (p + 1)) e in
        let end = r.1.1 in
        let long : q - p - 1 ≡ r.0.next - (p + 1) = omega arith in
        (λ i. answer (record { item = is 0x1d (body (p + 1) (long i)); next = sym end i })) ∙ sym (bind_answer read_out (bind_answer (as_annotation (p + 1)) (sym r.1.0)))

  pub annotation_unread : {r : Refusal} → refused r ≡ (annotation_at s w left (p + 1) >>= past) → refused r ≡ decoded_annotation s w left (p + 1)
  unfolding decoded_annotation
  annotation_unread e = sym (bind_refused read_out (bind_refused (as_annotation (p + 1)) (sym (past_refused (annotation_at s w left (p + 1)) e))))

-- ---- a value
module _ (s : List ℕ) (w : Walk) (left p : ℕ) where
  pub value_unread : {r : Refusal} → refused r ≡ head_byte_at s w.item p → refused r ≡ decoded_at s w left p
  unfolding decoded_at
  value_unread e = sym (bind_refused read_out (no_value s w left p e))

  module _ {h : ℕ} (e : answer h ≡ head_byte_at s w.item p) where
    -- the value by its kind
    kind_is : decoded_at s w left p ≡ (kind_with s w (array_at s w left) (annotation_at s w left) h (p + 1) >>= read_out)
    unfolding decoded_at
    kind_is = ap (λ (o : Outcome (Found Tree ℕ)). o >>= read_out) (value_kind s w left p e)

    pub value_array : {y : Outcome (Found Shown ℕ)} → h % 32 ≡ 0x1c → y ≡ decoded_array s w left (p + 1) → y ≡ decoded_at s w left p
    unfolding decoded_array
    value_array c k = k ∙ sym (kind_is ∙ ap (λ (o : Outcome (Found Tree ℕ)). o >>= read_out) (kind_array s w (array_at s w left) (annotation_at s w left) h (p + 1) c))

    pub value_annotation : {y : Outcome (Found Shown ℕ)} → (h % 32 ≡ 0x1c → ⊥) → h % 32 ≡ 0x1d → y ≡ decoded_annotation s w left (p + 1) → y ≡ decoded_at s w left p
    unfolding decoded_annotation
    value_annotation n c k = k ∙ sym (kind_is ∙ ap (λ (o : Outcome (Found Tree ℕ)). o >>= read_out) (kind_annotation s w (array_at s w left) (annotation_at s w left) h (p + 1) n c))

    module _ (n : h % 32 ≡ 0x1c → ⊥) (m : h % 32 ≡ 0x1d → ⊥) where
      plain_is : decoded_at s w left p ≡ (plain_at s w h (p + 1) >>= read_out)
      plain_is = kind_is ∙ ap (λ (o : Outcome (Found Tree ℕ)). o >>= read_out) (kind_plain s w (array_at s w left) (annotation_at s w left) h (p + 1) n m)

      pub plain_unread : {r : Refusal} → refused r ≡ checked_at s w h (p + 1) → refused r ≡ decoded_at s w left p
      unfolding plain_at
      plain_unread f = sym (plain_is ∙ bind_refused read_out (bind_refused _ (sym f)))

      pub plain_read : {v q : ℕ} {y : Shown} → answer (record { item = v; next = q }) ≡ checked_at s w h (p + 1) → y ≡ shown (plain_of (h % 32) (h / 32) v) → answer (record { item = y; next = q }) ≡ decoded_at s w left p
      unfolding plain_at
      plain_read {q = q} f k = ap (λ (c : Shown). answer (record { item = c; next = q })) k ∙ sym (plain_is ∙ bind_answer read_out (bind_answer _ (sym f)))

    pub head_room : p < length s
    head_room = (head_there s w.item p e).room

    pub fitting : {v q : ℕ} → Small h (Ok (record { value = v; next = q })) → Fitting h v
    fitting k = record { known = (head_there s w.item p e).known; small = k.small refl }

pub ruleset kind_laws = (
  rest_float,
  rest_double,
  rest_null,
  rest_boolean,
  rest_index,
  plain_byte,
  plain_short,
  plain_char,
  plain_int,
  plain_long,
  plain_rest,
  byte_sized,
  short_sized,
  int_sized,
  long_sized,
  float_sized,
  double_sized,
  char_fits,
  index_fits,
  float_by,
  rules,
)

pub ruleset body_laws = (array_after, array_some, annotation_some, array_read, array_unread, annotation_after, annotation_read, annotation_unread, handed_on, rules)

pub ruleset value_laws = (value_unread, value_array, value_annotation, plain_unread, plain_read, head_room, fitting, after_head, handed_on, rules)
