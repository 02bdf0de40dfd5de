-- What the functions' proofs cite: the loop of `weigh`, what its answer says of the three numbers, and their bounds.
-- Assumes nothing.
use Prim.Native.Nat.{ℕ, zero, suc, ◌+◌, ◌-◌, ◌*◌, ◌%◌, ◌^◌, ◌<◌, ◌≤◌}
use mathlib.Core.Path.{◌≡◌, refl, ap, sym, subst, ◌∙◌}
use mathlib.Core.Logic.{◌⊎◌, inl}
use mathlib.Core.Bool.{◌||◌}
use mathlib.Core.Option.{Option, none, some}
use mathlib.Core.List.{List, [], ◌∷◌, ◌++◌}
use lib.ListN.{length, get_or}
use lib.Dec.{lit≤}
use lib.IntN.{ℤ, pos, negsuc, ◌-ℤ◌}
use native.Mathlib.Nat.{pow-succ', one-le-pow, mul-le-mul_left, zero-add}
use native.Mathlib.Omega.{arith}
use borrow.Author.Rules.{rules}
use borrow.Author.Tests.{lt-ltb, le-ltb, le-leb, lt-leb}
use mir.Syntax.{w32, w64}
use mir.Val.{Fits, SFits, to_z, of_z}
use mir.ValLaws.{to_z_pos, to_z-of_z}
use Rattle.refusal.specs.Refusals.{malformed_number, runs_past}
use Rattle.refusal.specs.declared.Refusal.{Refusal}
use Rattle.refusal.specs.Outcome.{Outcome, answer, refused, ◌>>=◌, given}
use Rattle.refusal.specs.Rows.{Found, in_front}
use Rattle.refusal.proofs.Laws.{handed_on, calls, bind_answer, bind_refused, refused_by, passes, fails}
use Rattle.refusal.proofs.Exact.{never, answer_exact, bind_exact, at_most, one_of}
use Rattle.refusal.proofs.Rows.{after, after_none, after_front}
use Rattle.leb128.specs.Leb.{bytes_at, weight, scale, fifth, signed, less_one, uleb_at, sleb_at, plus_one_at, Weighing, weighing, weighed_at}
use Rattle.leb128.specs.Rules.{Bytes}
use Rattle.leb128.proofs.Weights.{weight_small, scale_more, weight_more, Fifth, fifth_byte}
use Rattle.leb128.proofs.Exactly.{number_exact, uleb_exact, sleb_exact, plus_one_exact}

-- ---- the ways of `bytes_at` while a byte may follow
module _ (s : List ℕ) (item p : ℕ) where
  bytes_end : (left : ℕ) → 0 < left → length s ≤ p → bytes_at left s item p ≡ refused (runs_past item)
  unfolding bytes_at given
  bytes_end zero l h = absurd (omega arith)
  bytes_end (suc left) l h = rw (le-ltb p (length s) h)

  bytes_last : (left : ℕ) → 0 < left → p < length s → get_or s p 0 < 128 → bytes_at left s item p ≡ answer (record { item = get_or s p 0 ∷ []; next = p + 1 })
  unfolding bytes_at given
  bytes_last zero l h q = absurd (omega arith)
  bytes_last (suc left) l h q = rw (lt-ltb p (length s) h, lt-ltb (get_or s p 0) 128 q)

  bytes_more : (left : ℕ) → 0 < left → p < length s → 128 ≤ get_or s p 0 → bytes_at left s item p ≡ (bytes_at (left - 1) s item (p + 1) >>= in_front (get_or s p 0))
  unfolding bytes_at given
  bytes_more zero l h q = absurd (omega arith)
  bytes_more (suc left) l h q =
      let back : suc left - 1 ≡ left = omega arith in
      rw (lt-ltb p (length s) h, le-ltb (get_or s p 0) 128 q, back)

-- The loop of `weigh` at its head: what was read is known by its weight and its scale, p is the next place and k says how many bytes were read.
pub record Head (s : List ℕ) (item at p value full k : ℕ) : Type 0 where
  front : List ℕ
  same : bytes_at 5 s item at ≡ (bytes_at (5 - k) s item p >>= after front)
  weight_is : weight front ≡ value
  scale_is : scale front ≡ full
  room : full * 128 ^ (5 - k) ≡ 2 ^ 35

pub head_first : (s : List ℕ) (item at : ℕ) → Head s item at at 0 1 0
unfolding weight scale
head_first s item at = record { front = []; same = after_none _; weight_is = refl; scale_is = refl; room = refl }

room_again : (left m : ℕ) → 0 < left → m * 128 ^ left ≡ 2 ^ 35 → m * 128 * 128 ^ (left - 1) ≡ 2 ^ 35
room_again zero m p e = absurd (omega arith)
room_again (suc left) m p e =
    let same : left ≡ suc left - 1 = omega arith in
    rw (← same) (omega (arith, rw (pow-succ' 128 left) at e))

-- how large the numbers of a turn are
record Turn (v m low : ℕ) : Type 0 where
  part : m * low ≤ m * 127
  next : v + m * low < m * 128
  fits : m * 128 ≤ 2 ^ 35

module _ {s : List ℕ} {item at p v m k : ℕ} (h : Head s item at p v m k) (l : k < 5) where
  one_left : 0 < 5 - k
  one_left = omega arith

  fewer : 5 - k - 1 ≡ 5 - (k + 1)
  fewer = omega arith

  turn : (low : ℕ) → low < 128 → Turn v m low
  turn low q =
      let part : m * low ≤ m * 127 = mul-le-mul_left m (omega arith) in
      let small = weight_small h.front in
      let a = h.weight_is in
      let b = h.scale_is in
      record { part = part; next = omega arith; fits = omega (arith, room_again (5 - k) m one_left h.room, mul-le-mul_left (m * 128) (one-le-pow (5 - k - 1) 128 (lit≤ tt))) }

  pub fits_part : Fits w64 (m * (get_or s p 0 % 128))
  fits_part = omega (arith, turn (get_or s p 0 % 128) (omega arith))

  pub fits_sum : Fits w64 (v + m * (get_or s p 0 % 128))
  fits_sum = omega (arith, turn (get_or s p 0 % 128) (omega arith))

  pub fits_scale : Fits w64 (m * 128)
  fits_scale = omega (arith, turn 0 (omega arith))

  pub head_end : {r : Refusal} → length s ≤ p → r ≡ runs_past item → refused r ≡ weighed_at s item at
  unfolding weighed_at
  head_end q made = refused_by made ∙ sym (bind_refused weighing (h.same ∙ bind_refused _ (bytes_end s item p (5 - k) one_left q)))

  grown : weight (h.front ++ get_or s p 0 ∷ []) ≡ v + m * (get_or s p 0 % 128)
  grown = weight_more h.front (get_or s p 0) ∙ (λ i. h.weight_is i + h.scale_is i * (get_or s p 0 % 128))

  scaled : scale (h.front ++ get_or s p 0 ∷ []) ≡ m * 128
  scaled = scale_more h.front (get_or s p 0) ∙ ap (λ (x : ℕ). x * 128) h.scale_is

  pub head_last : p < length s → get_or s p 0 < 128
      → answer (record { value = v + m * (get_or s p 0 % 128); full = m * 128; next = p + 1 }) ≡ weighed_at s item at
  unfolding weighed_at after
  head_last q b =
      sym (bind_answer weighing (h.same ∙ bind_answer _ (bytes_last s item p (5 - k) one_left q b)) ∙ (λ i. answer (record { value = grown i; full = scaled i; next = p + 1 })))

  pub head_more : p < length s → 128 ≤ get_or s p 0 → Head s item at (p + 1) (v + m * (get_or s p 0 % 128)) (m * 128) (k + 1)
  head_more q b = record {
    front = h.front ++ get_or s p 0 ∷ [];
    same = h.same ∙ ap (λ (o : Outcome (Found (List ℕ) ℕ)). o >>= after h.front) (bytes_more s item p (5 - k) one_left q b ∙ ap (λ (n : ℕ). bytes_at n s item (p + 1) >>= in_front (get_or s p 0)) fewer) ∙ after_front h.front (get_or s p 0) (bytes_at (5 - (k + 1)) s item (p + 1));
    weight_is = grown;
    scale_is = scaled;
    room = ap (λ (n : ℕ). m * 128 * 128 ^ n) (sym fewer) ∙ room_again (5 - k) m one_left h.room;
  }

pub head_full : {s : List ℕ} {item at p v m k : ℕ} {r : Refusal} → Head s item at p v m k → 5 ≤ k → r ≡ malformed_number item → refused r ≡ weighed_at s item at
unfolding weighed_at bytes_at
head_full {s} {item} {at} {p} {v} {m} {k} h q made =
    let none : 5 - k ≡ 0 = omega arith in
    refused_by made ∙ sym (bind_refused weighing (h.same ∙ bind_refused _ (ap (λ (n : ℕ). bytes_at n s item p) none)))

-- ---- signed numbers
-- -1 - k at 32 bits
minus : (k : ℕ) → negsuc 0 -ℤ pos k ≡ negsuc k
minus zero = refl
minus (suc k) = ap (λ (j : ℕ). negsuc (suc j)) (zero-add k)

minus_is : (k : ℕ) → k < 2 ^ 31 → negsuc 0 -ℤ to_z w32 k ≡ negsuc k
minus_is k h = rw (to_z_pos w32 k h) (minus k)

minus_fits : (k : ℕ) → k < 2 ^ 31 → SFits w32 (negsuc 0 -ℤ to_z w32 k)
minus_fits k h = rw (minus_is k h) (record { sfits = h })

minus_back : (k : ℕ) → k < 2 ^ 31 → to_z w32 (of_z w32 (negsuc 0 -ℤ to_z w32 k)) ≡ negsuc k
minus_back k h = to_z-of_z w32 _ (minus_fits k h) ∙ minus_is k h

signed_plus : (bs : List ℕ) → 2 * weight bs < scale bs → signed bs ≡ pos (weight bs)
unfolding signed
signed_plus bs h = rw (lt-ltb (2 * weight bs) (scale bs) h)

signed_minus : (bs : List ℕ) → scale bs ≤ 2 * weight bs → signed bs ≡ negsuc (scale bs - weight bs - 1)
unfolding signed
signed_minus bs h = rw (le-ltb (2 * weight bs) (scale bs) h)

-- ---- what `weigh` says of the numbers
-- the bytes behind its answer
record Behind (s : List ℕ) (item at v m n : ℕ) : Type 0 where
  bs : List ℕ
  read : bytes_at 5 s item at ≡ answer (record { item = bs; next = n })
  weight_is : weight bs ≡ v
  scale_is : scale bs ≡ m
  fifth_is : Fifth bs

module _ (s : List ℕ) (item at : ℕ) where
  behind : {w : Weighing} → answer w ≡ weighed_at s item at → Behind s item at w.value w.full w.next
  unfolding weighed_at
  behind {w} e =
      let rule = bind_exact _ (λ (r : Found (List ℕ) ℕ) (v : Weighing). record { value = weight r.item; full = scale r.item; next = r.next } ≡ v) (number_exact s item at) (λ r. answer_exact _) in
      let found = rule.sound w (sym e) in
      let same = found.1.1 in
      record {
        bs = found.0.item;
        read = (number_exact s item at).complete _ (subst (λ (q : ℕ). Bytes s at found.0.item q) (ap (λ (v : Weighing). v.next) same) found.1.0);
        weight_is = ap (λ (v : Weighing). v.value) same;
        scale_is = ap (λ (v : Weighing). v.full) same;
        fifth_is = fifth_byte found.0.item found.1.0.groups;
      }

  unread : {r : Refusal} → refused r ≡ weighed_at s item at → bytes_at 5 s item at ≡ refused r
  unfolding weighed_at ◌>>=◌
  unread {r} e = go (bytes_at 5 s item at) e
    where
      go : (o : Outcome (Found (List ℕ) ℕ)) → refused r ≡ (o >>= weighing) → o ≡ refused r
      go (answer a) h = absurd (never h)
      go (refused q) h = cc

  pub uleb_refused : {r : Refusal} → refused r ≡ weighed_at s item at → refused r ≡ uleb_at s item at
  unfolding uleb_at
  uleb_refused e = sym (bind_refused _ (unread e))

  pub sleb_refused : {r : Refusal} → refused r ≡ weighed_at s item at → refused r ≡ sleb_at s item at
  unfolding sleb_at
  sleb_refused e = sym (bind_refused _ (unread e))

  -- the unsigned number
  module _ {v m n : ℕ} (e : answer (record { value = v; full = m; next = n }) ≡ weighed_at s item at) where
    pub uleb_got : v < 2 ^ 32 → answer (record { item = v; next = n }) ≡ uleb_at s item at
    unfolding uleb_at
    uleb_got h =
        let b = behind e in
        let w = b.weight_is in
        let low = b.fifth_is.low (omega arith) in
        sym (bind_answer _ b.read ∙ sym (passes (malformed_number item) (le-leb (fifth b.bs) 0x0f low) (λ i. answer (record { item = sym w i; next = n }))))

    pub uleb_high : {r : Refusal} → 2 ^ 32 ≤ v → r ≡ malformed_number item → refused r ≡ uleb_at s item at
    unfolding uleb_at
    uleb_high h made =
        let b = behind e in
        let w = b.weight_is in
        let high = b.fifth_is.high (omega arith) in
        sym (bind_answer _ b.read ∙ sym (fails _ made (lt-leb (fifth b.bs) 0x0f high)))

    -- the signed number: a test on the fifth byte, and what is answered
    sleb_in : (fifth (behind e).bs ≤ 0x07) ⊎ (0x78 ≤ fifth (behind e).bs) → answer (record { item = signed (behind e).bs; next = n }) ≡ sleb_at s item at
    unfolding sleb_at
    sleb_in h = sym (bind_answer _ (behind e).read ∙ sym (passes (malformed_number item) ((one_of (at_most _ _) (at_most _ _)).complete h) refl))

    sleb_out : {r : Refusal} → (0x07 < fifth (behind e).bs) × (fifth (behind e).bs < 0x78) → r ≡ malformed_number item → refused r ≡ sleb_at s item at
    unfolding sleb_at
    sleb_out h made =
        sym (bind_answer _ (behind e).read ∙ sym (fails _ made (λ i. lt-leb (fifth (behind e).bs) 0x07 h.0 i || lt-leb 0x78 (fifth (behind e).bs) h.1 i)))

    pub fits_twice : Fits w64 (2 * v)
    fits_twice = let b = behind e in let w = b.weight_is in let f = b.scale_is in let z = weight_small b.bs in let k = b.fifth_is.most in omega arith

    pub below_scale : v ≤ m
    below_scale = let b = behind e in let w = b.weight_is in let f = b.scale_is in let z = weight_small b.bs in omega arith

    pub some_left : 1 ≤ m - v
    some_left = let b = behind e in let w = b.weight_is in let f = b.scale_is in let z = weight_small b.bs in omega arith

    pub fits_minus : m - v ≤ 2 ^ 31 → SFits w32 (negsuc 0 -ℤ to_z w32 (m - v - 1))
    fits_minus q = minus_fits (m - v - 1) (let z = some_left in omega arith)

    pub sleb_plus : 2 * v < m → v < 2 ^ 31 → answer (record { item = to_z w32 v; next = n }) ≡ sleb_at s item at
    sleb_plus p q =
        let b = behind e in
        let w = b.weight_is in
        let f = b.scale_is in
        ap (λ (z : ℤ). answer (record { item = z; next = n })) (to_z_pos w32 v q ∙ ap pos (sym w) ∙ sym (signed_plus b.bs (omega arith))) ∙ sleb_in (inl (b.fifth_is.plus_low (omega arith) (omega arith)))

    pub sleb_over : {r : Refusal} → 2 * v < m → 2 ^ 31 ≤ v → r ≡ malformed_number item → refused r ≡ sleb_at s item at
    sleb_over p q made =
        let b = behind e in
        let w = b.weight_is in
        let f = b.scale_is in
        sleb_out (b.fifth_is.plus_high (omega arith) (omega arith)) made

    pub sleb_minus : m ≤ 2 * v → m - v ≤ 2 ^ 31 → answer (record { item = to_z w32 (of_z w32 (negsuc 0 -ℤ to_z w32 (m - v - 1))); next = n }) ≡ sleb_at s item at
    sleb_minus p q =
        let b = behind e in
        let w = b.weight_is in
        let f = b.scale_is in
        let z = some_left in
        let same : m - v - 1 ≡ scale b.bs - weight b.bs - 1 = omega arith in
        ap (λ (y : ℤ). answer (record { item = y; next = n })) (minus_back (m - v - 1) (omega arith) ∙ ap negsuc same ∙ sym (signed_minus b.bs (omega arith)))
        ∙ sleb_in (b.fifth_is.minus_low (omega arith) (omega arith))

    pub sleb_under : {r : Refusal} → m ≤ 2 * v → 2 ^ 31 < m - v → r ≡ malformed_number item → refused r ≡ sleb_at s item at
    sleb_under p q made =
        let b = behind e in
        let w = b.weight_is in
        let f = b.scale_is in
        sleb_out (b.fifth_is.minus_high (omega arith) (omega arith)) made

-- ---- a number of one byte, before anything is weighed
weight_one : (b : ℕ) → b < 128 → weight (b ∷ []) ≡ b
unfolding weight
weight_one b h = omega arith

scale_one : (b : ℕ) → scale (b ∷ []) ≡ 128
unfolding scale
scale_one b = refl

module _ (s : List ℕ) (item at : ℕ) (h : at < length s) where
  pub uleb_one : get_or s at 0 < 128 → answer (record { item = get_or s at 0; next = at + 1 }) ≡ uleb_at s item at
  unfolding uleb_at
  uleb_one q =
      let w = weight_one (get_or s at 0) q in
      sym (bind_answer _ (bytes_last s item at 5 (omega arith) h q) ∙ sym (passes (malformed_number item) (le-leb 0 0x0f (omega arith)) (λ i. answer (record { item = sym w i; next = at + 1 }))))

  sleb_byte : (z : ℤ) → get_or s at 0 < 128 → z ≡ signed (get_or s at 0 ∷ []) → answer (record { item = z; next = at + 1 }) ≡ sleb_at s item at
  unfolding sleb_at
  sleb_byte z q e =
      sym (bind_answer _ (bytes_last s item at 5 (omega arith) h q) ∙ sym (passes (malformed_number item) ((one_of (at_most 0 0x07) (at_most 0x78 0)).complete (inl (omega arith))) (λ i. answer (record { item = e i; next = at + 1 }))))

  pub sleb_one : get_or s at 0 < 64 → answer (record { item = to_z w32 (get_or s at 0); next = at + 1 }) ≡ sleb_at s item at
  sleb_one q =
      let b = get_or s at 0 in
      let w = weight_one b (omega arith) in
      let f = scale_one b in
      sleb_byte (to_z w32 b) (omega arith) (to_z_pos w32 b (omega arith) ∙ ap pos (sym w) ∙ sym (signed_plus (b ∷ []) (omega arith)))

  pub sleb_below : 64 ≤ get_or s at 0 → get_or s at 0 < 128 → answer (record { item = to_z w32 (of_z w32 (negsuc 0 -ℤ to_z w32 (127 - get_or s at 0))); next = at + 1 }) ≡ sleb_at s item at
  sleb_below p q =
      let b = get_or s at 0 in
      let w = weight_one b q in
      let f = scale_one b in
      let same : 127 - b ≡ scale (b ∷ []) - weight (b ∷ []) - 1 = omega arith in
      sleb_byte _ q (minus_back (127 - b) (omega arith) ∙ ap negsuc same ∙ sym (signed_minus (b ∷ []) (omega arith)))

  pub byte_minus : SFits w32 (negsuc 0 -ℤ to_z w32 (127 - get_or s at 0))
  byte_minus = minus_fits (127 - get_or s at 0) (omega arith)

-- ---- a plus-one number
abbrev read : Option ℕ → ℕ → Outcome (Found (Option ℕ) ℕ)
read o n = answer (record { item = o; next = n })

module _ {v n : ℕ} where
  pub plus_some : 0 < v → read (some (v - 1)) n ≡ read (less_one v) n
  unfolding less_one
  plus_some h = go v h
    where
      go : (k : ℕ) → 0 < k → read (some (k - 1)) n ≡ read (less_one k) n
      go zero p = absurd (omega arith)
      go (suc k) p = let back : suc k - 1 ≡ k = omega arith in rw back

  pub plus_none : v ≤ 0 → read none n ≡ read (less_one v) n
  unfolding less_one
  plus_none h = let z : v ≡ 0 = omega arith in rw z

-- ---- bounds: a number ends after its place, and within five bytes and the slice
pub record Span (s : List ℕ) (p next : ℕ) : Type 0 where
  pub after_place : p < next
  pub within : next ≤ p + 5
  pub inside : next ≤ length s

span : {s : List ℕ} {p next : ℕ} {bs : List ℕ} → Bytes s p bs next → Span s p next
span b =
    let e = b.stands.ends in
    let some_byte = b.groups.some_byte in
    let few = b.groups.few in
    record { after_place = omega arith; within = omega arith; inside = b.stands.inside }

module _ (s : List ℕ) (item p : ℕ) where
  pub uleb_span : {r : Found ℕ ℕ} → uleb_at s item p ≡ answer r → Span s p r.next
  uleb_span {r} e = span ((uleb_exact s item p).sound r e).bytes

  pub sleb_span : {r : Found ℤ ℕ} → sleb_at s item p ≡ answer r → Span s p r.next
  sleb_span {r} e = span ((sleb_exact s item p).sound r e).bytes

  pub plus_one_span : {r : Found (Option ℕ) ℕ} → plus_one_at s item p ≡ answer r → Span s p r.next
  plus_one_span {r} e = span ((plus_one_exact s item p).sound r e).uleb.bytes

  -- the same, from what a call answered
  pub leb_span : {r : Found ℕ ℕ} → answer r ≡ uleb_at s item p → Span s p r.next
  leb_span e = uleb_span (sym e)

  pub signed_span : {r : Found ℤ ℕ} → answer r ≡ sleb_at s item p → Span s p r.next
  signed_span e = sleb_span (sym e)

-- what this crate's functions are searched with
pub ruleset weighing_laws = (head_first, head_end, head_last, head_more, head_full, fits_part, fits_sum, fits_scale, rules)

pub ruleset uleb_laws = (handed_on, uleb_one, uleb_refused, uleb_got, uleb_high, rules)

pub ruleset sleb_laws = (handed_on, sleb_one, sleb_below, byte_minus, sleb_refused, sleb_plus, sleb_over, sleb_minus, sleb_under, fits_twice, below_scale, some_left, fits_minus, rules)

pub ruleset plus_one_laws = (plus_some, plus_none, calls, rules)
