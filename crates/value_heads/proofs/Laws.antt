-- What the proofs of the functions cite: the ways through the head byte, the bytes and the index.
-- Assumes nothing.
use Prim.Native.Nat.{ℕ, ◌+◌, ◌*◌, ◌^◌, ◌<◌, ◌≤◌}
use mathlib.Core.Path.{◌≡◌, ap, sym, ◌∙◌}
use mathlib.Core.Bool.{Bool, true, false}
use mathlib.Core.List.{List}
use lib.ListN.{length}
use lib.Dec.{leb, ltb}
use native.Mathlib.Omega.{arith}
use borrow.Author.Rules.{rules}
use borrow.Author.Tests.{le-leb, lt-leb, lt-ltb, le-ltb, eq-eqb, ne_eqb}
use mir.Syntax.{w8, w64}
use mir.Val.{Fits}
use Rattle.refusal.specs.Refusals.{runs_past}
use Rattle.refusal.specs.declared.Refusal.{Refusal}
use Rattle.refusal.specs.Outcome.{answer, refused, given}
use Rattle.refusal.proofs.Laws.{tests, calls, refused_by}
use Rattle.word.specs.Bytes.{stretch}
use Rattle.value_heads.specs.declared.Walk.{Walk}
use Rattle.std.specs.Prelude.{Result, Ok, Err}
use Rattle.refusal.specs.declared.Read.{Read}
use Rattle.value_heads.specs.Kinds.{bytes_of, is_index, count_of, in_range}
use Rattle.value_heads.specs.Numbers.{little}
use Rattle.value_heads.specs.Readings.{head_byte_at, number_at}
use Rattle.value_heads.specs.Rules.{HeadByteRule}
use Rattle.value_heads.specs.Answers.{Small}
use Rattle.value_heads.proofs.Numbers.{size_some, size_none, size_small}
use Rattle.word.proofs.Laws.{room_there, room_fits}
use Rattle.value_heads.proofs.Exactly.{head_exact}

-- ---- the table
module _ (code : ℕ) where
  pub index_any : 0x15 ≤ code → code ≤ 0x1b → true ≡ is_index code
  unfolding is_index
  index_any l h = rw (le-leb 0x15 code l, lt-ltb code 0x1c (omega arith))

  pub index_high : 0x1b < code → false ≡ is_index code
  unfolding is_index
  index_high h = rw (le-leb 0x15 code (omega arith), le-ltb code 0x1c (omega arith))

  pub index_low : code < 0x15 → false ≡ is_index code
  unfolding is_index
  index_low h = rw (lt-leb 0x15 code h)

module _ (w : Walk) (code x : ℕ) {i : Bool} (e : i ≡ is_index code) where
  pub range_index : {l : ℕ} → i ≡ true → l ≡ count_of w code → ltb x l ≡ in_range w code x
  unfolding in_range
  range_index t c = rw (sym e ∙ t, ← c)

  pub range_other : i ≡ false → true ≡ in_range w code x
  unfolding in_range
  range_other t = rw (sym e ∙ t)

-- ---- the head byte
module _ (s : List ℕ) (item p : ℕ) {h : ℕ} (e : answer h ≡ head_byte_at s item p) where
  pub head_there : HeadByteRule s p h
  head_there = (head_exact s item p).sound h (sym e)

  pub after_head : Fits w64 (length s) → Fits w64 (p + 1)
  after_head f = let r = head_there.room in omega arith

-- ---- the bytes behind a head byte
module _ (s : List ℕ) (item at h : ℕ) {n : ℕ} (size : n ≡ bytes_of h) {t : Bool} (room : t ≡ leb (at + n) (length s)) where
  pub number_got : {v : ℕ} → t ≡ true → v ≡ little (stretch s at n) → answer (record { item = v; next = at + n }) ≡ number_at s item at (bytes_of h)
  unfolding number_at given
  number_got m e = rw (← size, ← room, m) (λ i. answer (record { item = e i; next = at + n }))

  pub number_short : {r : Refusal} → t ≡ false → r ≡ runs_past item → refused r ≡ number_at s item at (bytes_of h)
  unfolding number_at given
  number_short m made = rw (← size, ← room, m) (refused_by made)

pub size_few : {h n : ℕ} → n ≡ bytes_of h → Fits w8 h → n ≤ 8
size_few {h} e f = let z = size_small h (omega arith) in omega arith

-- ---- what its number may be
same_value : {v n u m : ℕ} → ◌≡◌ {A = Result (Read ℕ) Refusal} (Ok (record { value = v; next = n })) (Ok (record { value = u; next = m })) → v ≡ u
same_value {v} {n} {u} {m} e = let same : record { value = v; next = n } ≡ record { value = u; next = m } = cc in ap (λ (r : Read ℕ). r.value) same

module _ {h : ℕ} where
  pub small_got : {v n k : ℕ} → k ≡ bytes_of h → v < 2 ^ (8 * k) → Small h (Ok (record { value = v; next = n }))
  small_got e l = record { small = λ t. rw (← same_value t, ← e) l }

  pub small_refused : {r : Refusal} → Small h (Err r)
  small_refused = record { small = λ t. absurd (let z : ◌≡◌ {A = ℕ} 0 1 = cc in omega arith) }

-- what the functions are searched with
pub ruleset kind_laws = (size_some, size_none, index_any, index_high, index_low, range_index, range_other, rules)

pub ruleset limit_laws = (eq-eqb, ne_eqb, rules)

pub ruleset head_laws = (calls, tests, rules)

pub ruleset number_laws = (number_got, number_short, room_there, room_fits, size_few, small_got, small_refused, rules)

pub ruleset checked_laws = (small_refused, calls, tests, rules)
