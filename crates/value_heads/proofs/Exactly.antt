-- The readings find exactly what the rules allow: head bytes, numbers and indices.
-- Assumes nothing.
use Prim.Native.Nat.{ℕ, ◌+◌, ◌%◌, ◌/◌, ◌<◌, ◌≤◌}
use mathlib.Core.Path.{◌≡◌, refl, ap, sym, subst, ◌∙◌}
use mathlib.Core.Bool.{Bool, true, false, cond, false≢true}
use mathlib.Core.List.{List}
use lib.ListN.{length, get_or}
use native.Mathlib.Omega.{arith}
use Rattle.refusal.specs.Refusals.{runs_past, wrong_index, wrong_value}
use Rattle.refusal.specs.Rows.{Found}
use Rattle.refusal.specs.Exact.{Exact, Decides}
use Rattle.refusal.proofs.Exact.{below, at_most, both, given_exact, answer_exact, bind_exact, exact_iff}
use Rattle.word.specs.Bytes.{stretch}
use Rattle.word.proofs.Laws.{length_stretch}
use Rattle.leb128.proofs.Exactly.{uleb_exact}
use Rattle.value_heads.specs.declared.Walk.{Walk}
use Rattle.value_heads.specs.Kinds.{arguments, allowed_head, is_index, count_of, in_range}
use Rattle.value_heads.specs.Numbers.{little}
use Rattle.value_heads.specs.Readings.{head_byte_at, number_at, index_at}
use Rattle.value_heads.specs.Rules.{HeadByteRule, NumberRule, IndexRule}

-- ---- the head byte
pub known_decides : (h : ℕ) → Decides (allowed_head h) (h / 32 < get_or arguments (h % 32) 0)
unfolding allowed_head
known_decides h = below (h / 32) (get_or arguments (h % 32) 0)

pub head_exact : (s : List ℕ) (item p : ℕ) → Exact (head_byte_at s item p) (HeadByteRule s p)
unfolding head_byte_at
head_exact s item p =
    exact_iff (given_exact (runs_past item) (below p (length s)) (given_exact (wrong_value item) (known_decides (get_or s p 0)) (answer_exact (get_or s p 0))))
    (λ h k. record { room = k.0; byte = k.1.1; known = rw k.1.1 at k.1.0 })
    (λ h k. (k.room, (rw (← k.byte) at k.known, k.byte)))

-- ---- the bytes and the index of a value that is no body
pub number_exact : (s : List ℕ) (item p n : ℕ) → Exact (number_at s item p n) (NumberRule s p n)
unfolding number_at
number_exact s item p n =
    exact_iff (given_exact (runs_past item) (at_most (p + n) (length s)) (answer_exact (record { item = little (stretch s p n); next = p + n })))
    (λ r h. subst (NumberRule s p n) h.1 (found h.0))
    (λ r h. let e = h.stands.ends in let i = h.stands.inside in let z = h.size in
    (omega arith, λ i. record { item = worth h i; next = ends h i }))
  where
    found : p + n ≤ length s → NumberRule s p n (record { item = little (stretch s p n); next = p + n })
    found l =
        let z = length_stretch s p n in
        record { bs = stretch s p n; stands = record { bytes_there = ap (stretch s p) z; ends = ap (λ (k : ℕ). p + k) z; inside = l }; size = z; value = refl }

    worth : {r : Found ℕ ℕ} (h : NumberRule s p n r) → little (stretch s p n) ≡ r.item
    worth h = ap (λ (k : ℕ). little (stretch s p k)) (sym h.size) ∙ ap little h.stands.bytes_there ∙ h.value

    ends : {r : Found ℕ ℕ} (h : NumberRule s p n r) → p + n ≡ r.next
    ends h = let e = h.stands.ends in let z = h.size in omega arith

index_decides : (code : ℕ) → Decides (is_index code) ((0x15 ≤ code) × (code < 0x1c))
unfolding is_index
index_decides code = both (at_most 0x15 code) (below code 0x1c)

-- a test that is asked only where a fact holds
where_asked : {i t : Bool} {F G : Type 0} → Decides i F → Decides t G → Decides (cond i t true) (F → G)
where_asked {i} {t} {F} {G} d e = go i refl
  where
    go : (b : Bool) → i ≡ b → Decides (cond b t true) (F → G)
    go true q = record { sound = λ h f. e.sound h; complete = λ h. e.complete (h (d.sound q)) }
    go false q = record { sound = λ h f. absurd (false≢true (sym q ∙ d.complete f)); complete = λ h. refl }

pub range_decides : (w : Walk) (code x : ℕ) → Decides (in_range w code x) ((0x15 ≤ code) × (code < 0x1c) → x < count_of w code)
unfolding in_range
range_decides w code x = where_asked (index_decides code) (below x (count_of w code))

pub index_exact : (s : List ℕ) (item count p : ℕ) → Exact (index_at s item count p) (IndexRule s count p)
unfolding index_at
index_exact s item count p =
    exact_iff (bind_exact _ _ (uleb_exact s item p) (λ n. given_exact (wrong_index item) (below n.item count) (answer_exact n)))
    (λ r h. subst (IndexRule s count p) h.1.1.1 (record { uleb = h.1.0; range = h.1.1.0 }))
    (λ r h. (r, (h.uleb, (h.range, refl))))
