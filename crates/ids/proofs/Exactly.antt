-- The records' readings find exactly what the rules allow; and no two type numbers name the same string.
-- Assumes nothing.
use Prim.Native.Nat.{ℕ, ◌+◌, ◌*◌, ◌≤◌, ◌<◌}
use mathlib.Core.Path.{◌≡◌, refl, sym, subst}
use mathlib.Core.Logic.{◌⊎◌, inl, inr}
use mathlib.Core.Bool.{true}
use mathlib.Core.List.{List}
use lib.Dec.{ltb, leb}
use native.Mathlib.Omega.{arith}
use Rattle.refusal.specs.Refusals.{out_of_order, unknown_kind, wrong_index, wrong_offset}
use Rattle.refusal.specs.Exact.{Exact, At, Strict}
use Rattle.refusal.proofs.Exact.{answer_exact, given_exact, either_exact, exact_iff, below, at_most, or_not}
use Rattle.refusal.proofs.Each.{in_turn_exact, rising_apart}
use Rattle.word.specs.Words.{u16_at, u32_at}
use Rattle.frame.specs.declared.Frame.{Frame}
use Rattle.frame.specs.Offsets.{AllowedOrAbsent}
use Rattle.frame.proofs.Laws.{or_absent_decides}
use Rattle.ids.specs.declared.Handle.{Handle}
use Rattle.ids.specs.Records.{type_of, type_at, types_at, proto_of, proto_at, member_id_of, member_id_at, handle_of, handle_at}
use Rattle.ids.specs.Rules.{TypeRule, TypeTableRule, ProtoRule, MemberIdRule, HandleRule}

module _ (f : List ℕ) (r : Frame) (offset : ℕ) where
  pub type_exact : (n : ℕ) → Exact (type_at f r offset n) (TypeRule f r offset n)
  unfolding type_at type_of
  type_exact n =
      exact_iff (given_exact (wrong_index (offset + 4 * n)) (below (u32_at r.order f (offset + 4 * n)) r.strings) (answer_exact _))
      (λ v h. record { stands = h.1; range = subst (λ (x : ℕ). x < r.strings) h.1 h.0 })
      (λ v h. (subst (λ (x : ℕ). x < r.strings) (sym h.stands) h.range, h.stands))

  pub types_exact : (count : ℕ) → Exact (types_at f r offset count) (TypeTableRule f r offset count)
  unfolding types_at
  types_exact count =
      exact_iff (in_turn_exact (TypeRule f r offset) ◌<◌ (type_at f r offset) ltb (λ (n : ℕ). out_of_order (offset + 4 * n)) type_exact below count)
      (λ l h. record { each = h.0; order = h.1 })
      (λ l h. (h.each, h.order))

  rising : Strict ◌<◌
  rising = record { never = λ h. omega arith; onward = λ h k. omega arith }

  -- no two type numbers name the same string
  pub types_distinct : {count i k a b : ℕ} {l : List ℕ} → TypeTableRule f r offset count l → At l i a → At l k b → a ≡ b → i ≡ k
  types_distinct t m n e = rising_apart rising t.order m n (λ h. omega arith) (λ h. omega arith)

  pub proto_exact : (end n : ℕ) → Exact (proto_at f r end offset n) (ProtoRule f r end offset n)
  unfolding proto_at proto_of
  proto_exact end n =
      let p = offset + 12 * n in
      exact_iff
      (given_exact (wrong_index p) (below (u32_at r.order f p) r.strings) (given_exact (wrong_index p) (below (u32_at r.order f (p + 4)) r.types) (given_exact (wrong_offset p) (or_absent_decides r.start end true (u32_at r.order f (p + 8))) (answer_exact _))))
      (λ x h. subst (ProtoRule f r end offset n) h.1.1.1 (record { shorty = refl; returns = refl; parameters = refl; shorty_range = h.0; return_range = h.1.0; place = h.1.1.0 }))
      (λ x h. (
        subst (λ (v : ℕ). v < r.strings) (sym h.shorty) h.shorty_range,
        (
          subst (λ (v : ℕ). v < r.types) (sym h.returns) h.return_range,
          (subst (AllowedOrAbsent r.start end true) (sym h.parameters) h.place, λ i. record { shorty = h.shorty i; return_type = h.returns i; parameters = h.parameters i }),
        ),
      ))

  pub member_exact : (kinds n : ℕ) → Exact (member_id_at f r kinds offset n) (MemberIdRule f r kinds offset n)
  unfolding member_id_at member_id_of
  member_exact kinds n =
      let p = offset + 8 * n in
      exact_iff
      (given_exact (wrong_index p) (below (u16_at r.order f p) r.types) (given_exact (wrong_index p) (below (u16_at r.order f (p + 2)) kinds) (given_exact (wrong_index p) (below (u32_at r.order f (p + 4)) r.strings) (answer_exact _))))
      (λ x h. subst (MemberIdRule f r kinds offset n) h.1.1.1 (record { class = refl; kind = refl; name = refl; class_range = h.0; kind_range = h.1.0; name_range = h.1.1.0 }))
      (λ x h. (
        subst (λ (v : ℕ). v < r.types) (sym h.class) h.class_range,
        (
          subst (λ (v : ℕ). v < kinds) (sym h.kind) h.kind_range,
          (subst (λ (v : ℕ). v < r.strings) (sym h.name) h.name_range, λ i. record { class = h.class i; kind = h.kind i; name = h.name i }),
        ),
      ))

  pub handle_exact : (n : ℕ) → Exact (handle_at f r offset n) (HandleRule f r offset n)
  unfolding handle_at handle_of
  handle_exact n =
      exact_iff
      (given_exact (unknown_kind (offset + 8 * n)) (at_most (u16_at r.order f (offset + 8 * n)) 8) (either_exact (at_most (u16_at r.order f (offset + 8 * n)) 3)
      (given_exact (wrong_index (offset + 8 * n)) (below (u16_at r.order f (offset + 8 * n + 4)) r.fields) (answer_exact _))
      (given_exact (wrong_index (offset + 8 * n)) (below (u16_at r.order f (offset + 8 * n + 4)) r.methods) (answer_exact _))))
      (λ x h. there_from x h.0 h.1)
      back
    where
      k : ℕ
      k = u16_at r.order f (offset + 8 * n)

      v : ℕ
      v = u16_at r.order f (offset + 8 * n + 4)

      Ways : Handle → Type 0
      Ways x = ((k ≤ 3) × ((v < r.fields) × (record { kind = k; number = v } ≡ x))) ⊎ ((k ≤ 3 → ⊥) × ((v < r.methods) × (record { kind = k; number = v } ≡ x)))

      there_from : (x : Handle) → k ≤ 8 → Ways x → HandleRule f r offset n x
      there_from x p (inl w) = subst (HandleRule f r offset n) w.1.1 (record { kind = refl; number = refl; known = p; field = λ q. w.1.0; method = λ q. absurd (let z = w.0 in omega arith) })
      there_from x p (inr w) = subst (HandleRule f r offset n) w.1.1 (record { kind = refl; number = refl; known = p; field = λ q. absurd (w.0 q); method = λ q. w.1.0 })

      back : (x : Handle) → HandleRule f r offset n x → (k ≤ 8) × Ways x
      back x h = (let a = h.kind in let b = h.known in omega arith, by_kind (or_not (leb k 3) (at_most k 3)))
        where
          same_one : record { kind = k; number = v } ≡ x
          same_one = λ i. record { kind = h.kind i; number = h.number i }

          by_kind : (k ≤ 3) ⊎ (k ≤ 3 → ⊥) → Ways x
          by_kind (inl p) = inl (p, (subst (λ (y : ℕ). y < r.fields) (sym h.number) (h.field (subst (λ (y : ℕ). y ≤ 3) h.kind p)), same_one))
          by_kind (inr p) = inr (p, (subst (λ (y : ℕ). y < r.methods) (sym h.number) (h.method (subst (λ (y : ℕ). 3 < y) h.kind (omega arith))), same_one))
