-- What the functions' proofs cite: a reading from the values that were read.
-- Assumes nothing.
use Prim.Native.Nat.{ℕ, ◌+◌, ◌*◌}
use mathlib.Core.Path.{◌≡◌}
use mathlib.Core.List.{List}
use borrow.Author.Rules.{rules}
use Rattle.refusal.specs.Outcome.{Outcome}
use Rattle.refusal.proofs.Laws.{tests, calls}
use Rattle.word.specs.Words.{u16_at, u32_at}
use Rattle.frame.specs.declared.Frame.{Frame}
use Rattle.ids.specs.declared.Proto.{Proto}
use Rattle.ids.specs.declared.MemberId.{MemberId}
use Rattle.ids.specs.declared.Handle.{Handle}
use Rattle.ids.specs.Records.{type_of, type_at, proto_of, proto_at, member_id_of, member_id_at, handle_of, handle_at}

module _ (f : List ℕ) (r : Frame) (offset n : ℕ) where
  pub type_by : {v : ℕ} {y : Outcome ℕ} → v ≡ u32_at r.order f (offset + 4 * n) → y ≡ type_of r (offset + 4 * n) v → y ≡ type_at f r offset n
  unfolding type_at
  type_by e h = rw (← e) h

  pub proto_by : (end : ℕ) {a b c : ℕ} {y : Outcome Proto} → a ≡ u32_at r.order f (offset + 12 * n) → b ≡ u32_at r.order f (offset + 12 * n + 4) → c ≡ u32_at r.order f (offset + 12 * n + 8)
      → y ≡ proto_of r end (offset + 12 * n) a b c → y ≡ proto_at f r end offset n
  unfolding proto_at
  proto_by end e g k h = rw (← e, ← g, ← k) h

  pub member_by : (kinds : ℕ) {a b c : ℕ} {y : Outcome MemberId} → a ≡ u16_at r.order f (offset + 8 * n) → b ≡ u16_at r.order f (offset + 8 * n + 2) → c ≡ u32_at r.order f (offset + 8 * n + 4)
      → y ≡ member_id_of r kinds (offset + 8 * n) a b c → y ≡ member_id_at f r kinds offset n
  unfolding member_id_at
  member_by kinds e g k h = rw (← e, ← g, ← k) h

  pub handle_by : {a b : ℕ} {y : Outcome Handle} → a ≡ u16_at r.order f (offset + 8 * n) → b ≡ u16_at r.order f (offset + 8 * n + 4) → y ≡ handle_of r (offset + 8 * n) a b → y ≡ handle_at f r offset n
  unfolding handle_at
  handle_by e g h = rw (← e, ← g) h

pub ruleset own_laws = (type_by, proto_by, member_by, handle_by, calls, tests, rules)
