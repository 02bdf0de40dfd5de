-- The reading of a head finds exactly what the rule allows.
-- Assumes nothing.
use Prim.Native.Nat.{ℕ, ◌+◌}
use mathlib.Core.Bool.{false}
use mathlib.Core.List.{List}
use lib.ListN.{length}
use native.Mathlib.Omega.{arith}
use Rattle.refusal.specs.Refusals.{runs_past, wrong_offset}
use Rattle.refusal.specs.Exact.{Exact}
use Rattle.refusal.proofs.Exact.{answer_exact, given_exact, exact_iff, at_most}
use Rattle.word.specs.Words.{u32_at}
use Rattle.frame.specs.declared.Frame.{Frame}
use Rattle.frame.proofs.Laws.{or_absent_decides}
use Rattle.code_heads.specs.Heads.{code_head_at}
use Rattle.code_heads.specs.Rules.{read_head, CodeHeadRule}

pub head_exact : (s : List ℕ) (f : Frame) (item : ℕ) → Exact (code_head_at s f item) (CodeHeadRule s f item)
unfolding code_head_at
head_exact s f item =
    exact_iff (given_exact (runs_past item) (at_most (item + 12) (length s)) (given_exact (wrong_offset item) (or_absent_decides f.start (length s) false (u32_at f.order s (item + 8)))
    (given_exact (runs_past item) (at_most (item + 16) (length s)) (answer_exact (read_head f.order s item)))))
    (λ h e. record { room = e.1.1.0; debug = e.1.0; fields = e.1.1.1 })
    (λ h e. let room = e.room in (omega arith, (e.debug, (room, e.fields))))
