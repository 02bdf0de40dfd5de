use lib.ListN.{length}
use mathlib.Core.Path.{◌≡◌}
use Rattle.checking.proofs.arguments.Given as goal

abbrev pub invariant-loop-i : goal.invariant-loop-i
invariant-loop-i g l = (4096 ≡ length l.path) × (65537 ≡ length l.room)
