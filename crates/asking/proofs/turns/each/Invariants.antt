use mathlib.Core.Path.{◌≡◌}
use lib.ListN.{length}
use Rattle.asking.specs.Turns.{to_go}
use Rattle.asking.proofs.turns.each.Given as goal

-- It ends, since each question leaves less to be asked.

abbrev pub invariant-loop-turn : goal.invariant-loop-turn
invariant-loop-turn g l = 65536 ≡ length l.room

abbrev pub decreases-loop-turn : goal.decreases-loop-turn
decreases-loop-turn g l = to_go l.turn
