use Rattle.map_list.proofs.Codes.{Searching}
use Rattle.map_list.proofs.code_of.Given as goal

abbrev pub invariant-loop-i : goal.invariant-loop-i
invariant-loop-i l = Searching l.kind l.i
