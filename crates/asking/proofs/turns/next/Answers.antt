use Rattle.asking.proofs.QuestionLaws.{turn_laws as laws}
use Rattle.asking.proofs.turns.next.Goals as goal

pub returns-then-size-t : goal.returns-then-size-t
returns-then-size-t c = search laws
