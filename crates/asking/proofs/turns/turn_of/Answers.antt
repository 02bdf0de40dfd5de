use Rattle.asking.proofs.QuestionLaws.{turn_laws as laws}
use Rattle.asking.proofs.turns.turn_of.Goals as goal

pub returns : goal.returns
returns c = search laws
