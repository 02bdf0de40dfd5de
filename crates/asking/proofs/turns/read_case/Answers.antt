use Rattle.asking.proofs.QuestionLaws.{turn_laws as laws}
use Rattle.asking.proofs.turns.read_case.Goals as goal

pub returns-then-read_rest : goal.returns-then-read_rest
returns-then-read_rest c = search laws
