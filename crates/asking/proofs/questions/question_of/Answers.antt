use Rattle.asking.proofs.QuestionLaws.{question_laws as laws}
use Rattle.asking.proofs.questions.question_of.Goals as goal

pub returns : goal.returns
returns c = search laws
