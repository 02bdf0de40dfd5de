use Rattle.asking.proofs.QuestionLaws.{question_laws as laws}
use Rattle.asking.proofs.questions.number_at.Goals as goal

pub returns-then-width-eq1 : goal.returns-then-width-eq1
returns-then-width-eq1 c = search laws

pub returns-then-width-eq2 : goal.returns-then-width-eq2
returns-then-width-eq2 c = search laws

pub returns : goal.returns
returns c = search laws
