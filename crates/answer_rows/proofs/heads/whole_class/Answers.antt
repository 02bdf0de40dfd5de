use Rattle.answer_rows.proofs.Laws.{heads as laws}
use Rattle.answer_rows.proofs.heads.whole_class.Goals as goal

pub returns : goal.returns
returns c = search laws
