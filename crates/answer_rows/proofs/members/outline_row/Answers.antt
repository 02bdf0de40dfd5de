use Rattle.answer_rows.proofs.Laws.{heads as laws}
use Rattle.answer_rows.specs.Words.{outline_words}
use Rattle.answer_rows.proofs.members.outline_row.Goals as goal

pub returns : goal.returns
unfolding outline_words
returns c = search laws
