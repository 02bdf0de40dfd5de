use Rattle.answer_rows.proofs.Laws.{heads as laws}
use Rattle.answer_rows.specs.Words.{joined_words}
use Rattle.answer_rows.proofs.heads.joined_row.Goals as goal

pub returns : goal.returns
unfolding joined_words
returns c = search laws
