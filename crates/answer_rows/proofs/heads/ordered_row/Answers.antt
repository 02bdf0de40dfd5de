use Rattle.answer_rows.proofs.Laws.{heads as laws}
use Rattle.answer_rows.specs.Words.{ordered_words}
use Rattle.answer_rows.proofs.heads.ordered_row.Goals as goal

pub returns : goal.returns
unfolding ordered_words
returns c = search laws
