use Rattle.report.proofs.Laws.{line_laws as laws}
use Rattle.report.proofs.put_word.Goals as goal

pub returns : goal.returns
returns c = search laws
