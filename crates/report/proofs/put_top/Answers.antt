use Rattle.report.proofs.Laws.{top_laws as laws}
use Rattle.report.proofs.put_top.Goals as goal

pub returns : goal.returns
returns c = search laws
