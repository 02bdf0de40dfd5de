use Rattle.report.proofs.Laws.{three_laws as laws}
use Rattle.report.proofs.put_three.Goals as goal

pub returns : goal.returns
returns c = search laws
