use Rattle.report.proofs.Laws.{put_laws as laws}
use Rattle.asking.proofs.lines.put.Goals as goal

pub returns : goal.returns
returns c = search laws
