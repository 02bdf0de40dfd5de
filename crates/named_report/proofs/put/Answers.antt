use Rattle.report.proofs.Laws.{put_laws as laws}
use Rattle.named_report.proofs.put.Goals as goal

pub returns : goal.returns
returns c = search laws
