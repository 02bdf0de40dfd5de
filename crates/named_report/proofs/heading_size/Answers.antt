use Rattle.named_report.proofs.Laws.{heading_laws as laws}
use Rattle.named_report.proofs.heading_size.Goals as goal

pub returns-then-name-gt0 : goal.returns-then-name-gt0
returns-then-name-gt0 c = search laws

pub returns : goal.returns
returns c = search laws
