use Rattle.named_report.proofs.Laws.{heading_laws as laws}
use Rattle.named_report.proofs.put_heading.Goals as goal

pub put-p-requires : goal.put-p-requires
put-p-requires c = search laws

pub put-q-requires : goal.put-q-requires
put-q-requires c = search laws

pub put-requires : goal.put-requires
put-requires c = search laws

pub returns-then-name-gt0 : goal.returns-then-name-gt0
returns-then-name-gt0 c = search laws

pub returns : goal.returns
returns c = search laws
