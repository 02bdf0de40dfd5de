use Rattle.file_report.proofs.Laws.{laws}
use Rattle.file_report.specs.Input.{input_at}
use Rattle.file_report.proofs.input_verdict.Goals as goal

pub returns-then-f-gt65536 : goal.returns-then-f-gt65536
unfolding input_at
returns-then-f-gt65536 c = search laws

pub returns : goal.returns
unfolding input_at
returns c = search laws
