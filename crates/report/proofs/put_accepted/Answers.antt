use Rattle.report.proofs.Laws.{accepted_laws as laws}
use Rattle.report.specs.Lines.{accepted_lines}
use Rattle.report.proofs.put_accepted.Goals as goal

pub returns : goal.returns
unfolding accepted_lines
returns c = search laws
