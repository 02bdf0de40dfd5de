use Rattle.report.proofs.Laws.{byte_laws as laws}
use Rattle.report.proofs.put_byte.Goals as goal

pub returns : goal.returns
returns c = search laws
