use Rattle.asking.proofs.LineLaws.{number_laws as laws}
use Rattle.asking.proofs.lines.put_number.Goals as goal

pub returns : goal.returns
returns c = search laws
