use Rattle.report.proofs.Laws.{line_laws as laws}
use Rattle.report.proofs.put_number.Goals as goal

pub put_digits-end-requires : goal.put_digits-end-requires
put_digits-end-requires c = search laws

pub put_byte-requires : goal.put_byte-requires
put_byte-requires c = search laws

pub returns : goal.returns
returns c = search laws
