use Rattle.report.proofs.Laws.{digit_laws as laws}
use Rattle.report.proofs.+put_digits.Goals as goal

pub put_byte-requires : goal.put_byte-requires
put_byte-requires t c = search laws

pub returns-then-n-lt10 : goal.returns-then-n-lt10
returns-then-n-lt10 t c = search laws

pub put_digits-p-requires : goal.put_digits-p-requires
put_digits-p-requires t c = search laws

pub put_byte-requires-2 : goal.put_byte-requires-2
put_byte-requires-2 t c = search laws

pub returns : goal.returns
returns t c = search laws
