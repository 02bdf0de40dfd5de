use Rattle.debug_readers.proofs.Laws.{laws}
use Rattle.debug_readers.proofs.lines.line_program.Goals as goal

pub returns-in-Err : goal.returns-in-Err
returns-in-Err c = search laws

pub returns-in-Ok-None : goal.returns-in-Ok-None
returns-in-Ok-None c = search laws

pub returns-in-Ok-Some : goal.returns-in-Ok-Some
returns-in-Ok-Some c = let e = c.in-Ok-Some.ensures in search laws
