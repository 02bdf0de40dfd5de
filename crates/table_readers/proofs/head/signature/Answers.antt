use Rattle.table_readers.proofs.HeadLaws.{laws}
use Rattle.table_readers.proofs.head.signature.Goals as goal

pub returns-in-Ok : goal.returns-in-Ok
returns-in-Ok c = search laws

pub returns-in-Err : goal.returns-in-Err
returns-in-Err c = search laws
