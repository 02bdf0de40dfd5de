use Rattle.table_readers.proofs.StringLaws.{laws, bytes_some}
use Rattle.table_readers.proofs.strings.string_bytes.Goals as goal

pub returns-in-Ok : goal.returns-in-Ok
returns-in-Ok c = bytes_some _ _ c.in-Ok.ensures c.bytes_at.ensures

pub returns-in-Err : goal.returns-in-Err
returns-in-Err c = search laws
