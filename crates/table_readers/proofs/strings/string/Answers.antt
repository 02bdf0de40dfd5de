use Rattle.table_readers.proofs.StringLaws.{laws}
use Rattle.table_readers.proofs.strings.string.Goals as goal

pub returns-in_err-header : goal.returns-in_err-header
returns-in_err-header c = search laws

pub returns : goal.returns
returns c = search laws
