use Rattle.table_readers.proofs.StringLaws.{laws}
use Rattle.table_readers.specs.Strings.{find_string}
use Rattle.table_readers.proofs.strings.find_string.Goals as goal

pub returns-in_err-header : goal.returns-in_err-header
unfolding find_string
returns-in_err-header c = search laws

pub returns : goal.returns
unfolding find_string
returns c = search laws
