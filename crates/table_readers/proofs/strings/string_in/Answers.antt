use Rattle.table_readers.proofs.StringLaws.{laws}
use Rattle.table_readers.specs.Strings.{string_in}
use Rattle.table_readers.proofs.strings.string_in.Goals as goal

pub returns-then-n-strings : goal.returns-then-n-strings
unfolding string_in
returns-then-n-strings c = search laws

pub returns : goal.returns
unfolding string_in
returns c = search laws
