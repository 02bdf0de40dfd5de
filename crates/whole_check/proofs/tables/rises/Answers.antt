use Rattle.whole_check.proofs.TableLaws.{laws}
use Rattle.whole_check.proofs.tables.rises.Goals as goal

pub returns-then-later : goal.returns-then-later
returns-then-later c = search laws

pub returns : goal.returns
returns c = search laws
