use Rattle.whole_check.proofs.TableLaws.{laws}
use Rattle.whole_check.proofs.tables.handle_pass.Goals as goal

pub returns-in_err-handle_at : goal.returns-in_err-handle_at
returns-in_err-handle_at c = search laws

pub returns : goal.returns
returns c = search laws
