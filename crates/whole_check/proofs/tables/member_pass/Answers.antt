use Rattle.whole_check.proofs.TableLaws.{laws}
use Rattle.whole_check.proofs.tables.member_pass.Goals as goal

pub returns-in_err-member_at : goal.returns-in_err-member_at
returns-in_err-member_at c = search laws

pub returns : goal.returns
returns c = search laws
